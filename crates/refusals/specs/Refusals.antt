-- Paper 01, "Numbers and what they leave": the list of numbers, and what a call's result says.
use Rattle.std.specs.Prelude.{ℕ, Result, Ok, Err}
use Rattle.laws.specs.Order.{Said, granted, refused, refused_at}
use Rattle.refusals.specs.declared.Refusal.{Refusal}
use Rattle.refusals.specs.declared.Refusal.TheVariants.{LongBurst, NoText, ClashAt, LongText, NoStartAt, NoOriginAt, NoEventAt, NoPlaceAt, NoDurationAt, NoIssueAt, NoSenderAt, MoreAt, BadOrigin, BadEvent, BadPlaces, BadDuration, BadIssue, BadSender, NoRoom, NoSuchDay, BadClock, BadBook, BadClient, BadPlace, BadWish, StandsAlready, StandsNot, FullBook, Malformed}

-- the number of each refusal, and its index where one is named
abbrev pub says : {A : Type 0} → Refusal → Said A
says LongBurst = refused 1
says NoText = refused 2
says (ClashAt i) = refused_at 3 i
says LongText = refused_at 4 252
says (NoStartAt i) = refused_at 5 i
says (NoOriginAt i) = refused_at 6 i
says (NoEventAt i) = refused_at 7 i
says (NoPlaceAt i) = refused_at 8 i
says (NoDurationAt i) = refused_at 9 i
says (NoIssueAt i) = refused_at 10 i
says (NoSenderAt i) = refused_at 11 i
says (MoreAt i) = refused_at 12 i
says BadOrigin = refused 6
says BadEvent = refused 7
says BadPlaces = refused 8
says BadDuration = refused 9
says BadIssue = refused 10
says BadSender = refused 11
says NoRoom = refused 13
says NoSuchDay = refused 14
says BadClock = refused 15
says BadBook = refused 16
says BadClient = refused 17
says BadPlace = refused 18
says BadWish = refused 19
says StandsAlready = refused 20
says StandsNot = refused 21
says FullBook = refused 22
says Malformed = refused 23

-- what a result says: its value is granted, and its error is a refusal
abbrev pub said : {A : Type 0} → Result A Refusal → Said A
said (Ok a) = granted a
said (Err e) = says e

-- of what is said, the number; 0 where it is granted
abbrev pub number_of : {A : Type 0} → Said A → ℕ
number_of (granted a) = 0
number_of (refused n) = n
number_of (refused_at n i) = n
