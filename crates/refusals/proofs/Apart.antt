-- No two refusals say the same: from what one says its name is found again.
use Rattle.std.specs.Prelude.{ℕ, ◌≡◌, List, [], ◌∷◌, get_or}
use mathlib.Core.Path.{refl, sym, ap, ◌∙◌}
use Rattle.laws.specs.Order.{Said, granted, refused, refused_at}
use Rattle.refusals.specs.Refusals.{says}
use Rattle.refusals.specs.declared.Refusal.{Refusal}
use Rattle.refusals.specs.declared.Refusal.TheVariants.{LongBurst, NoText, ClashAt, LongText, NoStartAt, NoOriginAt, NoEventAt, NoPlaceAt, NoDurationAt, NoIssueAt, NoSenderAt, MoreAt, BadOrigin, BadEvent, BadPlaces, BadDuration, BadIssue, BadSender, NoRoom, NoSuchDay, BadClock, BadBook, BadClient, BadPlace, BadWish, StandsAlready, StandsNot, FullBook, Malformed}

-- the names, by number; a number without a name among these is never asked for
plain : List Refusal
plain =
    LongBurst
    ∷ LongBurst
    ∷ NoText
    ∷ LongBurst
    ∷ LongBurst
    ∷ LongBurst
    ∷ BadOrigin
    ∷ BadEvent
    ∷ BadPlaces
    ∷ BadDuration
    ∷ BadIssue
    ∷ BadSender
    ∷ LongBurst
    ∷ NoRoom
    ∷ NoSuchDay
    ∷ BadClock
    ∷ BadBook
    ∷ BadClient
    ∷ BadPlace
    ∷ BadWish
    ∷ StandsAlready
    ∷ StandsNot
    ∷ FullBook
    ∷ Malformed
    ∷ []

at_index : ℕ → List Refusal
at_index i =
    LongBurst
    ∷ LongBurst
    ∷ LongBurst
    ∷ ClashAt i
    ∷ LongText
    ∷ NoStartAt i
    ∷ NoOriginAt i
    ∷ NoEventAt i
    ∷ NoPlaceAt i
    ∷ NoDurationAt i
    ∷ NoIssueAt i
    ∷ NoSenderAt i
    ∷ MoreAt i
    ∷ []

name_of : {A : Type 0} → Said A → Refusal
name_of (granted a) = LongBurst
name_of (refused n) = get_or plain n LongBurst
name_of (refused_at n i) = get_or (at_index i) n LongBurst

named : (A : Type 0) (e : Refusal) → name_of (says {A = A} e) ≡ e
unfolding name_of plain at_index
named A LongBurst = refl
named A NoText = refl
named A (ClashAt i) = refl
named A LongText = refl
named A (NoStartAt i) = refl
named A (NoOriginAt i) = refl
named A (NoEventAt i) = refl
named A (NoPlaceAt i) = refl
named A (NoDurationAt i) = refl
named A (NoIssueAt i) = refl
named A (NoSenderAt i) = refl
named A (MoreAt i) = refl
named A BadOrigin = refl
named A BadEvent = refl
named A BadPlaces = refl
named A BadDuration = refl
named A BadIssue = refl
named A BadSender = refl
named A NoRoom = refl
named A NoSuchDay = refl
named A BadClock = refl
named A BadBook = refl
named A BadClient = refl
named A BadPlace = refl
named A BadWish = refl
named A StandsAlready = refl
named A StandsNot = refl
named A FullBook = refl
named A Malformed = refl

pub says_one : {A : Type 0} (e e' : Refusal) → says {A = A} e ≡ says e' → e ≡ e'
says_one {A} e e' p = sym (named A e) ∙ ap (name_of {A = A}) p ∙ named A e'
