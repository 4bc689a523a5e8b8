-- Demand 2. Reading, writing, event classes, place matching and lifetimes as paper 01 condenses 47 CFR 11.31 and NWS Instruction 10-1712,
-- and the vote by its house rule.
use Rattle.std.specs.Prelude.{ℕ, ◌+◌, ◌-◌, ◌*◌, ◌/◌, ◌%◌, ◌≤◌, ◌≡◌, true, false, ◌&&◌, ◌||◌, List, [], ◌∷◌, ◌++◌, length, take, drop, replicate, get_or, ltb, eqb, Result}
use Prim.Native.Char.{code as letter}
use Rattle.laws.specs.Order.{granted, ◌when◌}
use Rattle.laws.specs.Lists.{every}
use Rattle.laws.specs.Numbers.{dig}
use Rattle.laws.specs.Text.{ascii, one_of}
use Rattle.laws.specs.Space.{pasted}
use Rattle.codec.specs.Codec.{got}
use Rattle.burst.specs.Strip.{stripped}
use Rattle.burst.specs.Vote.{voted_length, voted_text}
use Rattle.burst.specs.Sent.{OfBytes, Sent}
use Rattle.burst.specs.Promise.{VotePromise, said_vote}
use Rattle.burst.specs.declared.VoteAnswer.{VoteAnswer}
use Rattle.header.specs.Header.{Alert, is_origin, is_event, is_issue, is_duration, is_sender, header, parts_of, text_of, WellFormed}
use Rattle.header.specs.Reading.{read_says}
use Rattle.refusals.specs.Refusals.{said}
use Rattle.refusals.specs.declared.Refusal.{Refusal}
use Rattle.header.specs.Answers.{said_read, fields_read, alert_in, fields_of}
use Rattle.header.specs.Promise.{ReadPromise, WritePromise}
use Rattle.header.specs.declared.Fields.{Fields}
use Rattle.event.specs.Events.{events, no_double, is_listed}
use Rattle.event.specs.Class.{class_of}
use Rattle.place.specs.Place.{matches, matches_some}
use Rattle.place.specs.Meaning.{Match}
use Rattle.clock.specs.Clock.{has_day}
use Rattle.clock.specs.Calendar.{months_of, dated, split, date_of}
use Rattle.clock.specs.Lifetime.{stamp_of, moment_of, issue_of, until_of, lifetime_of, times_of}
use Rattle.clock.specs.Meaning.{Exists, Holds}
use Rattle.clock.specs.Answers.{asked}
use Rattle.clock.specs.declared.Clock.{Clock}
use Rattle.clock.specs.declared.Phase.{Phase}
use Rattle.book_rules.specs.Subscription.{Sub}
use Rattle.report.specs.Hits.{has_class, matching}
use Rattle.demands.specs.Forms.{GoesBy}

-- ---- "Reading, writing .."

-- what the table of fields allows
pub record Allowed (a : Alert) : Type 0 where
  pub origin : (length a.origin ≡ 3) × (is_origin a.origin ≡ true)
  pub event : (length a.event ≡ 3) × (is_event a.event ≡ true)
  pub places : (1 ≤ length a.places) × (length a.places ≤ 31) × (every (λ p. ltb p 1000000) a.places ≡ true)
  pub duration : (is_duration a.minutes ≡ true) × (15 ≤ a.minutes) × (a.minutes ≤ 5970)
  pub issue : is_issue a.day a.hour a.minute ≡ true
  pub sender : (length a.sender ≡ 8) × (is_sender a.sender ≡ true)

-- the places, each followed by `-`, the last by `+`
abbrev pub spelled_places : List ℕ → List ℕ
spelled_places [] = []
spelled_places (p ∷ []) = dig 6 p ++ ascii "+"
spelled_places (p ∷ (q ∷ ps)) = dig 6 p ++ (ascii "-" ++ spelled_places (q ∷ ps))

-- a text, spelled out
abbrev pub whole_text : Alert → List ℕ
whole_text a =
    (ascii "ZCZC-"
    ++ ((a.origin ++ ascii "-")
    ++ ((a.event ++ ascii "-")
    ++ (spelled_places a.places
    ++ (((dig 2 (a.minutes / 60) ++ dig 2 (a.minutes % 60)) ++ ascii "-")
    ++ ((dig 3 a.day ++ (dig 2 a.hour ++ dig 2 a.minute)) ++ ascii "-"))))))
    ++ (a.sender ++ ascii "-")

pub record ReadingAndWriting : Type 0 where
  -- "A text is read exactly if it has that form."
  pub reads_exactly : (text : List ℕ) (a : Alert)
      → (read_says text ≡ granted a → WellFormed a × (text ≡ text_of a)) × (WellFormed a × (text ≡ text_of a) → read_says text ≡ granted a)
  -- and then nothing is left over
  pub nothing_left : (text : List ℕ) (a : Alert) → read_says text ≡ granted a → header.get text 0 ≡ got (parts_of a) [] (length text)
  -- that form: the fields that the table allows, and the text ZCZC-ORG-EEE-PSSCCC-..-PSSCCC+TTTT-JJJHHMM-LLLLLLLL-
  pub form : (a : Alert) → (WellFormed a → Allowed a) × (Allowed a → WellFormed a)
  pub text : (a : Alert) → text_of a ≡ whole_text a
  -- a text with n places has 35 + 7 × n bytes: 42 to 252
  pub text_length : (a : Alert) → WellFormed a → (length (text_of a) ≡ 35 + 7 * length a.places) × (1 ≤ length a.places) × (length a.places ≤ 31)
  -- "Written fields read back the same": whatever `write` granted, `read` reads to those fields. Entries past the count, which no text
  -- carries, come back as zeros
  pub write_read : (f : Fields) (out left : List ℕ) (w : Result ℕ Refusal) (n : ℕ) (r : Result Fields Refusal) → WritePromise f out left w → said w ≡ granted n
      → ReadPromise (take n left) r
      → (said_read r ≡ granted (alert_in f)) × (fields_read r ≡ fields_of (alert_in f))
  pub write_read_same : (f : Fields) (out left : List ℕ) (w : Result ℕ Refusal) (n : ℕ) (r : Result Fields Refusal) → WritePromise f out left w → said w ≡ granted n
      → ReadPromise (take n left) r
      → f.count ≤ 31 → drop f.count f.places ≡ replicate (31 - f.count) 0 → length f.places ≡ 31 → fields_read r ≡ f
  -- "a text that was read writes back the same", where there is room
  pub read_write : (text : List ℕ) (r : Result Fields Refusal) (a : Alert) (out left : List ℕ) (w : Result ℕ Refusal) → ReadPromise text r → said_read r ≡ granted a
      → WritePromise (fields_read r) out left w
      → length text ≤ length out → (said w ≡ granted (length text)) × (left ≡ pasted out 0 text)

-- ---- ".. event classes .."

pub record Events : Type 0 where
  -- a constant list of 61 event codes, none of them twice
  pub sixty_one : length events ≡ 61
  pub no_double_code : no_double events ≡ true
  pub listed : (e : List ℕ) → is_listed e ≡ one_of events e
  -- every code, listed or not, has one class, 0 to 6
  pub class : (e : List ℕ) → GoesBy
      (
      0 when one_of ("TXF" ∷ "TXO" ∷ "TXB" ∷ "TXP" ∷ []) e
      ∷ 1 when one_of ("TOR" ∷ "SVR" ∷ []) e
      ∷ 3 when one_of ("EVI" ∷ "BLU" ∷ "CEM" ∷ []) e
      ∷ 5 when one_of ("NPT" ∷ "RMT" ∷ "RWT" ∷ "DMO" ∷ []) e
      ∷ 6 when one_of ("EAN" ∷ "NIC" ∷ "ADR" ∷ "NMN" ∷ []) e
      ∷ 1 when eqb (get_or e 2 0) (letter "W")
      ∷ 2 when eqb (get_or e 2 0) (letter "A")
      ∷ 3 when eqb (get_or e 2 0) (letter "E")
      ∷ 4 when eqb (get_or e 2 0) (letter "S")
      ∷ []
      )
      6 (class_of e)
  pub class_low : (e : List ℕ) → class_of e ≤ 6

-- ---- ".. place matching .."

pub record Matching : Type 0 where
  -- by paper 01, and where no state was sent by paper 02, §6
  pub says : (watched sent : ℕ) → matches watched sent ≡ true → Match watched sent
  pub from : (watched sent : ℕ) → Match watched sent → matches watched sent ≡ true
  -- at least one of some places
  pub none : (watched : ℕ) → matches_some watched [] ≡ false
  pub more : (watched place : ℕ) (sent : List ℕ) → matches_some watched (place ∷ sent) ≡ matches watched place || matches_some watched sent
  -- a subscription matches a header if it matches at least one of its places and its wish has the class; class 0 matches nobody
  pub subscription : (class : ℕ) (places : List ℕ) (x : Sub) → matching class places x ≡ matches_some x.place places && has_class x.wish class
  pub nobody : (wish : ℕ) → has_class wish 0 ≡ false

-- ---- ".. and lifetimes"

pub record Lifetimes : Type 0 where
  -- early: issue is later than now + 5; expired: now is at or past issue + duration; otherwise live. The state's condition holds, and no other's
  pub phase_holds : (at : Clock) (day hour minute duration : ℕ)
      → Holds (moment_of (issue_of at day hour minute)) duration (moment_of at) (lifetime_of at day hour minute duration)
  pub one_phase : (issue duration at : ℕ) (s t : Phase) → Holds issue duration at s → Holds issue duration at t → s ≡ t
  -- the end is the issue plus the duration as a moment, also over New Year; both are times that there are, where nothing is refused; and a
  -- moment is that of one time only
  pub until_moment : (at : Clock) (day hour minute duration : ℕ)
      → moment_of (until_of at day hour minute duration) ≡ moment_of (issue_of at day hour minute) + duration
  pub issue_exists : (at : Clock) (day hour minute duration : ℕ) → asked at day hour minute duration ≡ granted tt → Exists (issue_of at day hour minute)
  pub until_exists : (at : Clock) (day hour minute duration : ℕ) → asked at day hour minute duration ≡ granted tt → Exists (until_of at day hour minute duration)
  pub one_time : (t u : Clock) → Exists t → Exists u → moment_of t ≡ moment_of u → t ≡ u
  -- what is told of a header at a clock: date and time of both, and the state
  pub told : (at : Clock) (day hour minute duration : ℕ) → times_of at day hour minute duration
      ≡ record {
        issued = stamp_of (issue_of at day hour minute);
        until = stamp_of (until_of at day hour minute duration);
        phase = lifetime_of at day hour minute duration;
      }
  -- month and day by the months of that year
  pub date : (year day : ℕ) → has_day year day ≡ true → date_of year day ≡ split (dated (months_of year) 1 (day - 1))

-- ---- "voting follows its house rule"

pub record Voting : Type 0 where
  -- a granted vote writes the voted text, of the middle length, and no other byte
  pub writes : (a b c out : List ℕ) (r : VoteAnswer) (left : List ℕ) (n : ℕ) → VotePromise a b c out r left → said_vote r ≡ granted n
      → (n ≡ voted_length (stripped a) (stripped b) (stripped c)) × (take n left ≡ voted_text (stripped a) (stripped b) (stripped c) n)
      × (drop n left ≡ drop n out)
  -- the consequence: a text of 1 to 252 bytes that was sent, with at each bit two bursts that have it right, is what the vote gives
  pub consequence : (h a b c out : List ℕ) (r : VoteAnswer) (left : List ℕ) → OfBytes h a b c → Sent h a b c (length out) → VotePromise a b c out r left
      → (said_vote r ≡ granted (length h)) × (left ≡ pasted out 0 h)

pub record Demand2 : Type 0 where
  pub reading_and_writing : ReadingAndWriting
  pub events : Events
  pub matching : Matching
  pub lifetimes : Lifetimes
  pub voting : Voting
