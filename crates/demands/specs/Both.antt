-- Paper 01, "Both sides of each line": the lines marked P, in the paper's order, each of what the public call says.
use Rattle.std.specs.Prelude.{ℕ, ◌≤◌, ◌<◌, ◌≡◌, true, false, List, [], ◌∷◌, length, get_or, eqb}
use Rattle.laws.specs.Order.{granted, refused, refused_at}
use Rattle.laws.specs.Lists.{some}
use Rattle.laws.specs.Space.{pasted}
use Rattle.burst.specs.Strip.{stripped}
use Rattle.burst.specs.Vote.{too_long, vote_says, vote_leaves}
use Rattle.header.specs.Header.{Alert, is_issue, is_duration}
use Rattle.header.specs.Reading.{read_says}
use Rattle.place.specs.Place.{matches}
use Rattle.clock.specs.Clock.{is_clock}
use Rattle.clock.specs.Answers.{date_says, lifetime_says, times_says}
use Rattle.clock.specs.declared.Clock.{Clock}
use Rattle.book_rules.specs.Form.{form, bad_client}
use Rattle.book_rules.specs.Rules.{good}
use Rattle.report.specs.Report.{report_says}
use Rattle.header.specs.Samples.{lasting, lasts}

pub record BothSides : Type 0 where
  -- "bytes 54, 5A, 43 (hex) vote to 52, which none of them is": three bursts of one byte each
  pub votes_52 : (out : List ℕ) → 1 ≤ length out
      → (vote_says (0x54 ∷ []) (0x5A ∷ []) (0x43 ∷ []) (length out) ≡ granted 1)
      × (vote_leaves (0x54 ∷ []) (0x5A ∷ []) (0x43 ∷ []) out ≡ pasted out 0 (0x52 ∷ []))
  pub none_is_52 : some (eqb 0x52) (0x54 ∷ 0x5A ∷ 0x43 ∷ []) ≡ false
  -- "stripped lengths 0, 0, 9 give 2": of bursts none of which is over 268 bytes
  pub lengths_0_0_9 : (a b c : List ℕ) (room : ℕ) → too_long a b c ≡ false
      → length (stripped a) ≡ 0 → length (stripped b) ≡ 0 → length (stripped c) ≡ 9 → vote_says a b c room ≡ refused 2
  -- "lengths 5, 5, 0 that first differ at index 3, with room lent, give 3 at 3"
  pub lengths_5_5_0 : (a b c : List ℕ) (room : ℕ) → too_long a b c ≡ false
      → length (stripped a) ≡ 5 → length (stripped b) ≡ 5 → length (stripped c) ≡ 0
      → ((i : ℕ) → i < 3 → get_or (stripped a) i 0 ≡ get_or (stripped b) i 0) → (get_or (stripped a) 3 0 ≡ get_or (stripped b) 3 0 → ⊥)
      → 5 ≤ room → vote_says a b c room ≡ refused_at 3 3
  -- "0130 is 90 minutes": of reading a whole text
  pub d0130 : read_says (lasting "0130") ≡ granted (lasts 90)
  -- "0115 and 0000 give 9": of reading a whole text, at the field's first byte
  pub d0115 : read_says (lasting "0115") ≡ refused_at 9 20
  pub d0000 : read_says (lasting "0000") ≡ refused_at 9 20
  -- "9930 is 5,970"
  pub d9930 : read_says (lasting "9930") ≡ granted (lasts 5970)
  -- "watched 139069 matches header 039069"; "not 239069"
  pub whole_county : matches 139069 39069 ≡ true
  pub other_part : matches 139069 239069 ≡ false
  -- "watched 039173 matches header 039000"
  pub whole_state : matches 39173 39000 ≡ true
  -- "day 60 is February 29 in 2024, March 1 in 2023"
  pub leap_60 : date_says 2024 60 ≡ granted (record { month = 2; day = 29 })
  pub plain_60 : date_says 2023 60 ≡ granted (record { month = 3; day = 1 })
  -- "day 366 in 2023 gives 14": of the date; of the times and the lifetime of a header issued on that day; and of a report on one
  pub date_366 : date_says 2023 366 ≡ refused 14
  pub times_366 : (at : Clock) (hour minute duration : ℕ) → is_clock at ≡ true → at.year ≡ 2023 → is_duration duration ≡ true → is_issue 366 hour minute ≡ true
      → times_says at 366 hour minute duration ≡ refused 14
  pub lifetime_366 : (at : Clock) (hour minute duration : ℕ) → is_clock at ≡ true → at.year ≡ 2023 → is_duration duration ≡ true → is_issue 366 hour minute ≡ true
      → lifetime_says at 366 hour minute duration ≡ refused 14
  pub report_366 : (book : List ℕ) (client : ℕ) (text : List ℕ) (a : Alert) (at : Clock) (room : ℕ)
      → good form book ≡ true → bad_client client ≡ false → read_says text ≡ granted a → a.day ≡ 366 → is_clock at ≡ true → at.year ≡ 2023
      → report_says book client text at room ≡ refused 14
