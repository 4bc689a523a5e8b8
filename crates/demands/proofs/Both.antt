-- The lines marked P: each is a case of the crate that holds the definition, by computing.
use mathlib.Core.Path.{◌≡◌, refl, ◌∙◌}
use mathlib.Core.Bool.{true, false}
use mathlib.Core.List.{List}
use Prim.Native.Nat.{ℕ}
use Rattle.laws.specs.Order.{granted, refused}
use Rattle.header.specs.Header.{Alert}
use Rattle.header.specs.Reading.{read_says}
use Rattle.clock.specs.Clock.{has_day, is_clock}
use Rattle.clock.specs.Lifetime.{year_of}
use Rattle.clock.specs.declared.Clock.{Clock}
use Rattle.book_rules.specs.Form.{form, bad_client}
use Rattle.book_rules.specs.Rules.{good}
use Rattle.report.specs.Report.{alert_says, list_says, report_says}
use Rattle.burst.proofs.Cases.{text_52, empty_2, clash_3}
use Rattle.header.proofs.Cases.{d0130, d0115, d0000, d9930}
use Rattle.place.proofs.Matching.{cases}
use Rattle.clock.proofs.Cases.{leap_60, plain_60, plain_366, times_366, lifetime_366}
use Rattle.clock.proofs.Moments.{year_is}
use Rattle.demands.specs.Both.{BothSides}

no_366 : (year day : ℕ) → year ≡ 2023 → day ≡ 366 → has_day year day ≡ false
unfolding has_day
no_366 year day y d = rw (y, d)

report_366 : (book : List ℕ) (client : ℕ) (text : List ℕ) (a : Alert) (at : Clock) (room : ℕ)
    → good form book ≡ true → bad_client client ≡ false → read_says text ≡ granted a → a.day ≡ 366 → is_clock at ≡ true → at.year ≡ 2023
    → report_says book client text at room ≡ refused 14
unfolding report_says list_says alert_says
report_366 book client text a at room g b r d c y =
    let year : ℕ = year_of at a.day a.hour a.minute in
    let n : has_day year a.day ≡ false = no_366 year a.day (year_is at a.day a.hour a.minute ∙ y) d in
    rw (g, b, r, c, n)

pub both_sides : BothSides
both_sides = record {
  votes_52 = text_52;
  none_is_52 = refl;
  lengths_0_0_9 = empty_2;
  lengths_5_5_0 = clash_3;
  d0130 = d0130;
  d0115 = d0115;
  d0000 = d0000;
  d9930 = d9930;
  whole_county = cases.whole_county;
  other_part = cases.other_part;
  whole_state = cases.whole_state;
  leap_60 = leap_60;
  plain_60 = plain_60;
  date_366 = plain_366;
  times_366 = times_366;
  lifetime_366 = lifetime_366;
  report_366 = report_366;
}
