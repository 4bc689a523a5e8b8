-- The clock and the run of edits that the tables speak of: those of paper 01, "The report program".
use Rattle.std.specs.Prelude.{List, [], ◌∷◌}
use Rattle.clock.specs.declared.Clock.{Clock}
use Rattle.book_rules.specs.History.{Edit, adds}

-- the sample's clock and its four subscriptions
abbrev pub sample_clock : Clock
sample_clock = record { year = 2024; day = 159; hour = 18; minute = 40 }

abbrev pub sample_run : List Edit
sample_run = adds 39051 7 1 ∷ adds 439069 7 63 ∷ adds 39069 7 3 ∷ adds 39173 12 63 ∷ []
