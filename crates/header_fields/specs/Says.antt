-- What the answer on one field says: its value, the text and the index behind it; or the number and its own index.
use Rattle.std.specs.Prelude.{ℕ, ◌+◌, List, drop, Option, Some, None}
use Rattle.laws.specs.Order.{Said, granted, refused_at}
use Rattle.codec.specs.Codec.{Out, got, no}
use Rattle.header_fields.specs.declared.Issue.{Issue}

-- what is said of a step: its value, with the index behind it; or the number and the index at which reading stops
abbrev pub told : {A : Type 0} → Out A → Said (A × ℕ)
told (got a r j) = granted (a, j)
told (no n i) = refused_at n i

abbrev pub minutes_says : List ℕ → ℕ → Option ℕ → Out ℕ
minutes_says text at (Some m) = got m (drop (at + 5) text) (at + 5)
minutes_says text at None = no 9 at

abbrev pub issue_says : List ℕ → ℕ → Option Issue → Out (ℕ × (ℕ × ℕ))
issue_says text at (Some w) = got (w.day, (w.hour, w.minute)) (drop (at + 8) text) (at + 8)
issue_says text at None = no 10 at
