-- At the loop's head the first k bytes are in their places, and the rest are zeros.
use mathlib.Core.Path.{◌≡◌}
use mathlib.Core.List.{◌++◌}
use lib.ListN.{take, drop, replicate}
use Rattle.c_words.specs.Words.{bytes_at}
use Rattle.c_words.proofs.bytes_at.Given as goal

abbrev pub invariant-loop-k : goal.invariant-loop-k
invariant-loop-k g l = l.b-items ≡ take l.k (bytes_at g.row.N l.at l.w) ++ drop l.k (replicate g.row.N 0)
