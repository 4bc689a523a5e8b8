-- At the loop's head the first k words are in their places, and the rest are zeros.
use mathlib.Core.Path.{◌≡◌}
use mathlib.Core.List.{◌++◌}
use lib.ListN.{take, drop, replicate}
use Rattle.c_words.proofs.wide.Given as goal

abbrev pub invariant-loop-k : goal.invariant-loop-k
invariant-loop-k g l = l.w-items ≡ take l.k l.bytes ++ drop l.k (replicate g.row.N 0)
