-- At most one is counted at each turn.
use Rattle.std.proofs.Common.{◌+◌, ◌≤◌}
use Rattle.book_cases.proofs.fill.Given as goal

abbrev pub invariant-loop-i : goal.invariant-loop-i
invariant-loop-i l = l.count + l.i ≤ 4096
