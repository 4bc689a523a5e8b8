-- At most all bytes are dropped, so the part that starts so many bytes on is there, and is what is left.
use mathlib.Core.Path.{refl}
use Prim.Native.Nat.{◌≤◌}
use native.Mathlib.Omega.{arith}
use lib.ListN.{length}
use Rattle.burst.proofs.Stripped.{lead_fits, stripped_is}
use Rattle.burst.proofs.strip.Goals as goal

-- the start is within
start : (c : goal.After-leading-n) → c.leading-n.result ≤ length c.args.burst.now
start c = lead_fits _ _ c.leading-n.ensures.says

pub slice_bounds-result-count : goal.slice_bounds-result-count
slice_bounds-result-count c = start c

pub slice_bounds-result-start : goal.slice_bounds-result-start
slice_bounds-result-start c = start c

pub returns : goal.returns
returns c = record { holds = stripped_is _ _ c.leading-n.ensures.says; block = refl; start = omega (arith, c.leading-n.ensures.says) }
