-- One word more stands in its place; at the end all of them do.
use mathlib.Core.Path.{◌∙◌}
use Prim.Native.Nat.{ℕ}
use native.Mathlib.Omega.{arith}
use lib.ListN.{replicate, length-replicate}
use Rattle.laws.proofs.Stores.{all_stored}
use Rattle.c_words.proofs.Filled.{fill}
use Rattle.c_words.proofs.wide.Goals as goal

pub loop-k-preserved : goal.loop-k-preserved
loop-k-preserved g c =
    let l = c.loop-k in
    let z = length-replicate {A = ℕ} g.row.N 0 in
    fill c.args.bytes.now (replicate g.row.N 0) l.w-items l.k c.from.result (omega (arith, c.told-bytes)) (omega (arith, c.told-bytes))
    c.from.ensures l.invariant

pub returns : goal.returns
returns g c =
    let l = c.loop-k in
    let z = length-replicate {A = ℕ} g.row.N 0 in
    l.invariant ∙ all_stored c.args.bytes.now (replicate g.row.N 0) l.k (omega (arith, c.told-bytes)) (omega (arith, c.told-bytes)) (omega (arith, c.told-bytes))
