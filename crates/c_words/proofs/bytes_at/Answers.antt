-- One byte more stands in its place; at the end all of them do.
use mathlib.Core.Path.{◌≡◌, sym, ◌∙◌}
use Prim.Native.Nat.{ℕ}
use mathlib.Core.List.{List}
use native.Mathlib.Omega.{arith}
use lib.ListN.{replicate, length, length-replicate}
use Rattle.laws.proofs.Stores.{all_stored}
use Rattle.c_words.specs.Words.{bytes_at}
use Rattle.c_words.proofs.Filled.{byte_at, bytes_length, fill}
use Rattle.c_words.proofs.bytes_at.Goals as goal

pub loop-k-preserved : goal.loop-k-preserved
loop-k-preserved g c =
    let l = c.loop-k in
    let w : List ℕ = c.args.w.now in
    let n : length (bytes_at g.row.N c.args.at w) ≡ g.row.N = bytes_length w c.args.at g.row.N (omega (arith, c.told-w)) in
    let z = length-replicate {A = ℕ} g.row.N 0 in
    fill (bytes_at g.row.N c.args.at w) (replicate g.row.N 0) l.b-items l.k c.byte_of.result (omega arith) (omega arith)
    (c.byte_of.ensures ∙ sym (byte_at w c.args.at g.row.N l.k c.loop-k-test.true)) l.invariant

pub returns : goal.returns
returns g c =
    let l = c.loop-k in
    let w : List ℕ = c.args.w.now in
    let n : length (bytes_at g.row.N c.args.at w) ≡ g.row.N = bytes_length w c.args.at g.row.N (omega (arith, c.told-w)) in
    let z = length-replicate {A = ℕ} g.row.N 0 in
    l.invariant ∙ all_stored (bytes_at g.row.N c.args.at w) (replicate g.row.N 0) l.k (omega arith) (omega arith) (omega arith)
