-- At the loop's head the voted bytes from i on are left to write.
use mathlib.Core.Path.{sym, ◌∙◌}
use mathlib.Core.List.{List}
use Prim.Native.Nat.{ℕ}
use native.Mathlib.Omega.{arith}
use lib.ListN.{length, get_or}
use Rattle.laws.specs.Space.{pasted}
use Rattle.laws.proofs.Tables.{length_table, get_or_table}
use Rattle.laws.proofs.Pasted.{todo}
use Rattle.laws.proofs.Writes.{write_next, write_end}
use Rattle.burst.specs.Bits.{voted_byte}
use Rattle.burst.specs.Steps.{voted_bytes}
use Rattle.burst.proofs.write_voted.Goals as goal

abbrev voted : List ℕ → List ℕ → List ℕ → ℕ → ℕ
voted a b c i = voted_byte (get_or a i 0) (get_or b i 0) (get_or c i 0)

pub loop-i-init : goal.loop-i-init
loop-i-init c =
    let a = c.args in
    let n = length a.a.now in
    todo a.out.now 0 (voted_bytes a.a.now a.b.now a.c.now n) (omega (arith, length_table n (voted a.a.now a.b.now a.c.now)))

pub bounds-out-i : goal.bounds-out-i
bounds-out-i c = omega (arith, c.loop-i.invariant.len)

pub loop-i-preserved : goal.loop-i-preserved
loop-i-preserved c =
    let a = c.args in
    let l = c.loop-i in
    let n = length a.a.now in
    let f = voted a.a.now a.b.now a.c.now in
    let s = voted_bytes a.a.now a.b.now a.c.now n in
    write_next a.out.now (pasted a.out.now 0 s) l.out l.i s l.i l.invariant c.majority.result
    (omega (arith, length_table n f))
    (c.majority.ensures ∙ sym (get_or_table n l.i f 0 (omega arith)))

pub shape_of-out : goal.shape_of-out
shape_of-out c = c.loop-i.invariant.len

pub returns : goal.returns
returns c =
    let a = c.args in
    let l = c.loop-i in
    let n = length a.a.now in
    let s = voted_bytes a.a.now a.b.now a.c.now n in
    write_end a.out.now (pasted a.out.now 0 s) l.out l.i s l.i l.invariant
    (omega (arith, length_table n (voted a.a.now a.b.now a.c.now)))
