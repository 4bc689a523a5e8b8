-- At the loop's head the bytes from i on are left to write.
use mathlib.Core.Path.{◌≡◌, sym, ap, ◌∙◌}
use mathlib.Core.List.{List}
use Prim.Native.Nat.{ℕ, ◌+◌, ◌-◌, ◌≤◌, ◌<◌}
use native.Mathlib.Omega.{arith}
use lib.ListN.{length, drop, get_or}
use lib.Seq.{get_or-take, get_or-drop}
use Rattle.laws.specs.Space.{pasted}
use Rattle.laws.proofs.Parts.{length_part}
use Rattle.laws.proofs.Pasted.{todo}
use Rattle.laws.proofs.Writes.{write_next, write_end}
use Rattle.burst.specs.Steps.{stretch}
use Rattle.burst.proofs.write_rest.Goals as goal

sized : (p : List ℕ) (from n : ℕ) → from ≤ n → n ≤ length p → length (stretch p from n) ≡ n - from
sized p from n h g = length_part p from (n - from) (omega arith)

entry : (p : List ℕ) (from n i : ℕ) → from ≤ i → i < n → get_or (stretch p from n) (i - from) 0 ≡ get_or p i 0
entry p from n i h g =
    let e : from + (i - from) ≡ i = omega arith in
    get_or-take (n - from) (drop from p) (i - from) 0 (omega arith) ∙ get_or-drop from p (i - from) 0 ∙ ap (λ (k : ℕ). get_or p k 0) e

pub loop-i-init : goal.loop-i-init
loop-i-init c =
    let a = c.args in
    let s = stretch a.p.now a.from a.end in
    let e : a.from - a.from ≡ 0 = omega arith in
    rw e (todo a.out.now a.from s (omega (arith, sized a.p.now a.from a.end (omega arith) (omega arith))))

pub bounds-out-i : goal.bounds-out-i
bounds-out-i c = omega (arith, c.loop-i.invariant.len)

pub loop-i-preserved : goal.loop-i-preserved
loop-i-preserved c =
    let a = c.args in
    let l = c.loop-i in
    let s = stretch a.p.now a.from a.end in
    let j = l.i - a.from in
    let e : l.i + 1 - a.from ≡ j + 1 = omega arith in
    rw e
    (write_next a.out.now (pasted a.out.now a.from s) l.out l.i s j l.invariant (get_or a.p.now l.i 0)
    (omega (arith, sized a.p.now a.from a.end (omega arith) (omega arith)))
    (sym (entry a.p.now a.from a.end l.i (omega arith) (omega arith))))

pub shape_of-out : goal.shape_of-out
shape_of-out c = c.loop-i.invariant.len

pub returns : goal.returns
returns c =
    let a = c.args in
    let l = c.loop-i in
    let s = stretch a.p.now a.from a.end in
    write_end a.out.now (pasted a.out.now a.from s) l.out l.i s (l.i - a.from) l.invariant
    (omega (arith, sized a.p.now a.from a.end (omega arith) (omega arith)))
