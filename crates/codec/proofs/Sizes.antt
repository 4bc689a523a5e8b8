-- How long a text is, once for each way of putting codecs together.
use Prim.Native.Nat.{ℕ, ◌+◌, ◌*◌, ◌≤◌}
use mathlib.Core.Path.{◌≡◌, ◌∙◌}
use mathlib.Core.List.{[], ◌∷◌}
use mathlib.Core.Bool.{true, false, ◌&&◌}
use native.Mathlib.Nat.{mul-le-mul_left}
use native.Mathlib.Omega.{arith}
use lib.ListN.{length, length-append}
use lib.Dec.{eqb}
use Rattle.laws.specs.Lists.{every}
use Rattle.laws.specs.Numbers.{within}
use Rattle.laws.proofs.Tests.{and_l, and_r, within_lo, within_hi}
use Rattle.laws.proofs.Quiet.{quiet_left, quiet_right, one_quiet}
use Rattle.codec.specs.Kind.{Kind}
use Rattle.codec.specs.Codec.{Codec, field, ◌▷◌, list_of}
use Rattle.codec.specs.Law.{Law, Sized}
use Rattle.codec.proofs.CodecLaws.{list_length}

pub field_sized : {A : Type 0} (n : ℕ) (k : Kind A) (m : ℕ) → Law k → Sized (field n k m) (λ v. k.width + 1) (k.width + 1) (k.width + 1)
field_sized n k m l = record { sized = λ v h. (length-append (k.put v) (m ∷ []) ∙ omega (arith, (l.writes v (one_quiet h)).0), omega arith, omega arith) }

pub then_sized : {A B : Type 0} (c : Codec A) (d : Codec B) (x : A → ℕ) (y : B → ℕ) (lo hi lo' hi' : ℕ) → Sized c x lo hi → Sized d y lo' hi'
    → Sized (c ▷ d) (λ v. x v.0 + y v.1) (lo + lo') (hi + hi')
then_sized c d x y lo hi lo' hi' sc sd = record {
  sized = λ v h.
      let p = sc.sized v.0 (quiet_left (c.faults v.0) (d.faults v.1) h) in
      let q = sd.sized v.1 (quiet_right (c.faults v.0) (d.faults v.1) h) in
      (length-append (c.text v.0) (d.text v.1) ∙ omega (arith, p.0, q.0), omega (arith, p.1, q.1), omega (arith, p.2, q.2));
}

pub list_sized : {A : Type 0} (m n : ℕ) (k : Kind A) (a e : ℕ) → Law k → eqb a e ≡ false
    → Sized (list_of m n k a e) (λ ps. (k.width + 1) * length ps) ((k.width + 1) * 1) ((k.width + 1) * m)
list_sized m n k a e law apart = record {
  sized = λ ps f.
      let ok : within 1 m (length ps) && every k.ok ps ≡ true = one_quiet f in
      let wi : within 1 m (length ps) ≡ true = and_l (within 1 m (length ps)) (every k.ok ps) ok in
      let lo : 1 ≤ length ps = within_lo 1 m (length ps) wi in
      let hi : length ps ≤ m = within_hi 1 m (length ps) wi in
      let l = list_length n k law a e apart ps lo (and_r (within 1 m (length ps)) (every k.ok ps) ok) in
      (l, mul-le-mul_left (k.width + 1) lo, mul-le-mul_left (k.width + 1) hi);
}
