-- A test that holds says that its parts hold, and which number is below which.
use mathlib.Core.Path.{◌≡◌, refl, sym, ◌∙◌}
use mathlib.Core.Logic.{◌⊎◌, inl, inr}
use mathlib.Core.Bool.{Bool, true, false, ◌&&◌, ◌||◌, not}
use Prim.Native.Nat.{ℕ, ◌≤◌, ◌<◌}
use native.Mathlib.Decide.{dec_lt}
use native.Mathlib.Omega.{arith}
use borrow.Author.Tests.{leb-true, le-leb}
use lib.Dec.{leb}
use Rattle.laws.specs.Numbers.{within}
use Rattle.laws.proofs.Clash.{clash}

pub impossible : {X : Type 0} → false ≡ true → X
impossible e = clash cc

-- nothing is both true and false
pub no_both : {X : Type 0} (b : Bool) → b ≡ true → b ≡ false → X
no_both b p q = impossible (sym q ∙ p)

pub and_l : (a b : Bool) → a && b ≡ true → a ≡ true
and_l true b e = refl
and_l false b e = e

pub and_r : (a b : Bool) → a && b ≡ true → b ≡ true
and_r true b e = e
and_r false b e = impossible e

pub and_i : (a b : Bool) → a ≡ true → b ≡ true → a && b ≡ true
and_i a b p q = simp (p, q)

pub or_l : (a b : Bool) → a || b ≡ false → a ≡ false
or_l true b e = e
or_l false b e = refl

pub or_r : (a b : Bool) → a || b ≡ false → b ≡ false
or_r true b e = impossible (sym e)
or_r false b e = e

pub not_not : (b : Bool) → not b ≡ false → b ≡ true
not_not true e = refl
not_not false e = sym e

pub within_lo : (a e x : ℕ) → within a e x ≡ true → a ≤ x
within_lo a e x h = leb-true a x (and_l (leb a x) (leb x e) h)

pub within_hi : (a e x : ℕ) → within a e x ≡ true → x ≤ e
within_hi a e x h = leb-true x e (and_r (leb a x) (leb x e) h)

pub within_i : (a e x : ℕ) → a ≤ x → x ≤ e → within a e x ≡ true
within_i a e x h k = and_i (leb a x) (leb x e) (le-leb a x h) (le-leb x e k)

pub le_or_lt : (m n : ℕ) → (m < n) ⊎ (n ≤ m)
le_or_lt m n = elim (dec_lt m n) [ yes p ↦ inl p | no q ↦ inr (omega arith) ]
