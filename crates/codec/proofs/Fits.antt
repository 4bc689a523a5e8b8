-- When a field and its mark stand at index at of a text, by the tests that code makes.
use Prim.Native.Nat.{ℕ, ◌+◌, ◌-◌, ◌≤◌, ◌<◌}
use mathlib.Core.Path.{◌≡◌}
use mathlib.Core.List.{List}
use mathlib.Core.Bool.{Bool, true, false, and-false}
use native.Mathlib.Omega.{arith}
use lib.ListN.{length, get_or, take, drop, length-drop}
use lib.Seq.{get_or-drop}
use lib.Dec.{ltb}
use borrow.Author.Tests.{lt-ltb, le-ltb, ltb-true}
use Rattle.laws.proofs.Tests.{and_l}
use Rattle.codec.specs.Kind.{Kind}
use Rattle.codec.specs.Codec.{fits}

module _ {A : Type 0} (k : Kind A) (mark : ℕ → Bool) (t : List ℕ) (at : ℕ) where
  pub short : length t - at ≤ k.width → fits k mark (drop at t) ≡ false
  unfolding fits
  short h = simp (le-ltb k.width (length (drop at t)) (omega (arith, length-drop at t)))

  pub bad : k.allowed (take k.width (drop at t)) ≡ false → fits k mark (drop at t) ≡ false
  unfolding fits
  bad h = simp (h, and-false)

  pub unmarked : mark (get_or t (at + k.width) 0) ≡ false → fits k mark (drop at t) ≡ false
  unfolding fits
  unmarked h = simp (get_or-drop, h, and-false)

  pub good : k.width < length t - at → k.allowed (take k.width (drop at t)) ≡ true → mark (get_or t (at + k.width) 0) ≡ true
      → fits k mark (drop at t) ≡ true
  unfolding fits
  good l h m = simp (lt-ltb k.width (length (drop at t)) (omega (arith, length-drop at t)), h, get_or-drop, m)

  -- the last test decides
  pub by_mark : k.width < length t - at → k.allowed (take k.width (drop at t)) ≡ true → mark (get_or t (at + k.width) 0) ≡ fits k mark (drop at t)
  unfolding fits
  by_mark l h = simp (lt-ltb k.width (length (drop at t)) (omega (arith, length-drop at t)), h, get_or-drop)

  -- where they stand, the text goes on past them
  pub fits_long : fits k mark (drop at t) ≡ true → at + k.width < length t
  unfolding fits
  fits_long h = omega (arith, ltb-true k.width (length (drop at t)) (and_l (ltb k.width (length (drop at t))) _ h), length-drop at t)
