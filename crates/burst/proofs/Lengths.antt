-- The middle of three lengths is the same however they are given; and none is too long exactly where each has at most 268 bytes.
use mathlib.Core.Path.{◌≡◌}
use mathlib.Core.Bool.{false}
use mathlib.Core.List.{List}
use Prim.Native.Nat.{ℕ, ◌≤◌}
use native.Mathlib.Omega.{arith}
use borrow.Author.Tests.{le-ltb, ltb-false}
use lib.Dec.{ltb}
use lib.ListN.{length}
use Rattle.laws.proofs.Tests.{or_l, or_r}
use Rattle.burst.specs.Vote.{middle, too_long}

-- of three lengths in order, however they are given, it is the middle one
pub middle_of : (x y z : ℕ) → x ≤ y → y ≤ z
    → (middle x y z ≡ y) × (middle x z y ≡ y) × (middle y x z ≡ y) × (middle y z x ≡ y) × (middle z x y ≡ y) × (middle z y x ≡ y)
middle_of x y z p q = (omega arith, omega arith, omega arith, omega arith, omega arith, omega arith)

-- no burst is too long exactly where each has at most 268 bytes
module _ (a b c : List ℕ) where
  pub none_long : length a ≤ 268 → length b ≤ 268 → length c ≤ 268 → too_long a b c ≡ false
  unfolding too_long
  none_long p q r = simp (le-ltb 268 (length a) p, le-ltb 268 (length b) q, le-ltb 268 (length c) r)

  pub each_short : too_long a b c ≡ false → (length a ≤ 268) × (length b ≤ 268) × (length c ≤ 268)
  unfolding too_long
  each_short e =
      let f = or_r (ltb 268 (length a)) _ e in (
        ltb-false 268 (length a) (or_l (ltb 268 (length a)) _ e),
        ltb-false 268 (length b) (or_l (ltb 268 (length b)) _ f),
        ltb-false 268 (length c) (or_r (ltb 268 (length b)) _ f),
      )
