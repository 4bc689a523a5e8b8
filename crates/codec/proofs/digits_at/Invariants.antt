-- What the bytes that are left say, from the number so far, is what all of them say.
use Prim.Native.Nat.{ℕ, ◌^◌, ◌≤◌, ◌<◌}
use mathlib.Core.Path.{◌≡◌}
use mathlib.Core.List.{List}
use native.Mathlib.Nat.{pow-le-pow_right}
use native.Mathlib.Omega.{arith}
use lib.ListN.{length, drop}
use Rattle.laws.specs.Lists.{every}
use Rattle.laws.specs.Numbers.{digit, dec_from}
use Rattle.codec.proofs.digits_at.Given as goal

pub record Left (b : List ℕ) (n k : ℕ) : Type 0 where
  pub low : k ≤ length b
  pub small : n < 10 ^ k
  pub all : every digit (drop k b) ≡ every digit b
  pub dec : dec_from n (drop k b) ≡ dec_from 0 b

-- a number of fewer than nine digits
pub small : (k w n : ℕ) → k < w → w ≤ 9 → n < 10 ^ k → n < 100000000
small k w n h l s = omega (arith, pow-le-pow_right {n = 10} (omega arith) {i = k} {j = 8} (omega arith))

abbrev pub invariant-loop-b : goal.invariant-loop-b
invariant-loop-b l = Left l.b-items l.n l.b-index
