-- How many digits a number has, by the power of ten at or below it.
use Prim.Native.Nat.{ℕ, zero, suc, ◌+◌, ◌*◌, ◌/◌, ◌^◌, ◌≤◌, ◌<◌}
use mathlib.Core.Path.{◌≡◌, sym}
use native.Mathlib.Numerals.{unary_clauses}
use native.Mathlib.Omega.{arith}
use Rattle.std.specs.Prelude.{Option, Some, None, IfSome, IfNone}
use Rattle.std.specs.Option.{unwrap_or}
use Rattle.laws.specs.Numbers.{size}
use Rattle.laws.proofs.Plain.{size_one, size_more}

ten_more : (k : ℕ) → 10 ^ suc k ≡ 10 * 10 ^ k
ten_more k = simp unary_clauses (omega arith)

ten_some : (k : ℕ) → 1 ≤ 10 ^ k
ten_some zero = omega arith
ten_some (suc k) = omega (arith, ten_more k, ten_some k)

size_power : (k n : ℕ) → 10 ^ k ≤ n → n < 10 * 10 ^ k → size n ≡ k + 1
size_power zero n a b = size_one n (omega arith)
size_power (suc k) n a b =
    let p = ten_more k in
    let s = ten_some k in
    omega (arith, size_more n (omega arith), size_power k (n / 10) (omega arith) (omega arith))

pub size_by_power : (o : Option ℕ) (n : ℕ) → IfNone o (n ≡ 0) → IfSome o (λ k. 10 ^ k ≤ n) → IfSome o (λ k. n < 10 * 10 ^ k) → unwrap_or o 0 + 1 ≡ size n
size_by_power None n z a b = sym (size_one n (omega arith))
size_by_power (Some k) n z a b = sym (size_power k n a b)
