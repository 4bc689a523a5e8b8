-- The bits that both have and the bits that either has add up to both, so two numbers or-ed together are 0 exactly if each is.
use mathlib.Core.Path.{◌≡◌}
use mathlib.Core.Logic.{⊎_elim}
use mathlib.Core.Bool.{◌&&◌}
use Prim.Native.Nat.{ℕ, ◌+◌, ◌≤◌, ◌<◌}
use native.Mathlib.Omega.{arith}
use lib.Bits.{bit_and, bit_or, or_add_and, and_le_l, and_comm}
use lib.Dec.{eqb}
use borrow.Author.Tests.{eq-eqb, ne_eqb}
use Rattle.laws.proofs.Tests.{le_or_lt}

pub or_zero : (a b : ℕ) → eqb (bit_or a b) 0 ≡ eqb a 0 && eqb b 0
or_zero a b =
    let s : bit_or a b + bit_and a b ≡ a + b = or_add_and a b in
    let l : bit_and a b ≤ a = and_le_l a b in
    let c : bit_and a b ≡ bit_and b a = and_comm a b in
    let r : bit_and b a ≤ b = and_le_l b a in
    ⊎_elim
    (λ (h : 0 < a). rw (ne_eqb (bit_or a b) 0 (λ q. omega arith), ne_eqb a 0 (λ q. omega arith)))
    (λ (h : a ≤ 0).
    ⊎_elim
    (λ (k : 0 < b). rw (ne_eqb (bit_or a b) 0 (λ q. omega arith), ne_eqb b 0 (λ q. omega arith), eq-eqb a 0 (omega arith)))
    (λ (k : b ≤ 0). rw (eq-eqb (bit_or a b) 0 (omega arith), eq-eqb a 0 (omega arith), eq-eqb b 0 (omega arith)))
    (le_or_lt 0 b))
    (le_or_lt 0 a)
