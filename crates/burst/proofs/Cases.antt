-- Paper 01, "Both sides of each line": the lines of the vote that are marked P, each from the definitions.
use mathlib.Core.Path.{◌≡◌, refl, ap, ◌∙◌}
use mathlib.Core.Bool.{Bool, false, not}
use mathlib.Core.List.{List, [], ◌∷◌}
use Prim.Native.Nat.{ℕ, ◌+◌, ◌≤◌, ◌<◌}
use native.Mathlib.Omega.{arith}
use borrow.Author.Tests.{eq-eqb, ne_eqb, le-ltb}
use lib.Dec.{eqb}
use lib.ListN.{length, get_or}
use Rattle.laws.specs.Order.{granted, refused, refused_at}
use Rattle.laws.specs.Lists.{table, lowest, tally}
use Rattle.laws.specs.Space.{pasted}
use Rattle.laws.proofs.Lowest.{lowest_here}
use Rattle.laws.proofs.Ranges.{lowest_skip}
use Rattle.burst.specs.Bits.{voted_byte, bits_apart}
use Rattle.burst.specs.Strip.{preamble, stripped}
use Rattle.burst.specs.Vote.{heard, clash, settled, clash_at, too_long, vote_says, vote_leaves}
use Rattle.burst.proofs.Preambles.{left_whole}
use Rattle.burst.proofs.Heard.{of_ab}

-- bytes 54, 5A, 43 vote to 52, which none of them is
pub voted_52 : voted_byte 0x54 0x5A 0x43 ≡ 0x52
unfolding voted_byte
voted_52 = refl

-- and so does the call, on three bursts of one byte each
pub text_52 : (out : List ℕ) → 1 ≤ length out
    → (vote_says (0x54 ∷ []) (0x5A ∷ []) (0x43 ∷ []) (length out) ≡ granted 1) × (vote_leaves (0x54 ∷ []) (0x5A ∷ []) (0x43 ∷ []) out ≡ pasted out 0 (0x52 ∷ []))
unfolding vote_leaves vote_says too_long preamble bits_apart tally clash settled table lowest voted_byte
text_52 out h =
    let a : stripped (0x54 ∷ []) ≡ 0x54 ∷ [] = left_whole 0x54 [] refl in
    let b : stripped (0x5A ∷ []) ≡ 0x5A ∷ [] = left_whole 0x5A [] refl in
    let c : stripped (0x43 ∷ []) ≡ 0x43 ∷ [] = left_whole 0x43 [] refl in
    (rw (a, b, c) (simp (le-ltb (length out) 1 h)), rw (a, b, c) (simp (le-ltb (length out) 1 h)))

-- stripped lengths 0, 0, 9 give 2
pub empty_2 : (a b c : List ℕ) (room : ℕ) → too_long a b c ≡ false
    → length (stripped a) ≡ 0 → length (stripped b) ≡ 0 → length (stripped c) ≡ 9 → vote_says a b c room ≡ refused 2
unfolding vote_says
empty_2 a b c room l p q r = rw (l, p, q, r)

-- two alone that are equal before index k and differ there
module _ (a b c : List ℕ) (k n : ℕ) (fa : k + n ≤ length a) (fb : k + n ≤ length b) (none : length c ≡ 0) where
  apart : (i : ℕ) → i < k + n → clash (heard a b c i) ≡ not (eqb (get_or a i 0) (get_or b i 0))
  unfolding clash
  apart i h = rw (of_ab a b c i (omega arith) (omega arith) (omega arith))

  first : 0 < n → ((i : ℕ) → i < k → get_or a i 0 ≡ get_or b i 0) → (get_or a k 0 ≡ get_or b k 0 → ⊥) → clash_at a b c (k + n) ≡ k
  first s same differ =
      let f : ℕ → Bool = λ i. clash (heard a b c i) in
      let z : 0 + k ≡ k = omega arith in
      lowest_skip f k 0 n (λ j l h. apart j (omega arith) ∙ ap not (eq-eqb (get_or a j 0) (get_or b j 0) (same j (omega arith))))
      ∙ ap (λ (i : ℕ). lowest f i n) z
      ∙ lowest_here f k n s (apart k (omega arith) ∙ ap not (ne_eqb (get_or a k 0) (get_or b k 0) differ))

-- lengths 5, 5, 0 that first differ at index 3, with room lent, give 3 at 3
pub clash_3 : (a b c : List ℕ) (room : ℕ) → too_long a b c ≡ false
    → length (stripped a) ≡ 5 → length (stripped b) ≡ 5 → length (stripped c) ≡ 0
    → ((i : ℕ) → i < 3 → get_or (stripped a) i 0 ≡ get_or (stripped b) i 0) → (get_or (stripped a) 3 0 ≡ get_or (stripped b) 3 0 → ⊥)
    → 5 ≤ room → vote_says a b c room ≡ refused_at 3 3
unfolding vote_says
clash_3 a b c room l p q r same differ h =
    let e : clash_at (stripped a) (stripped b) (stripped c) 5 ≡ 3 =
    first (stripped a) (stripped b) (stripped c) 3 2 (omega arith) (omega arith) r (omega arith) same differ in
    rw (l, p, q, r, e) (simp (le-ltb room 5 h))
