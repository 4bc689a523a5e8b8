-- As far as the shortest of three stripped bursts goes three reach, and nothing clashes; from there on only the other two do.
use mathlib.Core.Path.{◌≡◌, refl, ap, ap₂, ◌∙◌}
use mathlib.Core.Bool.{Bool, false}
use mathlib.Core.List.{List, [], ◌∷◌, ◌++◌}
use Prim.Native.Nat.{ℕ, ◌+◌, ◌-◌, ◌≤◌, ◌<◌}
use native.Mathlib.Omega.{arith}
use lib.ListN.{length, get_or}
use Rattle.laws.specs.Lists.{table, lowest}
use Rattle.laws.proofs.Tables.{table_ext}
use Rattle.laws.proofs.Ranges.{lowest_skip, lowest_ext, table-split, table_part}
use Rattle.burst.specs.Bits.{bit, most, voted_byte}
use Rattle.burst.specs.Vote.{voted_length, heard, clash, settled, clash_at, voted_text}
use Rattle.burst.specs.Steps.{differs, first_difference, voted_bytes, stretch, blended}
use Rattle.burst.proofs.Bytes.{same_bits}
use Rattle.burst.proofs.Heard.{of_abc, of_ab, of_ac, of_bc}

-- the vote of three bytes does not depend on their order
swapped : (x y z : ℕ) → voted_byte x y z ≡ voted_byte y x z
unfolding voted_byte
swapped x y z = same_bits 8 (λ k. most (bit x k) (bit y k) (bit z k)) (λ k. most (bit y k) (bit x k) (bit z k)) (λ k l. omega arith)

turned : (x y z : ℕ) → voted_byte x y z ≡ voted_byte z x y
unfolding voted_byte
turned x y z = same_bits 8 (λ k. most (bit x k) (bit y k) (bit z k)) (λ k. most (bit z k) (bit x k) (bit y k)) (λ k l. omega arith)

-- s is the shortest of a, b and c, and p and q are the others in their order; n is the voted length
pub record Arranged (a b c s p q : List ℕ) (n : ℕ) : Type 0 where
  pub short : length s ≤ n
  pub reach : n ≤ length p
  pub three : (i : ℕ) → i < length s → (settled (heard a b c i) ≡ voted_byte (get_or s i 0) (get_or p i 0) (get_or q i 0)) × (clash (heard a b c i) ≡ false)
  pub two : (i : ℕ) → length s ≤ i → i < n → heard a b c i ≡ get_or p i 0 ∷ get_or q i 0 ∷ []

module _ (a b c : List ℕ) (n : ℕ) (e : n ≡ voted_length a b c) where
  all : (i v : ℕ) → voted_byte (get_or a i 0) (get_or b i 0) (get_or c i 0) ≡ v → i < length a → i < length b → i < length c
      → (settled (heard a b c i) ≡ v) × (clash (heard a b c i) ≡ false)
  unfolding settled clash
  all i v w p q r = rw (of_abc a b c i p q r) (w, refl)

  pub shortest_a : length a ≤ length b → length a ≤ length c → Arranged a b c a b c n
  shortest_a h g = record {
    short = omega arith;
    reach = omega arith;
    three = λ i l. all i _ refl (omega arith) (omega arith) (omega arith);
    two = λ i l m. of_bc a b c i (omega arith) (omega arith) (omega arith);
  }

  pub shortest_b : length b ≤ length a → length b ≤ length c → Arranged a b c b a c n
  shortest_b h g = record {
    short = omega arith;
    reach = omega arith;
    three = λ i l. all i _ (swapped (get_or a i 0) (get_or b i 0) (get_or c i 0)) (omega arith) (omega arith) (omega arith);
    two = λ i l m. of_ac a b c i (omega arith) (omega arith) (omega arith);
  }

  pub shortest_c : length c ≤ length a → length c ≤ length b → Arranged a b c c a b n
  shortest_c h g = record {
    short = omega arith;
    reach = omega arith;
    three = λ i l. all i _ (turned (get_or a i 0) (get_or b i 0) (get_or c i 0)) (omega arith) (omega arith) (omega arith);
    two = λ i l m. of_ab a b c i (omega arith) (omega arith) (omega arith);
  }

module _ (a b c s p q : List ℕ) (n : ℕ) (r : Arranged a b c s p q n) where
  whole : n ≡ length s + (n - length s)
  whole = omega (arith, r.short)

  apart : (i : ℕ) → length s ≤ i → i < n → clash (heard a b c i) ≡ differs p q i
  unfolding clash
  apart i h g = rw (r.two i h g)

  -- nothing clashes where three reach, so the lowest clash is the first difference of the other two
  pub clash_is : clash_at a b c n ≡ first_difference p q (length s) n
  clash_is =
      let f : ℕ → Bool = λ i. clash (heard a b c i) in
      let z : 0 + length s ≡ length s = omega arith in
      ap (lowest f 0) whole
      ∙ lowest_skip f (length s) 0 (n - length s) (λ j l g. (r.three j (omega arith)).1)
      ∙ ap (λ (k : ℕ). lowest f k (n - length s)) z
      ∙ lowest_ext f (differs p q) (n - length s) (length s) (λ j l g. apart j (omega arith) (omega (arith, r.short)))

  first : (i : ℕ) → length s ≤ i → i < n → settled (heard a b c i) ≡ get_or p i 0
  unfolding settled
  first i h g = rw (r.two i h g)

  pub text_is : voted_text a b c n ≡ blended s p q n
  text_is =
      let f : ℕ → ℕ = λ i. settled (heard a b c i) in
      let t : table (length s) f ≡ voted_bytes s p q (length s) =
      table_ext (length s) f (λ i. voted_byte (get_or s i 0) (get_or p i 0) (get_or q i 0)) (λ i l. (r.three i l).0) in
      let u : table (n - length s) (λ i. f (length s + i)) ≡ stretch p (length s) n =
      table_ext (n - length s) (λ i. f (length s + i)) (λ i. get_or p (length s + i) 0) (λ i l. first (length s + i) (omega arith) (omega (arith, r.short)))
      ∙ table_part (length s) (n - length s) p (omega (arith, r.short, r.reach)) in
      ap (λ (k : ℕ). table k f) whole ∙ table-split (length s) (n - length s) f ∙ ap₂ (λ (x y : List ℕ). x ++ y) t u
