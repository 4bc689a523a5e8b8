-- Paper 01: where at each bit of a text at least two bursts that reach so far have it right, the vote gives that text.
use mathlib.Core.Path.{◌≡◌, refl, sym, ap, ◌∙◌}
use mathlib.Core.Bool.{false, not}
use mathlib.Core.Logic.{⊎_elim, inl, inr}
use mathlib.Core.List.{List, [], ◌∷◌}
use Prim.Native.Nat.{ℕ, ◌≤◌, ◌<◌}
use native.Mathlib.Omega.{arith}
use borrow.Author.Tests.{eq-eqb, ne_eqb, le-ltb}
use lib.ListN.{length, get_or}
use lib.Seq.{take-length}
use Rattle.laws.specs.Order.{Said, granted, in_order}
use Rattle.laws.specs.Space.{pasted, leaves}
use Rattle.laws.proofs.Tests.{le_or_lt}
use Rattle.laws.proofs.Lowest.{lowest_none}
use Rattle.laws.proofs.Tables.{table_ext, table_take}
use Rattle.burst.specs.Bits.{voted_byte}
use Rattle.burst.specs.Strip.{stripped}
use Rattle.burst.specs.Vote.{voted_length, heard, clash, settled, clash_at, voted_text, vote_rows, vote_says, vote_leaves}
use Rattle.burst.specs.Sent.{Bytes, Right, Two, OfBytes, Sent}
use Rattle.burst.proofs.Heard.{of_abc, of_ab, of_ac, of_bc}
use Rattle.burst.proofs.Bytes.{same_byte, voted_right}
use Rattle.burst.proofs.Lengths.{none_long}
use Rattle.burst.proofs.Stripped.{stripped_bytes}

-- parts of `Two`
two_map : {P Q R P' Q' R' : Type 0} → (P → P') → (Q → Q') → (R → R') → Two P Q R → Two P' Q' R'
two_map f g h (inl w) = inl (f w.0, g w.1)
two_map f g h (inr (inl w)) = inr (inl (f w.0, h w.1))
two_map f g h (inr (inr w)) = inr (inr (g w.0, h w.1))

two_12 : {P Q R : Type 0} → (R → ⊥) → Two P Q R → P × Q
two_12 n (inl w) = w
two_12 n (inr (inl w)) = absurd (n w.1)
two_12 n (inr (inr w)) = absurd (n w.1)

two_13 : {P Q R : Type 0} → (Q → ⊥) → Two P Q R → P × R
two_13 n (inl w) = absurd (n w.1)
two_13 n (inr (inl w)) = w
two_13 n (inr (inr w)) = absurd (n w.0)

two_23 : {P Q R : Type 0} → (P → ⊥) → Two P Q R → Q × R
two_23 n (inl w) = absurd (n w.0)
two_23 n (inr (inl w)) = absurd (n w.0)
two_23 n (inr (inr w)) = w

-- at one position: what is settled there is the text's byte, and nothing clashes
abbrev Good : List ℕ → ℕ → Type 0
Good l t = (settled l ≡ t) × (clash l ≡ false)

two_good : (x y t : ℕ) → x ≡ t → y ≡ t → Good (x ∷ y ∷ []) t
unfolding settled clash
two_good x y t p q = (p, ap not (eq-eqb x y (p ∙ sym q)))

three_good : (x y z t : ℕ) → voted_byte x y z ≡ t → Good (x ∷ y ∷ z ∷ []) t
unfolding settled clash
three_good x y z t p = (p, refl)

module _ (h a b c : List ℕ) (of : OfBytes h a b c) (i : ℕ)
    (right : (k : ℕ) → k < 8 → Two (Right h i k a) (Right h i k b) (Right h i k c)) where
  byte : (l : List ℕ) → Bytes l → ((k : ℕ) → k < 8 → Right h i k l) → get_or l i 0 ≡ get_or h i 0
  byte l bl r = same_byte (get_or l i 0) (get_or h i 0) (bl i) (of.of_h i) (λ k p. (r k p).1)

  outside : (l : List ℕ) → length l ≤ i → (k : ℕ) → Right h i k l → ⊥
  outside l n k r = omega arith

  with_abc : i < length a → i < length b → i < length c → Good (heard a b c i) (get_or h i 0)
  with_abc p q r =
      rw (of_abc a b c i p q r)
      (three_good (get_or a i 0) (get_or b i 0) (get_or c i 0) (get_or h i 0)
      (voted_right (get_or a i 0) (get_or b i 0) (get_or c i 0) (get_or h i 0) (of.of_h i) (λ k l. two_map (λ w. w.1) (λ w. w.1) (λ w. w.1) (right k l))))

  with_ab : i < length a → i < length b → length c ≤ i → Good (heard a b c i) (get_or h i 0)
  with_ab p q r =
      rw (of_ab a b c i p q r)
      (two_good (get_or a i 0) (get_or b i 0) (get_or h i 0)
      (byte a of.of_a (λ k l. (two_12 (outside c r k) (right k l)).0)) (byte b of.of_b (λ k l. (two_12 (outside c r k) (right k l)).1)))

  with_ac : i < length a → length b ≤ i → i < length c → Good (heard a b c i) (get_or h i 0)
  with_ac p q r =
      rw (of_ac a b c i p q r)
      (two_good (get_or a i 0) (get_or c i 0) (get_or h i 0)
      (byte a of.of_a (λ k l. (two_13 (outside b q k) (right k l)).0)) (byte c of.of_c (λ k l. (two_13 (outside b q k) (right k l)).1)))

  with_bc : length a ≤ i → i < length b → i < length c → Good (heard a b c i) (get_or h i 0)
  with_bc p q r =
      rw (of_bc a b c i p q r)
      (two_good (get_or b i 0) (get_or c i 0) (get_or h i 0)
      (byte b of.of_b (λ k l. (two_23 (outside a p k) (right k l)).0)) (byte c of.of_c (λ k l. (two_23 (outside a p k) (right k l)).1)))

  good : Good (heard a b c i) (get_or h i 0)
  good =
      let lowest : Two (Right h i 0 a) (Right h i 0 b) (Right h i 0 c) = right 0 (omega arith) in
      ⊎_elim
      (λ p.
      ⊎_elim (λ q. ⊎_elim (with_abc p q) (with_ab p q) (le_or_lt i (length c)))
      (λ q. with_ac p q (two_13 (outside b q 0) lowest).1.0)
      (le_or_lt i (length b)))
      (λ p. with_bc p (two_23 (outside a p 0) lowest).0.0 (two_23 (outside a p 0) lowest).1.0)
      (le_or_lt i (length a))

-- over stripped bursts: nothing clashes, and the text is the one that was sent
module _ (h a b c : List ℕ) (of : OfBytes h a b c)
    (right : (i k : ℕ) → i < length h → k < 8 → Two (Right h i k a) (Right h i k b) (Right h i k c)) where
  at : (i : ℕ) → i < length h → Good (heard a b c i) (get_or h i 0)
  at i l = good h a b c of i (λ k p. right i k l p)

  no_clash : clash_at a b c (length h) ≡ length h
  no_clash = lowest_none (λ i. clash (heard a b c i)) (length h) 0 (λ j l. (at j (omega arith)).1) ∙ omega arith

  whole : voted_text a b c (length h) ≡ h
  whole =
      table_ext (length h) (λ i. settled (heard a b c i)) (λ i. get_or h i 0) (λ i l. (at i l).0)
      ∙ table_take (length h) h (omega arith) ∙ take-length h

  ordered : (room : ℕ) → 1 ≤ length h → length h ≤ 252 → length h ≤ room → voted_length a b c ≡ length h
      → in_order (vote_rows false (voted_length a b c) (clash_at a b c (voted_length a b c)) room) (granted (voted_length a b c)) ≡ granted (length h)
  ordered room some short fits mid =
      rw (mid, no_clash)
      (simp (ne_eqb (length h) 0 (omega arith), le-ltb 252 (length h) short, le-ltb room (length h) fits, le-ltb (length h) (length h) (omega arith)))

-- the vote says the length of the text that was sent, and leaves that text over the front of the space lent
pub consequence : (h a b c out : List ℕ) → OfBytes h a b c → Sent h a b c (length out)
    → (vote_says a b c (length out) ≡ granted (length h)) × (vote_leaves a b c out ≡ pasted out 0 h)
unfolding vote_says vote_leaves
consequence h a b c out of s =
    let st : OfBytes h (stripped a) (stripped b) (stripped c) =
    record { of_h = of.of_h; of_a = stripped_bytes a of.of_a; of_b = stripped_bytes b of.of_b; of_c = stripped_bytes c of.of_c } in
    let e : vote_says a b c (length out) ≡ granted (length h) =
    rw (none_long a b c s.short_a s.short_b s.short_c)
    (ordered h (stripped a) (stripped b) (stripped c) st s.right (length out) s.some s.short s.holds s.middle) in (
      e,
      ap (λ (v : Said ℕ). leaves (λ n d. pasted d 0 (voted_text (stripped a) (stripped b) (stripped c) n)) v out) e
          ∙ ap (pasted out 0) (whole h (stripped a) (stripped b) (stripped c) st s.right),
    )
