-- Where a line ends: a byte counts one more before the end, until byte 10 or the end of the text comes.
use Prim.Native.Nat.{ℕ, suc, ◌+◌, ◌-◌, ◌≤◌, ◌<◌}
use mathlib.Core.Path.{◌≡◌, refl, sym, ap, ◌∙◌}
use mathlib.Core.List.{List, [], ◌∷◌}
use mathlib.Core.Bool.{Bool, true, false, ◌&&◌}
use native.Mathlib.Numerals.{add-one}
use native.Mathlib.Omega.{arith}
use lib.ListN.{length, get_or, drop, drop_of_length-le, length-drop}
use Rattle.std.specs.Prelude.{Option, Some, None, position, ◌==◌, cond, slice_range}
use Rattle.std.specs.List.{position_or_len}
use Rattle.std.proofs.lemmas.List.Recursion.{is_position_or_len}
use lib.Seq.{drop-cons, take_all}
use lib.Dec.{ltb, leb, eqb}
use borrow.Author.Tests.{eq-eqb, ne_eqb, le-ltb, le-leb, lt-leb, ltb-true, leb-true}
use Rattle.laws.specs.Order.{choose}
use Rattle.laws.proofs.Clash.{clash}
use Rattle.input_lines.specs.Steps.{to_end, line_of}

module _ (s : List ℕ) (i : ℕ) where
  pub end_here : i < length s → get_or s i 0 ≡ 10 → to_end (drop i s) ≡ 0
  unfolding to_end
  end_here h e = ap to_end (drop-cons s i 0 h) ∙ simp (eq-eqb (get_or s i 0) 10 e)

  pub end_more : i < length s → (get_or s i 0 ≡ 10 → ⊥) → to_end (drop i s) ≡ 1 + to_end (drop (i + 1) s)
  unfolding to_end
  end_more h e = ap to_end (drop-cons s i 0 h) ∙ simp (ne_eqb (get_or s i 0) 10 e, add-one) (omega arith)

  pub end_none : length s ≤ i → to_end (drop i s) ≡ 0
  unfolding to_end
  end_none h = ap to_end (drop_of_length-le s h)

pub end_le : (s : List ℕ) → to_end s ≤ length s
unfolding to_end
end_le [] = omega arith
end_le (x ∷ xs) = go (eqb x 10) (end_le xs)
  where
    go : (t : Bool) → to_end xs ≤ length xs → choose t 0 (suc (to_end xs)) ≤ length (x ∷ xs)
    go true h = omega arith
    go false h = omega arith

-- ---- as the library counts to it

end_step : (x : ℕ) (xs : List ℕ) → to_end (x ∷ xs) ≡ cond (x == 10) 0 (1 + to_end xs)
unfolding to_end
end_step x xs = go (eqb x 10)
  where
    go : (t : Bool) → choose t 0 (suc (to_end xs)) ≡ cond t 0 (1 + to_end xs)
    go true = refl
    go false = omega arith

end_none_is : to_end [] ≡ 0
unfolding to_end
end_none_is = refl

pub end_position : (s : List ℕ) → position (λ b. b == 10) s ≡ choose (ltb (to_end s) (length s)) (Some (to_end s)) None
end_position s = (λ q. cond (ltb (e q) (length s)) (Some (e q)) None) ∙ go (ltb (to_end s) (length s))
  where
    e : position_or_len (λ b. b == 10) s ≡ to_end s
    e = sym (is_position_or_len to_end (λ b. b == 10) end_none_is end_step s)

    go : (t : Bool) → cond t (Some (to_end s)) None ≡ choose t (Some (to_end s)) None
    go true = refl
    go false = refl

-- ---- the line from index at on

pub line_past : (s : List ℕ) (at : ℕ) → length s < at → None ≡ line_of s at
unfolding line_of
line_past s at h = simp (le-ltb (to_end (drop at s)) (length (drop at s)) (omega (arith, length-drop at s)))

-- what is left of the text from index at on
pub rest_is : (s : List ℕ) (at : ℕ) → slice_range s at (length s) ≡ drop at s
rest_is s at = take_all (length s - at) (drop at s) (omega (arith, length-drop at s))

module _ (s : List ℕ) (at : ℕ) (rest : List ℕ) (left : rest ≡ slice_range s at (length s)) where
  abbrev first_end : Option ℕ
  first_end = position (λ b. b == 10) rest

  first_is : first_end ≡ choose (ltb (to_end (drop at s)) (length (drop at s))) (Some (to_end (drop at s))) None
  first_is = ap (position (λ b. b == 10)) (left ∙ rest_is s at) ∙ end_position (drop at s)

  pub line_none : None ≡ first_end → None ≡ line_of s at
  unfolding line_of
  line_none e = go (ltb (to_end (drop at s)) (length (drop at s))) (e ∙ first_is)
    where
      go : (t : Bool) → None ≡ choose t (Some (to_end (drop at s))) None
          → None ≡ choose (t && leb (to_end (drop at s)) 300) (Some (at + to_end (drop at s))) None
      go true e = clash cc
      go false e = refl

  line_some : (n : ℕ) → Some n ≡ first_end → choose (leb n 300) (Some (at + n)) None ≡ line_of s at
  unfolding line_of
  line_some n e = go (ltb (to_end (drop at s)) (length (drop at s))) (e ∙ first_is)
    where
      go : (t : Bool) → Some n ≡ choose t (Some (to_end (drop at s))) None
          → choose (leb n 300) (Some (at + n)) None ≡ choose (t && leb (to_end (drop at s)) 300) (Some (at + to_end (drop at s))) None
      go true e = let z : n ≡ to_end (drop at s) = cc in λ q. choose (leb (z q) 300) (Some (at + z q)) None
      go false e = clash cc

  pub line_long : (n : ℕ) → Some n ≡ first_end → 300 < n → None ≡ line_of s at
  line_long n e h = simp (lt-leb n 300 h) at (line_some n e)

  pub line_ends : (n : ℕ) → Some n ≡ first_end → n ≤ 300 → Some (at + n) ≡ line_of s at
  line_ends n e h = simp (le-leb n 300 h) at (line_some n e)

-- a line that was found: it ends at index e
pub record Found (t : List ℕ) (at e : ℕ) : Type 0 where
  pub end : to_end (drop at t) ≡ e - at
  pub low : at ≤ e
  pub inside : e < length t
  pub short : e - at ≤ 300

pub found : (t : List ℕ) (at e : ℕ) → line_of t at ≡ Some e → Found t at e
unfolding line_of
found t at e p = go (ltb (to_end (drop at t)) (length (drop at t))) refl (leb (to_end (drop at t)) 300) refl p
  where
    go : (a : Bool) → ltb (to_end (drop at t)) (length (drop at t)) ≡ a → (b : Bool) → leb (to_end (drop at t)) 300 ≡ b
        → choose (a && b) (Some (at + to_end (drop at t))) None ≡ Some e → Found t at e
    go true p true q r =
        let z : at + to_end (drop at t) ≡ e = cc in
        let l = ltb-true (to_end (drop at t)) (length (drop at t)) p in
        let m = leb-true (to_end (drop at t)) 300 q in
        let d = length-drop at t in
        record { end = omega arith; low = omega arith; inside = omega arith; short = omega arith }
    go true p false q r = clash cc
    go false p b q r = clash cc
