-- A text that is cut off: its next line is that of the whole, if more than 300 bytes are left of it, since no longer line is taken.
use Prim.Native.Nat.{ℕ, zero, suc, ◌+◌, ◌-◌, ◌≤◌, ◌<◌}
use mathlib.Core.Path.{◌≡◌, refl, sym, ap, ◌∙◌}
use mathlib.Core.Logic.{◌⊎◌, inl, inr, ⊎_elim}
use mathlib.Core.List.{List, [], ◌∷◌}
use mathlib.Core.Bool.{Bool, true, false, ◌&&◌, and-false}
use native.Mathlib.Omega.{arith}
use lib.ListN.{length, take, drop}
use lib.Seq.{take_all, length-take-le, take-take, take-nil}
use lib.Dec.{eqb, ltb, leb}
use borrow.Author.Tests.{lt-ltb, lt-leb, leb-true, eqb-true}
use Rattle.laws.specs.Order.{Said, granted, refused, refused_at, choose, next}
use Rattle.laws.proofs.Tests.{and_l, and_r, le_or_lt}
use Rattle.codec.specs.Kind.{Kind}
use Rattle.input_lines.specs.Lines.{pieces, LineForm, whole, is_line}
use Rattle.input_lines.specs.Forms.{sub_kind, sub_line}
use Rattle.input_lines.specs.Next.{next_of}
use Rattle.input_lines.specs.LineByLine.{one_line, each_line}
use Rattle.input_lines.specs.Steps.{to_end}
use Rattle.input_lines.proofs.Ends.{end_le}
use Rattle.input_lines.proofs.Next.{next_of_is, took_says, NextLine, taken, malformed, next_line}
use Rattle.input_lines.proofs.LineByLine.{one_took, one_bad, each_one, and_others}

-- ---- where the first line ends

end_cut : (n : ℕ) (s : List ℕ) → to_end s < n → to_end (take n s) ≡ to_end s
unfolding to_end
end_cut zero s h = absurd (omega arith)
end_cut (suc n) [] h = refl
end_cut (suc n) (x ∷ xs) h = go (eqb x 10) (end_cut n xs) h
  where
    go : (t : Bool) → (to_end xs < n → to_end (take n xs) ≡ to_end xs) → choose t 0 (suc (to_end xs)) < suc n
        → choose t 0 (suc (to_end (take n xs))) ≡ choose t 0 (suc (to_end xs))
    go true f h = refl
    go false f h = ap suc (f (omega arith))

end_long : (n : ℕ) (s : List ℕ) → n ≤ to_end s → to_end (take n s) ≡ n
unfolding to_end
end_long zero s h = refl
end_long (suc n) [] h = absurd (omega arith)
end_long (suc n) (x ∷ xs) h = go (eqb x 10) (end_long n xs) h
  where
    go : (t : Bool) → (n ≤ to_end xs → to_end (take n xs) ≡ n) → suc n ≤ choose t 0 (suc (to_end xs)) → choose t 0 (suc (to_end (take n xs))) ≡ suc n
    go true f h = absurd (omega arith)
    go false f h = ap suc (f (omega arith))

-- ---- the next line

module _ {A : Type 0} (f : LineForm A) where
  bad_long : (s : List ℕ) → 300 < to_end s → next_of f s 0 ≡ refused 23
  unfolding is_line
  bad_long s h = next_of_is f s 0 ∙ simp (lt-leb (length (take (to_end s) s)) 300 (omega (arith, length-take-le (to_end s) s (end_le s))), and-false)

  next_part : (n : ℕ) (s : List ℕ) → to_end s < n → n < length s → next_of f (take n s) 0 ≡ next_of f s 0
  next_part n s h l =
      let e : to_end (take n s) ≡ to_end s = end_cut n s h in
      let a : ltb (to_end s) (length (take n s)) ≡ true = lt-ltb (to_end s) (length (take n s)) (omega (arith, length-take-le n s (omega arith))) in
      let b : ltb (to_end s) (length (take n s)) ≡ ltb (to_end s) (length s) = a ∙ sym (lt-ltb (to_end s) (length s) (omega arith)) in
      let t : take (to_end s) (take n s) ≡ take (to_end s) s = take-take (to_end s) n s (omega arith) in
      next_of_is f (take n s) 0
      ∙ (λ q. choose (ltb (e q) (length (take n s)) && is_line f (take (e q) (take n s))) (granted (f.value (take (e q) (take n s)), 0 + e q + 1)) (refused 23))
      ∙ (λ q. choose (b q && is_line f (t q)) (granted (f.value (t q), 0 + to_end s + 1)) (refused 23))
      ∙ sym (next_of_is f s 0)

  pub next_cut : (n : ℕ) (s : List ℕ) → 300 < n → next_of f (take n s) 0 ≡ next_of f s 0
  next_cut n s h = go (le_or_lt 300 (to_end s)) (le_or_lt n (length s))
    where
      go : (300 < to_end s) ⊎ (to_end s ≤ 300) → (n < length s) ⊎ (length s ≤ n) → next_of f (take n s) 0 ≡ next_of f s 0
      go k (inr l) = ap (λ (t : List ℕ). next_of f t 0) (take_all n s l)
      go (inr k) (inl l) = next_part n s (omega arith) l
      go (inl k) (inl l) =
          let far : 300 < to_end (take n s) = ⊎_elim (λ a. omega (arith, end_cut n s a)) (λ a. omega (arith, end_long n s a)) (le_or_lt (to_end s) n) in
          bad_long (take n s) far ∙ sym (bad_long s k)

  -- a line has at most 301 bytes with its byte 10
  pub took_short : (s : List ℕ) (v : A) (j : ℕ) → next_of f s 0 ≡ granted (v, j) → j ≤ 301
  unfolding is_line
  took_short s v j p =
      let k = took_says f s 0 v j p in
      let l = leb-true (length (take (to_end s) s)) 300 (and_l (leb (length (take (to_end s) s)) 300) (f.allowed (take (to_end s) s)) k.line) in
      omega (arith, k.next, length-take-le (to_end s) s (end_le s))

-- a line of a kind has as many bytes as the kind, and its byte 10
pub took_whole : {A : Type 0} (k : Kind A) (s : List ℕ) (v : A) (j : ℕ) → next_of (whole k) s 0 ≡ granted (v, j) → j ≡ k.width + 1
unfolding is_line
took_whole k s v j p =
    let w = took_says (whole k) s 0 v j p in
    let a = and_r (leb (length (take (to_end s) s)) 300) ((whole k).allowed (take (to_end s) s)) w.line in
    let l = eqb-true (length (take (to_end s) s)) k.width (and_l (eqb (length (take (to_end s) s)) k.width) _ a) in
    omega (arith, w.next, length-take-le (to_end s) s (end_le s))

-- a `sub=` line has 19
pub took_sub : (s : List ℕ) (v : ℕ × (ℕ × ℕ)) (j : ℕ) → next_of sub_line s 0 ≡ granted (v, j) → j ≡ 19
unfolding sub_line
took_sub s v j p = took_whole sub_kind s v j p

-- ---- one line, and then the rest

drop_take : (k m : ℕ) (l : List ℕ) → k ≤ m → drop k (take m l) ≡ take (m - k) (drop k l)
drop_take zero m l h = let e : m ≡ m - 0 = omega arith in ap (λ (k : ℕ). take k l) e
drop_take (suc k) zero l h = absurd (omega arith)
drop_take (suc k) (suc m) [] h = sym (take-nil (suc m - suc k))
drop_take (suc k) (suc m) (x ∷ xs) h = let e : m - k ≡ suc m - suc k = omega arith in drop_take k m xs (omega arith) ∙ ap (λ (n : ℕ). take n (drop k xs)) e

pub one_cut : {A B : Type 0} (f : LineForm A) (n : ℕ) (s : List ℕ) (rest : A → List (List ℕ) → Said B) → 300 < n
    → ((v : A) (j : ℕ) → next_of f s 0 ≡ granted (v, j) → rest v (pieces (take (n - j) (drop j s))) ≡ rest v (pieces (drop j s)))
    → one_line f (pieces (take n s)) rest ≡ one_line f (pieces s) rest
one_cut {A} {B} f n s rest h r = go (next_line f s 0)
  where
    go : NextLine f s 0 → one_line f (pieces (take n s)) rest ≡ one_line f (pieces s) rest
    go (taken v j p) =
        one_took f (take n s) 0 rest v j (next_cut f n s h ∙ p)
        ∙ ap (λ (l : List ℕ). rest v (pieces l)) (drop_take j n s (omega (arith, took_short f s v j p)))
        ∙ r v j p
        ∙ sym (one_took f s 0 rest v j p)
    go (malformed p) = one_bad f (take n s) 0 rest (next_cut f n s h ∙ p) ∙ sym (one_bad f s 0 rest p)

-- ---- each line

-- one turn: if what is left after a line that was done says the same of the cut text, so does the whole
pub each_turn : {A S : Type 0} (f : LineForm A) (does : S → A → Said S) (n : ℕ) (s : S) (t : List ℕ) → 300 < n
    → ((v : A) (j : ℕ) (s' : S) → next_of f t 0 ≡ granted (v, j) → does s v ≡ granted s'
    → each_line f does s' (pieces (take (n - j) (drop j t))) ≡ each_line f does s' (pieces (drop j t)))
    → each_line f does s (pieces (take n t)) ≡ each_line f does s (pieces t)
each_turn f does n s [] l turn = ap (λ (u : List ℕ). each_line f does s (pieces u)) (take-nil n)
each_turn {A} {S} f does n s (x ∷ xs) l turn =
    each_one f does s (take n (x ∷ xs)) (some n l)
    ∙ one_cut f n (x ∷ xs) (and_others f does s) l (λ v j p. by v j p (does s v) refl)
    ∙ sym (each_one f does s (x ∷ xs) (omega arith))
  where
    some : (m : ℕ) → 300 < m → 0 < length (take m (x ∷ xs))
    some zero k = absurd (omega arith)
    some (suc m) k = omega arith

    by : (v : A) (j : ℕ) → next_of f (x ∷ xs) 0 ≡ granted (v, j) → (d : Said S) → does s v ≡ d
        → next d (λ s'. each_line f does s' (pieces (take (n - j) (drop j (x ∷ xs))))) ≡ next d (λ s'. each_line f does s' (pieces (drop j (x ∷ xs))))
    by v j p (granted s') e = turn v j s' p e
    by v j p (refused m) e = refl
    by v j p (refused_at m i) e = refl
