-- Line by line from the top: the first piece of a text is its next line, and the other pieces are those of what stands after it.
use Prim.Native.Nat.{ℕ, ◌+◌, ◌≤◌, ◌<◌}
use mathlib.Core.Path.{◌≡◌, refl, sym, ap, ◌∙◌}
use mathlib.Core.List.{List, [], ◌∷◌, ◌++◌, map}
use mathlib.Core.Bool.{Bool, true, false, ◌&&◌}
use native.Mathlib.Omega.{arith}
use lib.ListN.{length, take, drop, length-drop, drop_of_length-le, length-append}
use lib.Seq.{drop-drop}
use lib.Dec.{ltb}
use borrow.Author.Tests.{ne_eqb, ltb-true, ltb-false}
use Rattle.laws.specs.Order.{Said, granted, refused, refused_at, choose, next}
use Rattle.laws.specs.Lists.{every}
use Rattle.laws.proofs.Clash.{clash}
use Rattle.laws.proofs.Tests.{and_l, and_r}
use Rattle.input_lines.specs.Lines.{pieces, LineForm, is_line}
use Rattle.input_lines.specs.Next.{next_of}
use Rattle.input_lines.specs.LineByLine.{one_line, each_line, each_done}
use Rattle.input_lines.specs.Steps.{to_end}
use Rattle.input_lines.proofs.Pieces.{pieces_some, pieces_line, pieces_open}
use Rattle.input_lines.proofs.Next.{next_of_is, took_says}

-- ---- one line

one_line_is : {A B : Type 0} (f : LineForm A) (l : List ℕ) (ls : List (List ℕ)) (rest : A → List (List ℕ) → Said B) → 0 < length ls
    → one_line f (l ∷ ls) rest ≡ choose (is_line f l) (rest (f.value l) ls) (refused 23)
unfolding one_line
one_line_is f l [] rest h = absurd (omega arith)
one_line_is f l (m ∷ ls) rest h = refl

one_open : {A B : Type 0} (f : LineForm A) (l : List ℕ) (rest : A → List (List ℕ) → Said B) → one_line f (l ∷ []) rest ≡ refused 23
unfolding one_line
one_open f l rest = refl

module _ {A B : Type 0} (f : LineForm A) (t : List ℕ) (at : ℕ) (rest : A → List (List ℕ) → Said B) where
  -- it is taken, and the rest stands after it
  pub one_took : (v : A) (j : ℕ) → next_of f t at ≡ granted (v, j) → one_line f (pieces (drop at t)) rest ≡ rest v (pieces (drop j t))
  one_took v j p =
      let k = took_says f t at v j p in
      let n : ℕ = to_end (drop at t) in
      let i : at + (n + 1) ≡ j = omega (arith, k.next) in
      let d : drop (n + 1) (drop at t) ≡ drop j t = drop-drop (n + 1) at t ∙ ap (λ (m : ℕ). drop m t) i in
      ap (λ (ls : List (List ℕ)). one_line f ls rest) (pieces_line (drop at t) k.inside)
      ∙ one_line_is f (take n (drop at t)) (pieces (drop (n + 1) (drop at t))) rest (pieces_some (drop (n + 1) (drop at t)))
      ∙ (λ q. choose (k.line q) (rest (k.value q) (pieces (d q))) (refused 23))

  -- it is malformed
  pub one_bad : next_of f t at ≡ refused 23 → one_line f (pieces (drop at t)) rest ≡ refused 23
  one_bad p = go (ltb n (length s)) refl (is_line f (take n s)) refl (sym (next_of_is f t at) ∙ p)
    where
      s : List ℕ
      s = drop at t

      n : ℕ
      n = to_end s

      go : (a : Bool) → ltb n (length s) ≡ a → (b : Bool) → is_line f (take n s) ≡ b
          → ◌≡◌ {A = Said (A × ℕ)} (choose (a && b) (granted (f.value (take n s), at + n + 1)) (refused 23)) (refused 23)
          → one_line f (pieces s) rest ≡ refused 23
      go true p true q r = clash cc
      go true p false q r =
          ap (λ (ls : List (List ℕ)). one_line f ls rest) (pieces_line s (ltb-true n (length s) p))
          ∙ one_line_is f (take n s) (pieces (drop (n + 1) s)) rest (pieces_some (drop (n + 1) s))
          ∙ simp q
      go false p b q r =
          ap (λ (ls : List (List ℕ)). one_line f ls rest) (pieces_open s (ltb-false n (length s) p))
          ∙ one_open f s rest

-- ---- each line

module _ {A S : Type 0} (f : LineForm A) (does : S → A → Said S) where
  -- one of them is done, and then the others
  abbrev pub and_others : S → A → List (List ℕ) → Said S
  and_others s v ls = next (does s v) (λ s'. each_line f does s' ls)

  each_more : (s : S) (l : List ℕ) (ls : List (List ℕ)) → 0 < length ls → each_line f does s (l ∷ ls) ≡ one_line f (l ∷ ls) (and_others s)
  unfolding each_line one_line
  each_more s l [] h = absurd (omega arith)
  each_more s l (m ∷ ls) h = refl

  each_open : (s : S) (l : List ℕ) → 0 < length l → each_line f does s (l ∷ []) ≡ one_line f (l ∷ []) (and_others s)
  unfolding each_line one_line
  each_open s l h = simp (ne_eqb (length l) 0 (λ e. omega arith))

  -- a text that is not empty: its first line, and then the others
  pub each_one : (s : S) (t : List ℕ) → 0 < length t → each_line f does s (pieces t) ≡ one_line f (pieces t) (and_others s)
  each_one s t h = go (ltb (to_end t) (length t)) refl
    where
      go : (a : Bool) → ltb (to_end t) (length t) ≡ a → each_line f does s (pieces t) ≡ one_line f (pieces t) (and_others s)
      go true e =
          let others = drop (to_end t + 1) t in
          rw (pieces_line t (ltb-true (to_end t) (length t) e)) (each_more s (take (to_end t) t) (pieces others) (pieces_some others))
      go false e = rw (pieces_open t (ltb-false (to_end t) (length t) e)) (each_open s t h)

  module _ (s : S) (t : List ℕ) (at : ℕ) where
    pub each_took : at < length t → (v : A) (j : ℕ) → next_of f t at ≡ granted (v, j)
        → each_line f does s (pieces (drop at t)) ≡ next (does s v) (λ s'. each_line f does s' (pieces (drop j t)))
    each_took h v j e = each_one s (drop at t) (omega (arith, length-drop at t)) ∙ one_took f t at (and_others s) v j e

    pub each_bad : at < length t → next_of f t at ≡ refused 23 → each_line f does s (pieces (drop at t)) ≡ refused 23
    each_bad h e = each_one s (drop at t) (omega (arith, length-drop at t)) ∙ one_bad f t at (and_others s) e

    -- nothing is left
    pub each_done_is : length t ≤ at → each_line f does s (pieces (drop at t)) ≡ granted s
    unfolding each_line pieces
    each_done_is h = ap (λ (l : List ℕ). each_line f does s (pieces l)) (drop_of_length-le t h)

  -- lines that all have the form, with nothing after the last of them: what they say, each done in its turn
  pub each_lines : (s : S) (ls : List (List ℕ)) → every (is_line f) ls ≡ true → each_line f does s (ls ++ ([] ∷ [])) ≡ each_done does s (map f.value ls)
  unfolding each_line each_done
  each_lines s [] h = refl
  each_lines s (l ∷ ls) h =
      each_more s l (ls ++ ([] ∷ [])) (omega (arith, length-append ls ([] ∷ [])))
      ∙ one_line_is f l (ls ++ ([] ∷ [])) (and_others s) (omega (arith, length-append ls ([] ∷ [])))
      ∙ simp (and_l (is_line f l) (every (is_line f) ls) h) (by (does s (f.value l)) (λ s'. each_lines s' ls (and_r (is_line f l) (every (is_line f) ls) h)))
    where
      by : (d : Said S) → ((s' : S) → each_line f does s' (ls ++ ([] ∷ [])) ≡ each_done does s' (map f.value ls))
          → next d (λ s'. each_line f does s' (ls ++ ([] ∷ []))) ≡ next d (λ s'. each_done does s' (map f.value ls))
      by (granted s') k = k s'
      by (refused n) k = refl
      by (refused_at n i) k = refl
