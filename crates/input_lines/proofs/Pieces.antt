-- The pieces of a text, byte by byte: a byte 10 starts a piece, and any other byte joins the first piece of what follows.
use Prim.Native.Nat.{ℕ, suc, ◌+◌, ◌≤◌, ◌<◌}
use mathlib.Core.Path.{◌≡◌, refl, sym, ap, ◌∙◌}
use mathlib.Core.List.{List, [], ◌∷◌, ◌++◌}
use mathlib.Core.Bool.{Bool, true, false, not}
use native.Mathlib.Numerals.{add-one}
use native.Mathlib.Omega.{arith}
use lib.ListN.{length, take, drop}
use lib.Dec.{eqb}
use borrow.Author.Tests.{eqb-true, not-true}
use Rattle.laws.specs.Order.{choose}
use Rattle.laws.specs.Lists.{every}
use Rattle.laws.proofs.Tests.{and_l, and_r}
use Rattle.input_lines.specs.Lines.{pieces, on_first}
use Rattle.input_lines.specs.Steps.{to_end}

pub pieces_some : (s : List ℕ) → 0 < length (pieces s)
unfolding pieces
pieces_some [] = omega arith
pieces_some (x ∷ xs) = go (eqb x 10) (pieces xs)
  where
    go : (t : Bool) (ls : List (List ℕ)) → 0 < length (choose t ([] ∷ ls) (on_first x ls))
    go true ls = omega arith
    go false [] = omega arith
    go false (l ∷ ls) = omega arith

-- ---- the first of them

-- a byte 10 stands in s
pub pieces_line : (s : List ℕ) → to_end s < length s → pieces s ≡ take (to_end s) s ∷ pieces (drop (to_end s + 1) s)
unfolding pieces to_end
pieces_line [] h = absurd (omega arith)
pieces_line (x ∷ xs) h = go (eqb x 10) refl (pieces_line xs) h
  where
    go : (t : Bool) → eqb x 10 ≡ t
        → (to_end xs < length xs → pieces xs ≡ take (to_end xs) xs ∷ pieces (drop (to_end xs + 1) xs))
        → choose t 0 (suc (to_end xs)) < length (x ∷ xs)
        → choose t ([] ∷ pieces xs) (on_first x (pieces xs))
        ≡ take (choose t 0 (suc (to_end xs))) (x ∷ xs) ∷ pieces (drop (choose t 0 (suc (to_end xs)) + 1) (x ∷ xs))
    go true e f h = refl
    go false e f h = ap (on_first x) (f (omega arith)) ∙ simp add-one

-- none does
pub pieces_open : (s : List ℕ) → length s ≤ to_end s → pieces s ≡ s ∷ []
unfolding pieces to_end
pieces_open [] h = refl
pieces_open (x ∷ xs) h = go (eqb x 10) (pieces_open xs) h
  where
    go : (t : Bool) → (length xs ≤ to_end xs → pieces xs ≡ xs ∷ []) → length (x ∷ xs) ≤ choose t 0 (suc (to_end xs))
        → choose t ([] ∷ pieces xs) (on_first x (pieces xs)) ≡ (x ∷ xs) ∷ []
    go true f h = absurd (omega arith)
    go false f h = ap (on_first x) (f (omega arith))

-- ---- the pieces are the text: joined by byte 10 they give it back, and none holds a byte 10

abbrev pub joined : List (List ℕ) → List ℕ
joined [] = []
joined (l ∷ []) = l
joined (l ∷ (m ∷ ls)) = l ++ (10 ∷ joined (m ∷ ls))

abbrev pub clean : List ℕ → Bool
clean = every (λ x. not (eqb x 10))

joined_first : (x : ℕ) (ls : List (List ℕ)) → joined (on_first x ls) ≡ x ∷ joined ls
joined_first x [] = refl
joined_first x (l ∷ []) = refl
joined_first x (l ∷ (m ∷ ls)) = refl

joined_none : (ls : List (List ℕ)) → 0 < length ls → joined ([] ∷ ls) ≡ 10 ∷ joined ls
joined_none [] h = absurd (omega arith)
joined_none (m ∷ ls) h = refl

pub pieces_joined : (s : List ℕ) → joined (pieces s) ≡ s
unfolding pieces
pieces_joined [] = refl
pieces_joined (x ∷ xs) = go (eqb x 10) refl (pieces_joined xs)
  where
    go : (t : Bool) → eqb x 10 ≡ t → joined (pieces xs) ≡ xs → joined (choose t ([] ∷ pieces xs) (on_first x (pieces xs))) ≡ x ∷ xs
    go true e h = joined_none (pieces xs) (pieces_some xs) ∙ (λ q. sym (eqb-true x 10 e) q ∷ h q)
    go false e h = joined_first x (pieces xs) ∙ ap (λ (l : List ℕ). x ∷ l) h

clean_first : (x : ℕ) (ls : List (List ℕ)) → eqb x 10 ≡ false → every clean ls ≡ true → every clean (on_first x ls) ≡ true
clean_first x [] e h = simp e
clean_first x (l ∷ ls) e h = simp e h

pub pieces_clean : (s : List ℕ) → every clean (pieces s) ≡ true
unfolding pieces
pieces_clean [] = refl
pieces_clean (x ∷ xs) = go (eqb x 10) refl (pieces_clean xs)
  where
    go : (t : Bool) → eqb x 10 ≡ t → every clean (pieces xs) ≡ true → every clean (choose t ([] ∷ pieces xs) (on_first x (pieces xs))) ≡ true
    go true e h = h
    go false e h = clean_first x (pieces xs) e h

-- a line that holds no byte 10, ended by one, is the first piece of a text
pub piece_first : (l s : List ℕ) → clean l ≡ true → pieces (l ++ (10 ∷ s)) ≡ l ∷ pieces s
unfolding pieces
piece_first [] s h = refl
piece_first (x ∷ l) s h =
    let e : eqb x 10 ≡ false = not-true (eqb x 10) (and_l (not (eqb x 10)) (clean l) h) in
    simp e (ap (on_first x) (piece_first l s (and_r (not (eqb x 10)) (clean l) h)))
