-- The lines of hits, by pairs of words: how many, how long, and that they are what is put.
use Prim.Native.Nat.{ℕ, ◌*◌, ◌/◌}
use mathlib.Core.Path.{◌≡◌, refl, ap}
use mathlib.Core.List.{List, [], ◌∷◌, ◌++◌}
use native.Mathlib.Omega.{arith}
use lib.ListN.{length}
use Rattle.page_lines.specs.Lines.{hits_text}
use Rattle.page_printing.specs.Page.{ended, hit_line, hit_lines}

-- as many as there are pairs
pub hits_count : (hits : List ℕ) → length (hit_lines hits) ≡ length hits / 2
unfolding hit_lines
hits_count [] = refl
hits_count (p ∷ []) = refl
hits_count (p ∷ (w ∷ hits)) = omega (arith, hits_count hits)

-- 14 bytes each
pub hits_length : (hits : List ℕ) → length (ended (hit_lines hits)) ≡ 14 * (length hits / 2)
unfolding hit_lines ended
hits_length [] = refl
hits_length (p ∷ []) = refl
hits_length (p ∷ (w ∷ hits)) = omega (arith, hits_length hits)

-- as they are put
pub hits_as : (hits : List ℕ) → hits_text hits ≡ ended (hit_lines hits)
unfolding hits_text hit_lines ended
hits_as [] = refl
hits_as (p ∷ []) = refl
hits_as (p ∷ (w ∷ hits)) = ap (λ (l : List ℕ). ended (hit_line p w ∷ []) ++ l) (hits_as hits)
