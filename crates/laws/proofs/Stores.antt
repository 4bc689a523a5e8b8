-- Stores upwards leave the front of the new list and the rest of the old, and downwards the front of the old and the rest of the new.
use mathlib.Core.Path.{◌≡◌, refl, sym, ap, ◌∙◌, subst}
use mathlib.Core.List.{List, [], ◌∷◌, ◌++◌, append-nil}
use Prim.Native.Nat.{ℕ, zero, suc, ◌+◌, ◌-◌, ◌≤◌, ◌<◌}
use native.Mathlib.Nat.{not-suc-le-zero, le_of_suc-le-suc}
use native.Mathlib.Omega.{arith}
use lib.ListN.{length, get_or, take, drop, set, length-append, length-drop, get_or-append, drop_of_length-le}
use lib.Seq.{length-take-le, get_or-drop, get_or-take, get_or-append-add, take_all}

pub store_up : (t w : List ℕ) (i : ℕ) → i < length t → i < length w → set (take i t ++ drop i w) i (get_or t i 0) ≡ take (suc i) t ++ drop (suc i) w
store_up [] w i h k = absurd (not-suc-le-zero h)
store_up (x ∷ t) [] i h k = absurd (not-suc-le-zero k)
store_up (x ∷ t) (y ∷ w) zero h k = refl
store_up (x ∷ t) (y ∷ w) (suc i) h k = ap (λ (l : List ℕ). x ∷ l) (store_up t w i (le_of_suc-le-suc h) (le_of_suc-le-suc k))

pub store_down : (w t : List ℕ) (i : ℕ) → i < length w → i < length t → set (take (suc i) w ++ drop (suc i) t) i (get_or t i 0) ≡ take i w ++ drop i t
store_down [] t i h k = absurd (not-suc-le-zero h)
store_down (x ∷ w) [] i h k = absurd (not-suc-le-zero k)
store_down (x ∷ w) (y ∷ t) zero h k = refl
store_down (x ∷ w) (y ∷ t) (suc i) h k = ap (λ (l : List ℕ). x ∷ l) (store_down w t i (le_of_suc-le-suc h) (le_of_suc-le-suc k))

-- what stands in such a list, before and after the seam
pub get_or_seam_left : (t w : List ℕ) (i j : ℕ) → i ≤ length t → j < i → get_or (take i t ++ drop i w) j 0 ≡ get_or t j 0
get_or_seam_left t w i j l h =
    get_or-append (take i t) (drop i w) 0 j (subst (λ (k : ℕ). j < k) (sym (length-take-le i t l)) h) ∙ get_or-take i t j 0 h

pub get_or_seam_right : (t w : List ℕ) (i j : ℕ) → i ≤ length t → i ≤ j → get_or (take i t ++ drop i w) j 0 ≡ get_or w j 0
get_or_seam_right t w i j l h =
    let e : length (take i t) + (j - i) ≡ j = rw (length-take-le i t l) (omega arith) in
    let k : i + (j - i) ≡ j = omega arith in
    subst (λ (m : ℕ). get_or (take i t ++ drop i w) m 0 ≡ get_or (drop i w) (j - i) 0) e (get_or-append-add (take i t) (drop i w) (j - i) 0)
    ∙ get_or-drop i w (j - i) 0 ∙ ap (λ (m : ℕ). get_or w m 0) k

pub length_seam : (t w : List ℕ) (i : ℕ) → length t ≡ length w → i ≤ length w → length (take i t ++ drop i w) ≡ length w
length_seam t w i e l = length-append (take i t) (drop i w) ∙ rw (length-take-le i t (omega arith), length-drop) (omega arith)

-- all of it stored
pub all_stored : (t w : List ℕ) (i : ℕ) → length w ≡ length t → i ≤ length t → length t ≤ i → take i t ++ drop i w ≡ t
all_stored t w i e a b = rw (take_all i t b, drop_of_length-le w {i = i} (omega arith)) (append-nil t)
