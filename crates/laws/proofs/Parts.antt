-- A part of a list is its first entry and then a shorter part: that gives its length, its entries one by one, and parts of it.
use Prim.Native.Nat.{ℕ, zero, suc, ◌+◌, ◌≤◌, ◌<◌}
use mathlib.Core.Path.{◌≡◌, refl, ap, ◌∙◌}
use mathlib.Core.List.{List, [], ◌∷◌}
use native.Mathlib.Numerals.{add-one}
use native.Mathlib.Nat.{suc-add, zero-add}
use native.Mathlib.Omega.{arith}
use lib.ListN.{length, get_or, take, drop, length-drop}
use lib.Seq.{drop-cons, length-take-le, drop-drop, take-take, take-nil}

pub length_part : (t : List ℕ) (at w : ℕ) → at + w ≤ length t → length (take w (drop at t)) ≡ w
length_part t at w h = length-take-le w (drop at t) (omega (arith, length-drop at t))

-- a part, its first entry first
pub part_cons : (t : List ℕ) (at w : ℕ) → at < length t → take (suc w) (drop at t) ≡ get_or t at 0 ∷ take w (drop (at + 1) t)
part_cons t at w h = ap (take (suc w)) (drop-cons t at 0 h) ∙ rw add-one

-- w entries spelled out, from the k-th after index at on
abbrev pub spell : List ℕ → ℕ → ℕ → ℕ → List ℕ
spell t at k zero = []
spell t at k (suc w) = get_or t (at + k) 0 ∷ spell t at (suc k) w

spell_from : (t : List ℕ) (at k w : ℕ) → at + k + w ≤ length t → take w (drop (at + k) t) ≡ spell t at k w
spell_from t at k zero h = refl
spell_from t at k (suc w) h =
    let e : at + k + 1 ≡ at + suc k = omega arith in
    part_cons t (at + k) w (omega arith)
    ∙ ap (λ (l : List ℕ). get_or t (at + k) 0 ∷ l) (ap (λ (m : ℕ). take w (drop m t)) e ∙ spell_from t at (suc k) w (omega arith))

-- a part of w + 1 entries, as code reads them: at, at + 1, at + 2, ..
pub spelled : (t : List ℕ) (at w : ℕ) → at + suc w ≤ length t → take (suc w) (drop at t) ≡ get_or t at 0 ∷ spell t at 1 w
spelled t at w h = part_cons t at w (omega arith) ∙ ap (λ (l : List ℕ). get_or t at 0 ∷ l) (spell_from t at 1 w (omega arith))

drop_take : (k m : ℕ) (l : List ℕ) → drop k (take (k + m) l) ≡ take m (drop k l)
drop_take zero m l = ap (λ (n : ℕ). take n l) (zero-add m)
drop_take (suc k) m [] = simp take-nil
drop_take (suc k) m (x ∷ xs) = ap (λ (n : ℕ). drop (suc k) (take n (x ∷ xs))) (suc-add k m) ∙ drop_take k m xs

-- the two parts of a part
pub part_head : (t : List ℕ) (at w v : ℕ) → v ≤ w → take v (take w (drop at t)) ≡ take v (drop at t)
part_head t at w v h = take-take v w (drop at t) h

pub part_tail : (t : List ℕ) (at v w : ℕ) → drop v (take (v + w) (drop at t)) ≡ take w (drop (at + v) t)
part_tail t at v w = drop_take v w (drop at t) ∙ ap (take w) (drop-drop v at t)
