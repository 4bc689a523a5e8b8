-- The lines of hits, by the pairs of their words.
use Prim.Native.Nat.{ℕ, suc, ◌+◌, ◌*◌, ◌/◌, ◌≤◌, ◌<◌}
use mathlib.Core.Path.{◌≡◌, refl, sym, ap, ◌∙◌}
use mathlib.Core.List.{List, [], ◌∷◌, ◌++◌}
use mathlib.Core.Bool.{Bool}
use native.Mathlib.Numerals.{add-one}
use native.Mathlib.Omega.{arith}
use lib.ListN.{length, get_or, drop, drop_of_length-le, length-append}
use lib.Seq.{drop-cons}
use Rattle.std.specs.Simd.{first_chunks}
use Rattle.laws.specs.Space.{pasted}
use Rattle.laws.proofs.Pasted.{Todo, step, done}
use Rattle.codec.specs.Promise.{PutPromise}
use Rattle.codec.proofs.Puts.{put_fits}
use Rattle.page_lines.specs.Lines.{hit_line, hits_text}

-- 14 bytes each
pub hits_length : (hits : List ℕ) → length (hits_text hits) ≡ 14 * (length hits / 2)
unfolding hits_text
hits_length [] = refl
hits_length (p ∷ []) = refl
hits_length (p ∷ (w ∷ hits)) = omega (arith, hits_length hits)

abbrev pub pairs : List ℕ → List (List ℕ)
pairs hits = first_chunks 2 (length hits / 2) hits

abbrev pub pair_line : List ℕ → List ℕ
pair_line p = hit_line (get_or p 0 0) (get_or p 1 0)

unfoldable pub pairs_text : List (List ℕ) → List ℕ
pairs_text [] = []
pairs_text (p ∷ ps) = pair_line p ++ pairs_text ps

pub hits_pairs : (hits : List ℕ) → hits_text hits ≡ pairs_text (pairs hits)
unfolding hits_text pairs_text
hits_pairs [] = refl
hits_pairs (p ∷ []) = refl
hits_pairs (p ∷ (w ∷ hits)) =
    let n : length (p ∷ (w ∷ hits)) / 2 ≡ suc (length hits / 2) = omega arith in
    ap (λ (l : List ℕ). hit_line p w ++ l) (hits_pairs hits) ∙ sym (ap (λ (k : ℕ). pairs_text (first_chunks 2 k (p ∷ (w ∷ hits)))) n)

-- ---- the loop over pairs: the lines of those that are left, pasted at their index, give the whole

module _ (d : List ℕ) (at : ℕ) (hits : List ℕ) (ps : List (List ℕ)) where
  abbrev pub Left : List ℕ → ℕ → ℕ → Type 0
  Left d1 e i = Todo d (pasted d at (hits_text hits)) d1 e (pairs_text (drop i ps))

  pub hits_begun : ps ≡ pairs hits → at + 14 * (length hits / 2) ≤ length d → Left d at 0
  hits_begun front h =
      let e : hits_text hits ≡ pairs_text ps = hits_pairs hits ∙ ap pairs_text (sym front) in
      record { len = refl; room = omega (arith, hits_length hits, ap length e); same = ap (pasted d at) (sym e) }

  module _ (d1 : List ℕ) (e i : ℕ) (t : Left d1 e i) where
    pub hits_room : i < length ps → e + 14 ≤ length d1
    unfolding pairs_text
    hits_room h =
        let p : List ℕ = pair_line (get_or ps i []) in
        omega (arith, t.room, ap length (ap pairs_text (drop-cons ps i [] h)) ∙ length-append p (pairs_text (drop (suc i) ps)))

    pub hits_turn : i < length ps → {b : Bool} {d2 : List ℕ} → PutPromise d1 e (pair_line (get_or ps i [])) b d2 → Left d2 (e + 14) (i + 1)
    unfolding pairs_text
    hits_turn h p =
        rw add-one (
        step _ _ _ _ _ t (pair_line (get_or ps i [])) (pairs_text (drop (suc i) ps)) _ (e + 14)
        (ap pairs_text (drop-cons ps i [] h)) (put_fits p (hits_room h)) refl
        )

    pub hits_ended : length ps ≤ i → d1 ≡ pasted d at (hits_text hits)
    unfolding pairs_text
    hits_ended h = let z : pairs_text (drop i ps) ≡ [] = ap pairs_text (drop_of_length-le ps h) in done _ _ _ _ (rw z at t)
