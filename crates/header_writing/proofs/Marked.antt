-- The text of the list of places from one place on: that place and its mark, then the text from the next on.
use Prim.Native.Nat.{ℕ, ◌+◌, ◌*◌, ◌<◌}
use mathlib.Core.Path.{◌≡◌, refl, sym, ap, ◌∙◌}
use mathlib.Core.List.{List, [], ◌∷◌, ◌++◌, append_assoc, append-nil}
use native.Mathlib.Numerals.{add-one}
use native.Mathlib.Omega.{arith}
use lib.ListN.{length, get_or, drop, length-append}
use lib.Seq.{drop-cons, drop-length}
use Rattle.laws.specs.Numbers.{dig}
use Rattle.laws.proofs.Decimal.{length_dig}
use Rattle.header.specs.Header.{dash, plus}
use Rattle.header_writing.specs.Steps.{places_text}

-- seven bytes a place
pub places_length : (ps : List ℕ) → length (places_text ps) ≡ 7 * length ps
unfolding places_text
places_length [] = refl
places_length (p ∷ []) = length-append (dig 6 p) (plus ∷ []) ∙ omega (arith, length_dig 6 p)
places_length (p ∷ (q ∷ ps)) = length-append (dig 6 p) (dash ∷ places_text (q ∷ ps)) ∙ omega (arith, length_dig 6 p, places_length (q ∷ ps))

pub text_none : places_text [] ≡ []
unfolding places_text
text_none = refl

text_more : (p q : ℕ) (ps : List ℕ) → places_text (p ∷ (q ∷ ps)) ≡ (dig 6 p ++ (dash ∷ [])) ++ places_text (q ∷ ps)
unfolding places_text
text_more p q ps = sym (append_assoc (dig 6 p) (dash ∷ []) (places_text (q ∷ ps)))

text_one : (p : ℕ) → places_text (p ∷ []) ≡ dig 6 p ++ (plus ∷ [])
unfolding places_text
text_one p = refl

-- the place at k, and those behind it
front : (codes : List ℕ) (k : ℕ) → k < length codes → drop k codes ≡ get_or codes k 0 ∷ drop (k + 1) codes
front codes k h = drop-cons codes k 0 h ∙ rw add-one

module _ (codes : List ℕ) (k : ℕ) where
  pub places_more : k + 1 < length codes → places_text (drop k codes) ≡ (dig 6 (get_or codes k 0) ++ (dash ∷ [])) ++ places_text (drop (k + 1) codes)
  places_more h =
      let next = front codes (k + 1) h in
      ap places_text (front codes k (omega arith) ∙ ap (λ (l : List ℕ). get_or codes k 0 ∷ l) next)
      ∙ text_more (get_or codes k 0) (get_or codes (k + 1) 0) (drop (k + 1 + 1) codes)
      ∙ ap (λ (l : List ℕ). (dig 6 (get_or codes k 0) ++ (dash ∷ [])) ++ places_text l) (sym next)

  pub places_last : k + 1 ≡ length codes → places_text (drop k codes) ≡ (dig 6 (get_or codes k 0) ++ (plus ∷ [])) ++ places_text (drop (k + 1) codes)
  places_last e =
      let none : drop (k + 1) codes ≡ [] = ap (λ (n : ℕ). drop n codes) e ∙ drop-length codes in
      ap places_text (front codes k (omega arith) ∙ ap (λ (l : List ℕ). get_or codes k 0 ∷ l) none)
      ∙ text_one (get_or codes k 0)
      ∙ sym (append-nil (dig 6 (get_or codes k 0) ++ (plus ∷ [])))
      ∙ ap (λ (l : List ℕ). (dig 6 (get_or codes k 0) ++ (plus ∷ [])) ++ l) (sym (ap places_text none ∙ text_none))
