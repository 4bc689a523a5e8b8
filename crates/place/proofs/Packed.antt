-- Packed places match as the places do: the parts of a packed word are those of its place.
use Prim.Native.Nat.{ℕ, ◌+◌, ◌*◌, ◌/◌, ◌%◌, ◌<◌}
use mathlib.Core.Path.{◌≡◌, refl, sym, ap, ◌∙◌}
use mathlib.Core.Bool.{true, not, ◌&&◌, ◌||◌}
use mathlib.Core.List.{List, [], ◌∷◌, map}
use native.Mathlib.Omega.{arith}
use borrow.Author.Tests.{ltb-true, eqb-true, eq-eqb}
use lib.Dec.{eqb, ltb}
use Rattle.laws.specs.Lists.{every}
use Rattle.laws.proofs.Tests.{and_l, and_r}
use Rattle.laws.proofs.Either.{bool_eq}
use Rattle.place.specs.Place.{part, state, county, meet, matches, matches_some}
use Rattle.place.specs.FirstWord.{first_word, place_of}
use Rattle.place.specs.Packed.{packed, packed_place, packed_match, packed_match_some}
use Rattle.place.proofs.Words.{place_back}

-- the parts of a packed word are those of its place
pub record Same (word : ℕ) : Type 0 where
  pub states : packed word / 16384 ≡ state (place_of word)
  pub counties : packed word / 16 % 1024 ≡ county (place_of word)
  pub parts : packed word % 16 ≡ part (place_of word)

bits : (a b d : ℕ) → b < 1000 → d < 10
    → ((a * 16384 + b * 16 + d) / 16384 ≡ a) × ((a * 16384 + b * 16 + d) / 16 % 1024 ≡ b) × ((a * 16384 + b * 16 + d) % 16 ≡ d)
bits a b d hb hd =
    let e : (a * 16384 + b * 16 + d) / 16 ≡ a * 1024 + b = omega arith in
    let f : (a * 1024 + b) % 1024 ≡ b = omega arith in
    (omega arith, rw (e, f), omega arith)

digits : (a b d : ℕ) → a < 100 → b < 1000
    → (state (d * 100000 + a * 1000 + b) ≡ a) × (county (d * 100000 + a * 1000 + b) ≡ b) × (part (d * 100000 + a * 1000 + b) ≡ d)
digits a b d ha hb =
    let e : (d * 100000 + a * 1000 + b) / 1000 ≡ d * 100 + a = omega arith in
    let f : (d * 100 + a) % 100 ≡ a = omega arith in
    (rw (e, f), omega arith, omega arith)

pub same : (word : ℕ) → word < 1000000 → Same word
unfolding packed place_of
same k h =
    let e : k / 10000 % 100 ≡ k / 10000 = omega arith in
    let p = bits (k / 10000) (k / 10 % 1000) (k % 10) (omega arith) (omega arith) in
    let q = digits (k / 10000) (k / 10 % 1000) (k % 10) (omega arith) (omega arith) in
    record { states = rw e (p.0 ∙ sym q.0); counties = rw e (p.1 ∙ sym q.1); parts = rw e (p.2 ∙ sym q.2) }

-- a packed word is 0 exactly if its place is: either way all three parts are
zero : (a b d : ℕ) → eqb (a * 16384 + b * 16 + d) 0 ≡ eqb (d * 100000 + a * 1000 + b) 0
zero a b d =
    bool_eq (eqb (a * 16384 + b * 16 + d) 0) (eqb (d * 100000 + a * 1000 + b) 0)
    (λ z. let e = eqb-true (a * 16384 + b * 16 + d) 0 z in eq-eqb (d * 100000 + a * 1000 + b) 0 (omega arith))
    (λ z. let e = eqb-true (d * 100000 + a * 1000 + b) 0 z in eq-eqb (a * 16384 + b * 16 + d) 0 (omega arith))

same_zero : (word : ℕ) → word < 1000000 → eqb (packed word) 0 ≡ eqb (place_of word) 0
unfolding packed place_of
same_zero k h =
    let e : k / 10000 % 100 ≡ k / 10000 = omega arith in
    rw e (zero (k / 10000) (k / 10 % 1000) (k % 10))

pub packed_match_is : (v w : ℕ) → v < 1000000 → w < 1000000 → packed_match (packed v) (packed w) ≡ matches (place_of v) (place_of w)
unfolding packed_match matches
packed_match_is v w hv hw =
    let a = same v hv in
    let b = same w hw in
    let z = same_zero w hw in
    λ i. z i || (not (eqb (b.states i) 0)
    && (eqb (a.states i) (b.states i) && (meet (a.counties i) (b.counties i) && meet (a.parts i) (b.parts i))))

-- the first word of any place of six digits
word_small : (place : ℕ) → place < 1000000 → first_word place < 1000000
unfolding first_word
word_small p h = omega arith

pub packed_match_place : (word place : ℕ) → word < 1000000 → place < 1000000
    → packed_match (packed word) (packed_place place) ≡ matches (place_of word) place
unfolding packed_place
packed_match_place v p hv hp = packed_match_is v (first_word p) hv (word_small p hp) ∙ ap (matches (place_of v)) (place_back p (omega arith))

pub packed_some : (word : ℕ) (places : List ℕ) → word < 1000000 → every (λ p. ltb p 1000000) places ≡ true
    → packed_match_some (packed word) (map packed_place places) ≡ matches_some (place_of word) places
unfolding packed_match_some matches_some
packed_some v [] h e = refl
packed_some v (p ∷ places) h e =
    let a = packed_match_place v p h (ltb-true p 1000000 (and_l (ltb p 1000000) (every (λ p. ltb p 1000000) places) e)) in
    let b = packed_some v places h (and_r (ltb p 1000000) (every (λ p. ltb p 1000000) places) e) in
    λ i. a i || b i
