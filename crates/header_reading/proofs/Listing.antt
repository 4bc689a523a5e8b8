-- The loop that reads the list of places: what is left to read, with the places read so far in front, is the whole list.
use Prim.Native.Nat.{ℕ, suc, ◌+◌, ◌-◌, ◌≤◌, ◌<◌}
use mathlib.Core.Path.{◌≡◌, refl, sym, ap, ◌∙◌}
use mathlib.Core.List.{List, [], ◌∷◌, ◌++◌, append_assoc}
use mathlib.Core.Bool.{Bool, true, false}
use mathlib.Core.Logic.{⊎_elim}
use native.Mathlib.Numerals.{add-one}
use native.Mathlib.Omega.{arith}
use lib.ListN.{length, get_or, take, drop, set, replicate, length-set}
use lib.Seq.{take-suc-set, drop-set-lt, drop-drop, get_or-drop}
use lib.Dec.{eqb}
use Rattle.std.specs.Prelude.{Ok, Err}
use Rattle.laws.specs.Order.{refused_at, choose}
use Rattle.refusals.specs.Refusals.{says}
use Rattle.refusals.specs.declared.Refusal.{Refusal}
use Rattle.refusals.specs.declared.Refusal.TheVariants.{NoPlaceAt}
use Rattle.laws.proofs.Tests.{le_or_lt}
use Rattle.codec.specs.Codec.{Out, got, no, and_then, fits, step, either, get_list}
use Rattle.codec.proofs.Fits.{fits_long}
use Rattle.codec.proofs.Stages.{step_told}
use Rattle.codec.proofs.Stops.{step_stops}
use Rattle.header.specs.Header.{place, dash, plus}
use Rattle.header.specs.Parts.{places}
use Rattle.header_fields.specs.Says.{told}
use Rattle.header_fields.proofs.Told.{stopped, taken}
use Rattle.header_fields.specs.Promise.{PlaceAtPromise}
use Rattle.header_reading.specs.Steps.{PlacesAt}

abbrev mark : ℕ → Bool
mark = either dash plus

abbrev onto : List ℕ → Out (List ℕ) → Out (List ℕ)
onto ps o = and_then o (λ qs r j. got (ps ++ qs) r j)

onto_nil : (o : Out (List ℕ)) → onto [] o ≡ o
onto_nil (got qs r j) = refl
onto_nil (no n i) = refl

onto_onto : (ps : List ℕ) (p : ℕ) (o : Out (List ℕ)) → onto ps (and_then o (λ qs r j. got (p ∷ qs) r j)) ≡ onto (ps ++ (p ∷ [])) o
onto_onto ps p (got qs r j) = simp append_assoc
onto_onto ps p (no n i) = refl

-- n places are read, and i is the next index
pub record Going (t : List ℕ) (at : ℕ) (codes : List ℕ) (n i : ℕ) : Type 0 where
  pub low : n ≤ 31
  pub inside : i ≤ length t
  pub len : length codes ≡ 31
  pub rest : drop n codes ≡ replicate (31 - n) 0
  pub whole : onto (take n codes) (get_list 8 place dash plus (31 - n) (drop i t) i) ≡ places.get (drop at t) at

begun_zeros : (t : List ℕ) (at : ℕ) → at ≤ length t → Going t at (replicate 31 0) 0 at
unfolding places
begun_zeros t at h = record { low = omega arith; inside = h; len = refl; rest = refl; whole = onto_nil (get_list 8 place dash plus 31 (drop at t) at) }

pub begun : (t : List ℕ) (at : ℕ) (codes : List ℕ) → at ≤ length t → codes ≡ replicate 31 0 → Going t at codes 0 at
begun t at codes h z = rw z (begun_zeros t at h)

module _ (t : List ℕ) (at : ℕ) (codes : List ℕ) (n i : ℕ) (g : Going t at codes n i) where
  abbrev left : ℕ → Out (List ℕ)
  left m = get_list 8 place dash plus m (drop i t) i

  -- what is left says no, so the whole list does
  no_more : (e : Refusal) (x y : ℕ) → says {A = List ℕ × ℕ} e ≡ refused_at x y → left (31 - n) ≡ no x y → PlacesAt t at codes (Err e)
  no_more e x y h s = h ∙ ap told (sym (sym g.whole ∙ ap (onto (take n codes)) s))

  pub full : 31 ≤ n → PlacesAt t at codes (Err (NoPlaceAt i))
  full h = no_more (NoPlaceAt i) 8 i refl (let z : 31 - n ≡ 0 = omega arith in ap left z)

  more : n < 31 → 31 - n ≡ suc (31 - (n + 1))
  more lt = omega arith

  -- the step's own number and index; after 31 places they would be the list's too
  pub stop : (e : Refusal) → PlaceAtPromise t i (Err e) → PlacesAt t at codes (Err e)
  stop e p =
      let s = stopped (List ℕ × ℕ) (step 8 place mark (drop i t) i) e p.says in
      let f = step_stops 8 place mark (drop i t) i s.its s.at s.stops in
      let own : no 8 i ≡ no s.its s.at = λ q. no (sym f.1 q) (sym f.2 q) in
      ⊎_elim (λ lt. let l : left (31 - n) ≡ no 8 i = ap left (more lt) ∙ simp f.0 in no_more e s.its s.at s.says (l ∙ own))
      (λ ge. let z : 31 - n ≡ 0 = omega arith in no_more e s.its s.at s.says (ap left z ∙ own)) (le_or_lt n 31)

-- a place stands there
pub step_is : (t : List ℕ) (i p j : ℕ) → PlaceAtPromise t i (Ok (p, j)) → got p (drop j t) j ≡ step 8 place mark (drop i t) i
step_is t i p j a = taken 8 place mark t i p j a.says

pub long : (t : List ℕ) (i p j : ℕ) → got p (drop j t) j ≡ step 8 place mark (drop i t) i → i + 6 < length t
long t i p j s = fits_long place mark t i (step_told 8 place mark (drop i t) i p (drop j t) j (sym s)).0

-- a place stands there: the code p, and the index j after it and its mark
module _
    (t : List ℕ)
    (at : ℕ)
    (codes : List ℕ)
    (n i p j : ℕ)
    (g : Going t at codes n i)
    (lt : n < 31)
    (s : got p (drop j t) j ≡ step 8 place mark (drop i t) i)
  where
    was : (fits place mark (drop i t) ≡ true) × (place.value (take 6 (drop i t)) ≡ p) × (drop 7 (drop i t) ≡ drop j t) × (i + 7 ≡ j)
    was = step_told 8 place mark (drop i t) i p (drop j t) j (sym s)

    abbrev after : Out (List ℕ)
    after = get_list 8 place dash plus (31 - (n + 1)) (drop j t) j

    -- the rest of the list, one step on
    abbrev then : Out (List ℕ)
    then = choose (eqb (get_or t (i + 6) 0) plus) (got (p ∷ []) (drop j t) j) (and_then after (λ ps q l. got (p ∷ ps) q l))

    went : onto (take n codes) then ≡ places.get (drop at t) at
    went =
        let e : left t at codes n i g (31 - n) ≡ then =
        ap (left t at codes n i g) (more t at codes n i g lt) ∙ simp (was.0, was.1, was.2, was.3, get_or-drop) in
        sym (ap (onto (take n codes)) e) ∙ g.whole

    words : take (n + 1) (set codes n p) ≡ take n codes ++ (p ∷ [])
    words = ap (λ (k : ℕ). take k (set codes n p)) (add-one n) ∙ take-suc-set codes n p (omega (arith, g.len))

    zeros : drop (n + 1) (set codes n p) ≡ replicate (31 - (n + 1)) 0
    zeros =
        let e : drop n codes ≡ 0 ∷ replicate (31 - (n + 1)) 0 = g.rest ∙ ap (λ (m : ℕ). replicate m 0) (more t at codes n i g lt) in
        ap (λ (k : ℕ). drop k (set codes n p)) (add-one n) ∙ drop-set-lt (suc n) codes n p (omega arith)
        ∙ ap (λ (m : ℕ). drop m codes) (sym (add-one n)) ∙ sym (drop-drop 1 n codes) ∙ ap (drop 1) e

    pub answer : eqb (get_or t (i + 6) 0) plus ≡ true → PlacesAt t at (set codes n p) (Ok (n + 1, j))
    answer m = (
      ap (λ (ps : List ℕ). got ps (drop j t) j) words ∙ sym (sym went ∙ simp m),
      record { low = omega arith; rest = zeros; len = length-set codes n p ∙ g.len },
    )

    pub again : eqb (get_or t (i + 6) 0) plus ≡ false → Going t at (set codes n p) (n + 1) j
    again m = record {
      low = omega arith;
      inside = omega (arith, long t i p j s, was.3);
      len = length-set codes n p ∙ g.len;
      rest = zeros;
      whole =
          ap (λ (ps : List ℕ). onto ps after) words
          ∙ sym (onto_onto (take n codes) p after)
          ∙ sym (sym went ∙ simp m);
    }
