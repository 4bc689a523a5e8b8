-- Matching as the paper says it, in both directions; the law that books and reports use; the paper's cases.
use Prim.Native.Nat.{ℕ}
use mathlib.Core.Path.{◌≡◌, refl, ◌∙◌}
use mathlib.Core.Logic.{◌⊎◌, inl, inr, ⊎_elim}
use mathlib.Core.Bool.{Bool, true, false, not, ◌&&◌, ◌||◌}
use mathlib.Core.List.{List, [], ◌∷◌}
use native.Mathlib.Omega.{arith}
use borrow.Author.Tests.{eqb-true, eqb-false, eq-eqb, ne_eqb, not-true}
use lib.Dec.{eqb}
use Rattle.laws.specs.Lists.{some}
use Rattle.laws.proofs.Tests.{impossible, and_l, and_r, and_i}
use Rattle.laws.proofs.Either.{or_inl, or_inr}
use Rattle.place.specs.Meaning.{Meet, ByParts, Match, whole_country, by_parts}
use Rattle.place.specs.Place.{part, state, county, meet, match_by_parts, matches, matches_some}
use Rattle.place.specs.FirstWord.{bad_place}
use Rattle.place.proofs.Words.{fine}

or_cases : {P Q : Type 0} (a b : Bool) → (a ≡ true → P) → (b ≡ true → Q) → a || b ≡ true → P ⊎ Q
or_cases true b f g e = inl (f refl)
or_cases false b f g e = inr (g e)

meet_says : (a b : ℕ) → meet a b ≡ true → Meet a b
meet_says a b e =
    or_cases (eqb a b) (eqb a 0 || eqb b 0) (eqb-true a b)
    (or_cases (eqb a 0) (eqb b 0) (eqb-true a 0) (eqb-true b 0)) e

meet_from : (a b : ℕ) → Meet a b → meet a b ≡ true
meet_from a b (inl e) = rw (eq-eqb a b e)
meet_from a b (inr (inl e)) = or_inr (eqb a b) (eqb a 0 || eqb b 0) (or_inl (eqb a 0) (eqb b 0) (eq-eqb a 0 e))
meet_from a b (inr (inr e)) = or_inr (eqb a b) (eqb a 0 || eqb b 0) (or_inr (eqb a 0) (eqb b 0) (eq-eqb b 0 e))

parts_say : (watched sent : ℕ) → match_by_parts watched sent ≡ true → ByParts watched sent
parts_say w s e =
    let r = and_r (eqb (state w) (state s)) (meet (county w) (county s) && meet (part w) (part s)) e in
    record {
      states = eqb-true (state w) (state s) (and_l (eqb (state w) (state s)) (meet (county w) (county s) && meet (part w) (part s)) e);
      counties = meet_says (county w) (county s) (and_l (meet (county w) (county s)) (meet (part w) (part s)) r);
      parts = meet_says (part w) (part s) (and_r (meet (county w) (county s)) (meet (part w) (part s)) r);
    }

parts_from : (watched sent : ℕ) → ByParts watched sent → match_by_parts watched sent ≡ true
parts_from w s m =
    and_i (eqb (state w) (state s)) (meet (county w) (county s) && meet (part w) (part s)) (eq-eqb (state w) (state s) m.states)
    (and_i (meet (county w) (county s)) (meet (part w) (part s)) (meet_from (county w) (county s) m.counties) (meet_from (part w) (part s) m.parts))

-- ---- the state sent, before the parts

pub national : (watched : ℕ) → matches watched 0 ≡ true
unfolding matches
national w = refl

pub no_state : (watched sent : ℕ) → state sent ≡ 0 → (sent ≡ 0 → ⊥) → matches watched sent ≡ false
unfolding matches
no_state w s e n = rw (eq-eqb (state s) 0 e, ne_eqb s 0 n)

-- what has a state is not six zeros
some_digit : (sent : ℕ) → (state sent ≡ 0 → ⊥) → sent ≡ 0 → ⊥
some_digit s n e = n (rw e)

pub has_state : (watched sent : ℕ) → (state sent ≡ 0 → ⊥) → matches watched sent ≡ match_by_parts watched sent
unfolding matches
has_state w s n = rw (ne_eqb s 0 (some_digit s n), ne_eqb (state s) 0 n)

pub matches_says : (watched sent : ℕ) → matches watched sent ≡ true → Match watched sent
unfolding matches
matches_says w s e =
    ⊎_elim whole_country state_and_parts (or_cases (eqb s 0) (not (eqb (state s) 0) && match_by_parts w s) (eqb-true s 0) (λ h. h) e)
  where
    state_and_parts : not (eqb (state s) 0) && match_by_parts w s ≡ true → Match w s
    state_and_parts h =
        by_parts (eqb-false (state s) 0 (not-true (eqb (state s) 0) (and_l (not (eqb (state s) 0)) (match_by_parts w s) h)))
        (parts_say w s (and_r (not (eqb (state s) 0)) (match_by_parts w s) h))

pub matches_from : (watched sent : ℕ) → Match watched sent → matches watched sent ≡ true
matches_from w s (whole_country e) = rw e (national w)
matches_from w s (by_parts n m) = has_state w s n ∙ parts_from w s m

-- matching places have equal states, unless six zeros were sent
pub matches_state : (watched sent : ℕ) → matches watched sent ≡ true → (sent ≡ 0) ⊎ (state watched ≡ state sent)
matches_state w s e = elim (matches_says w s e) [ whole_country z ↦ inl z | by_parts n m ↦ inr m.states ]

-- a place that a book takes has a state, so by its parts it matches no place without one: the rules differ at six zeros only
pub none_by_parts : (watched sent : ℕ) → bad_place watched ≡ false → state sent ≡ 0 → match_by_parts watched sent ≡ false
none_by_parts w s g e =
    let h = (fine w g).somewhere in
    rw (ne_eqb (state w) (state s) (λ f. let z : state w ≡ 0 = f ∙ e in absurd (omega arith)))

amends_by : (watched sent : ℕ) (b : Bool) → eqb (state sent) 0 ≡ b → bad_place watched ≡ false → matches watched sent ≡ eqb sent 0 || match_by_parts watched sent
unfolding matches
amends_by w s true e g = rw (e, none_by_parts w s g (eqb-true (state s) 0 e))
amends_by w s false e g = rw e

pub amends : (watched sent : ℕ) → bad_place watched ≡ false → matches watched sent ≡ eqb sent 0 || match_by_parts watched sent
amends w s g = amends_by w s (eqb (state s) 0) refl g

-- at least one of some places: one by one
pub some_none : (watched : ℕ) → matches_some watched [] ≡ false
unfolding matches_some
some_none w = refl

pub some_more : (watched s : ℕ) (sent : List ℕ) → matches_some watched (s ∷ sent) ≡ matches watched s || matches_some watched sent
unfolding matches_some
some_more w s sent = refl

-- six zeros among some places; and a place that matches none among them
pub some_national : (watched : ℕ) (sent : List ℕ) → some (eqb 0) sent ≡ true → matches_some watched sent ≡ true
some_national w [] e = impossible e
some_national w (s ∷ sent) e =
    some_more w s sent
    ∙ ⊎_elim (λ z. or_inl (matches w s) (matches_some w sent) (rw (← z) (national w)))
    (λ h. or_inr (matches w s) (matches_some w sent) (some_national w sent h)) (or_cases (eqb 0 s) (some (eqb 0) sent) (eqb-true 0 s) (λ h. h) e)

pub some_skipped : (watched s : ℕ) (sent : List ℕ) → matches watched s ≡ false → matches_some watched (s ∷ sent) ≡ matches_some watched sent
some_skipped w s sent e = some_more w s sent ∙ rw e

-- watched 139069 matches header 039069, not 239069; watched 039173 matches header 039000
pub record Cases : Type 0 where
  pub whole_county : matches 139069 39069 ≡ true
  pub other_part : matches 139069 239069 ≡ false
  pub whole_state : matches 39173 39000 ≡ true

pub cases : Cases
unfolding matches
cases = record { whole_county = refl; other_part = refl; whole_state = refl }
