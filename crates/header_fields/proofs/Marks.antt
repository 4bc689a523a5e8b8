-- A field and its mark `-` at index at of a text, by the tests that code makes.
use Prim.Native.Nat.{ℕ, ◌+◌, ◌-◌, ◌≤◌, ◌<◌}
use mathlib.Core.Path.{◌≡◌, sym, ◌∙◌}
use mathlib.Core.List.{List}
use mathlib.Core.Bool.{Bool, true, false}
use native.Mathlib.Omega.{arith}
use lib.ListN.{length, get_or, take, drop, length-drop}
use lib.Dec.{ltb}
use borrow.Author.Tests.{eq-eqb, ne_eqb, lt-ltb, ltb-false}
use Rattle.std.specs.Prelude.{None}
use mathlib.Core.Logic.{⊎_elim}
use Rattle.laws.specs.Lists.{every}
use Rattle.laws.specs.Numbers.{digit}
use Rattle.laws.proofs.Tests.{le_or_lt}
use Rattle.codec.specs.Kind.{Kind}
use Rattle.codec.specs.Codec.{got, no, fits, is, field}
use Rattle.codec.specs.Promise.{number_at}
use Rattle.codec.proofs.Numbers.{number_none}
use Rattle.codec.proofs.Fits.{short, bad, unmarked, good}
use Rattle.codec.proofs.Stages.{field_no, field_yes}
use Rattle.header.specs.Header.{dash}
use Rattle.header_fields.specs.Stands.{StandsBy, few, asked}
use Rattle.header_fields.specs.Promise.{StandsPromise}

module _ {A : Type 0} (k : Kind A) (t : List ℕ) (at : ℕ) where
  -- ---- whether it stands there, by a test that answers what is allowed

  pub stands_as : (Answers : List ℕ → Bool → Type 0)
      → ((b : Bool) → Answers (take k.width (drop at t)) b → b ≡ k.allowed (take k.width (drop at t)))
      → {r : Bool} → StandsBy k.width Answers t at r → StandsPromise k t at r
  unfolding fits
  stands_as Answers means (few h e) = record { says = e ∙ sym (short k (is dash) t at (omega (arith, length-drop at t))) }
  stands_as Answers means (asked b l a e) = record { says = e ∙ simp (lt-ltb k.width (length (drop at t)) l, means b a) }

  -- ---- what the field of the table says

  pub stops_short : ltb (at + k.width) (length t) ≡ false → length t - at ≤ k.width
  stops_short h = omega (arith, ltb-false (at + k.width) (length t) h)

  pub goes_on : at + k.width < length t → k.width < length t - at
  goes_on h = omega arith

  module _ (n : ℕ) where
    pub no_room : length t - at ≤ k.width → no n at ≡ (field n k dash).get (drop at t) at
    no_room h = field_no n k dash t at (short k (is dash) t at h)

    pub not_allowed : k.allowed (take k.width (drop at t)) ≡ false → no n at ≡ (field n k dash).get (drop at t) at
    not_allowed h = field_no n k dash t at (bad k (is dash) t at h)

    -- no number stands at a part of it
    pub no_number : (p w : ℕ) → p + w ≤ at + k.width → w ≤ 9 → None ≡ number_at t p w
        → (every digit (take w (drop p t)) ≡ false → k.allowed (take k.width (drop at t)) ≡ false) → no n at ≡ (field n k dash).get (drop at t) at
    no_number p w h l e f =
        ⊎_elim (λ s. no_room (omega arith))
        (λ r. not_allowed (f (number_none t p w l r (sym e)))) (le_or_lt (length t) (p + w))

    pub not_marked : (x : ℕ) → x ≡ get_or t (at + k.width) 0 → (x ≡ dash → ⊥) → no n at ≡ (field n k dash).get (drop at t) at
    not_marked x q h = field_no n k dash t at (unmarked k (is dash) t at (ne_eqb _ _ (λ e. h (q ∙ e))))

    pub stands : (v : A) (x : ℕ) → at + k.width < length t → k.allowed (take k.width (drop at t)) ≡ true → x ≡ get_or t (at + k.width) 0 → x ≡ dash
        → k.value (take k.width (drop at t)) ≡ v → got v (drop (at + (k.width + 1)) t) (at + (k.width + 1)) ≡ (field n k dash).get (drop at t) at
    stands v x l h q m e = field_yes n k dash t at v (good k (is dash) t at (goes_on l) h (eq-eqb _ _ (sym q ∙ m))) e
