-- Every code that the paper names apart is listed, so a code that is not listed goes by its third letter.
use Prim.Native.Nat.{ℕ}
use Prim.Native.String.{String}
use mathlib.Core.Path.{◌≡◌, refl, ap, ◌∙◌}
use mathlib.Core.Bool.{Bool, true, false, ◌||◌}
use mathlib.Core.List.{List, [], ◌∷◌}
use lib.ListN.{get_or}
use Rattle.laws.specs.Lists.{same, every}
use Rattle.laws.specs.Text.{ascii, one_of}
use Rattle.laws.proofs.Tests.{and_l, and_r, no_both}
use Rattle.laws.proofs.Every.{same_eq}
use Rattle.event.specs.Events.{events, is_listed}
use Rattle.event.specs.Class.{class_of, by_third}

-- the codes whose class the paper names, by class
abbrev pub class0 : List String
class0 = "TXF" ∷ "TXO" ∷ "TXB" ∷ "TXP" ∷ []

abbrev pub class1 : List String
class1 = "TOR" ∷ "SVR" ∷ []

abbrev pub class3 : List String
class3 = "EVI" ∷ "BLU" ∷ "CEM" ∷ []

abbrev pub class5 : List String
class5 = "NPT" ∷ "RMT" ∷ "RWT" ∷ "DMO" ∷ []

abbrev pub class6 : List String
class6 = "EAN" ∷ "NIC" ∷ "ADR" ∷ "NMN" ∷ []

-- where some words are all listed, a code that is not listed is none of them
abbrev AllListed : List String → Type 0
AllListed words = every (λ w. is_listed (ascii w)) words ≡ true

none : (words : List String) (e : List ℕ) → AllListed words → is_listed e ≡ false → one_of words e ≡ false
none [] e a f = refl
none (w ∷ l) e a f =
    by (same e (ascii w)) refl (and_l (is_listed (ascii w)) (every (λ w. is_listed (ascii w)) l) a)
    (none l e (and_r (is_listed (ascii w)) (every (λ w. is_listed (ascii w)) l) a) f)
  where
    by : (b : Bool) → same e (ascii w) ≡ b → is_listed (ascii w) ≡ true → one_of l e ≡ false → (b || one_of l e) ≡ false
    by true s i k = no_both (is_listed e) (ap is_listed (same_eq e (ascii w) s) ∙ i) f
    by false s i k = k

-- the named codes are listed, which antt computes
named_are_listed : AllListed class0 × (AllListed class1 × (AllListed class3 × (AllListed class5 × AllListed class6)))
unfolding is_listed events
named_are_listed = (refl, (refl, (refl, (refl, refl))))

-- a code that is not listed goes by its third letter
pub unlisted_class : (e : List ℕ) → is_listed e ≡ false → class_of e ≡ by_third (get_or e 2 0)
unfolding class_of
unlisted_class e f =
    let n = named_are_listed in
    rw (
      none class0 e n.0 f,
      none class1 e n.1.0 f,
      none class3 e n.1.1.0 f,
      none class5 e n.1.1.1.0 f,
      none class6 e n.1.1.1.1 f,
    )
