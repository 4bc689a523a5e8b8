-- How many bytes are dropped is told by the bytes themselves: those count, and then comes one that does not, or the 17th, or the end.
use mathlib.Core.Path.{◌≡◌, refl, sym, ap, ◌∙◌}
use mathlib.Core.Bool.{Bool, true, false, cond, not}
use mathlib.Core.Logic.{⊎_elim}
use mathlib.Core.List.{List, [], ◌∷◌}
use Prim.Native.Nat.{ℕ, zero, suc, ◌+◌, ◌-◌, ◌≤◌, ◌<◌, min}
use native.Mathlib.Omega.{arith}
use borrow.Author.Tests.{ltb-false}
use lib.Dec.{ltb}
use lib.ListN.{length, take, drop, get_or, length-drop}
use lib.Seq.{get_or-drop, take_all}
use Rattle.std.specs.Prelude.{Some, None, position}
use Rattle.std.specs.List.{position_or_len}
use Rattle.std.specs.Option.{unwrap_or}
use Rattle.std.proofs.lemmas.List.Sums.{prefix_len-le-length}
use Rattle.laws.specs.Order.{choose}
use Rattle.laws.proofs.Tests.{no_both, le_or_lt}
use Rattle.burst.specs.Strip.{preamble, lead_up_to, lead, stripped}
use Rattle.burst.specs.Meaning.{CountsTo, Drops}
use Rattle.burst.specs.Sent.{Bytes}

-- ---- what is counted, up to any number m

module _ (m x : ℕ) (xs : List ℕ) where
  none : preamble x ≡ false → CountsTo (suc m) (x ∷ xs) 0
  none e = record { within = omega arith; most = omega arith; each = λ i h. absurd (omega arith); ends = λ h g. e }

  one_more : (n : ℕ) → preamble x ≡ true → CountsTo m xs n → CountsTo (suc m) (x ∷ xs) (suc n)
  one_more n e r = record { within = omega (arith, r.within); most = omega (arith, r.most); each = at; ends = λ h g. r.ends (omega arith) (omega arith) }
    where
      at : (i : ℕ) → i < suc n → preamble (get_or (x ∷ xs) i 0) ≡ true
      at zero h = e
      at (suc i) h = r.each i (omega arith)

  first_byte : (t : Bool) (n : ℕ) → preamble x ≡ t → CountsTo m xs n → CountsTo (suc m) (x ∷ xs) (choose t (suc n) 0)
  first_byte true n e r = one_more n e r
  first_byte false n e r = none e

counts : (m : ℕ) (l : List ℕ) → CountsTo m l (lead_up_to m l)
unfolding lead_up_to
counts zero l = record { within = omega arith; most = omega arith; each = λ i h. absurd (omega arith); ends = λ h g. absurd (omega arith) }
counts (suc m) [] = record { within = omega arith; most = omega arith; each = λ i h. absurd (omega arith); ends = λ h g. absurd (omega arith) }
counts (suc m) (x ∷ xs) = first_byte m x xs (preamble x) (lead_up_to m xs) refl (counts m xs)

-- ---- and up to 16: it is so, and of no other number

pub drops_lead : (l : List ℕ) → Drops l (lead l)
unfolding lead
drops_lead l = counts _ l

no_less : (l : List ℕ) (n m : ℕ) → Drops l n → Drops l m → n < m → ⊥
no_less l n m p q h = no_both (preamble (get_or l n 0)) (q.each n h) (p.ends (omega (arith, q.most)) (omega (arith, q.within)))

pub lead_is : (l : List ℕ) (n : ℕ) → Drops l n → n ≡ lead l
lead_is l n p =
    let q = drops_lead l in
    ⊎_elim (λ h. absurd (no_less l n (lead l) p q h)) (λ h. ⊎_elim (λ g. absurd (no_less l (lead l) n q p g)) (λ g. omega arith) (le_or_lt (lead l) n))
    (le_or_lt n (lead l))

pub lead_within : (l : List ℕ) → lead l ≤ length l
lead_within l = (drops_lead l).within

pub lead_most : (l : List ℕ) → lead l ≤ 16
lead_most l = (drops_lead l).most

-- ---- the part that is left, after n bytes

pub lead_fits : (l : List ℕ) (n : ℕ) → n ≡ lead l → n ≤ length l
lead_fits l n e = omega (arith, lead_within l)

pub stripped_is : (l : List ℕ) (n : ℕ) → n ≡ lead l → take (length l - n) (drop n l) ≡ stripped l
unfolding stripped
stripped_is l n e = rw (← e) (take_all (length l - n) (drop n l) (omega (arith, length-drop n l)))

-- its length tells how many were dropped
pub stripped_rest : (l : List ℕ) → lead l + length (stripped l) ≡ length l
unfolding stripped
stripped_rest l = omega (arith, length-drop (lead l) l, lead_within l)

-- bytes stay bytes
pub stripped_bytes : (l : List ℕ) → Bytes l → Bytes (stripped l)
unfolding stripped
stripped_bytes l b i = rw (get_or-drop (lead l) l i 0) (b (lead l + i))

-- ---- as the code looks: where the first of the first 16 stands that does not count; where none does, all of them count

abbrev other : ℕ → Bool
other x = not (preamble x)

up_to : (n : ℕ) (l : List ℕ) → position_or_len other (take n l) ≡ lead_up_to n l
unfolding lead_up_to
up_to zero l = refl
up_to (suc n) [] = refl
up_to (suc n) (x ∷ xs) = by (preamble x) (up_to n xs)
  where
    by : (b : Bool) → position_or_len other (take n xs) ≡ lead_up_to n xs
        → cond (not (not b)) (1 + position_or_len other (take n xs)) 0 ≡ choose b (suc (lead_up_to n xs)) 0
    by true e = rw e (omega arith)
    by false e = refl

settled : (b : Bool) (j m : ℕ) → ltb j m ≡ b → j ≤ m → unwrap_or (cond b (Some j) None) m ≡ j
settled true j m e h = refl
settled false j m e h = omega (arith, ltb-false _ _ e)

first_16 : (l : List ℕ) (n : ℕ) → n ≡ min (length l) 16 → take n l ≡ take 16 l
first_16 l n e =
    ⊎_elim (λ h. let m : n ≡ 16 = omega arith in ap (λ (k : ℕ). take k l) m) (λ h. take_all n l (omega arith) ∙ sym (take_all 16 l (omega arith)))
    (le_or_lt 16 (length l))

pub first_other_is : (l : List ℕ) (n : ℕ) → n ≡ min (length l) 16 → unwrap_or (position other (take n l)) (length (take n l)) ≡ lead l
unfolding lead
first_other_is l n e =
    let t = take 16 l in
    ap (λ (x : List ℕ). unwrap_or (position other x) (length x)) (first_16 l n e)
    ∙ settled (ltb (position_or_len other t) (length t)) (position_or_len other t) (length t) refl (prefix_len-le-length (λ x. not (other x)) t)
    ∙ up_to _ l
