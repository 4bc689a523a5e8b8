-- Paper 02 §8: nine bytes count as preamble; sixteen of them at most are dropped, and what follows is left; and where that is paper 01's rule.
use mathlib.Core.Path.{◌≡◌, refl, sym, ap, ◌∙◌}
use mathlib.Core.Bool.{Bool, true, false, beq}
use mathlib.Core.Logic.{⊎_elim}
use mathlib.Core.List.{List, [], ◌∷◌, ◌++◌}
use Prim.Native.Nat.{ℕ, zero, suc, ◌+◌, ◌-◌, ◌≤◌, ◌<◌, min}
use native.Mathlib.Omega.{arith}
use borrow.Author.Tests.{eqb-true}
use lib.ListN.{length, drop, get_or, replicate, length-append, length-drop, length-replicate, get_or-replicate, get_or-append, get_or-eq_default}
use lib.Seq.{drop-append_seam, drop-append-le, get_or-append-add}
use lib.Bits.{bit_xor}
use lib.Count.{ones, ones_in}
use lib.Dec.{eqb}
use Rattle.laws.specs.Order.{choose}
use Rattle.laws.specs.Lists.{every, some, all, table, tally}
use Rattle.laws.proofs.All.{all_at}
use Rattle.laws.proofs.Rows.{every_at}
use Rattle.laws.proofs.Tests.{le_or_lt}
use Rattle.burst.specs.Bits.{bits_apart}
use Rattle.burst.specs.Strip.{preamble, lead, stripped}
use Rattle.burst.specs.Meaning.{near_ab, Drops, whole_run}
use Rattle.burst.proofs.Stripped.{drops_lead, lead_is, stripped_rest}

-- ---- which bytes count: a test of all 256, which is computed

beq_eq : (a b : Bool) → beq a b ≡ true → a ≡ b
beq_eq true true e = refl
beq_eq true false e = sym e
beq_eq false true e = e
beq_eq false false e = refl

pub near : (x : ℕ) → x < 256 → preamble x ≡ some (eqb x) near_ab
unfolding preamble bits_apart tally table all
near x h = beq_eq (preamble x) (some (eqb x) near_ab) (all_at 256 x (λ y. beq (preamble y) (some (eqb y) near_ab)) refl h)

pub nine : near_ab ≡ 0xAB ∷ 0xAA ∷ 0xA9 ∷ 0xAF ∷ 0xA3 ∷ 0xBB ∷ 0x8B ∷ 0xEB ∷ 0x2B ∷ []
unfolding table
nine = refl

-- as the code counts it
pub count_apart : (x : ℕ) → x < 256 → ones (bit_xor x 0xAB) ≡ bits_apart x 0xAB
unfolding bits_apart tally table all ones ones_in
count_apart x h = eqb-true (ones (bit_xor x 0xAB)) (bits_apart x 0xAB) (all_at 256 x (λ y. eqb (ones (bit_xor y 0xAB)) (bits_apart y 0xAB)) refl h)

ab : preamble 0xAB ≡ true
unfolding preamble bits_apart tally table
ab = refl

-- Z, with which a header text begins, does not count
pub z_off : preamble 0x5A ≡ false
unfolding preamble bits_apart tally table
z_off = refl

-- ---- preamble bytes p, and then a rest

module _ (p rest : List ℕ) (each : every preamble p ≡ true) where
  at : (i : ℕ) → i < length p → preamble (get_or (p ++ rest) i 0) ≡ true
  at i h = rw (get_or-append p rest 0 i h) (every_at preamble 0 p i each h)

  -- sixteen of them, or fewer before a byte that does not count
  pub drops_all : length p ≤ 16 → (length p < 16 → preamble (get_or rest 0 0) ≡ false) → lead (p ++ rest) ≡ length p
  drops_all h g =
      sym (lead_is (p ++ rest) (length p) (record {
        within = omega (arith, length-append p rest);
        most = h;
        each = at;
        ends = λ l m. let z : length p ≡ length p + 0 = omega arith in rw (z, get_or-append-add p rest 0 0) (g l);
      }))

  pub rest_kept : length p ≤ 16 → (length p < 16 → preamble (get_or rest 0 0) ≡ false) → stripped (p ++ rest) ≡ rest
  unfolding stripped
  rest_kept h g = rw (drops_all h g) (drop-append_seam p rest)

  -- sixteen or more
  pub drops_16 : 16 ≤ length p → lead (p ++ rest) ≡ 16
  drops_16 h =
      sym (lead_is (p ++ rest) 16 (record {
        within = omega (arith, length-append p rest);
        most = omega arith;
        each = λ i l. at i (omega arith);
        ends = λ l m. absurd (omega arith);
      }))

-- a burst whose first byte does not count is left whole
pub left_whole : (x : ℕ) (xs : List ℕ) → preamble x ≡ false → stripped (x ∷ xs) ≡ x ∷ xs
left_whole x xs e = rest_kept [] (x ∷ xs) refl (omega arith) (λ h. e)

-- ---- AB bytes, and then a rest: sixteen go, where there are so many

all_count : (n : ℕ) → every preamble (replicate n 0xAB) ≡ true
all_count zero = refl
all_count (suc n) = rw ab (all_count n)

drop_same : (m n : ℕ) → drop {A = ℕ} m (replicate n 0xAB) ≡ replicate (n - m) 0xAB
drop_same zero n = let z : n ≡ n - 0 = omega arith in ap (λ (k : ℕ). replicate k 0xAB) z
drop_same (suc m) zero = let z : 0 ≡ 0 - suc m = omega arith in ap (λ (k : ℕ). replicate k 0xAB) z
drop_same (suc m) (suc n) = let z : n - m ≡ suc n - suc m = omega arith in drop_same m n ∙ ap (λ (k : ℕ). replicate k 0xAB) z

long : (n : ℕ) → length {A = ℕ} (replicate n 0xAB) ≡ n
long n = length-replicate n 0xAB

pub from_16 : (n : ℕ) (rest : List ℕ) → 16 ≤ n → stripped (replicate n 0xAB ++ rest) ≡ replicate (n - 16) 0xAB ++ rest
unfolding stripped
from_16 n rest h =
    let l : 16 ≤ length {A = ℕ} (replicate n 0xAB) = omega (arith, long n) in
    rw (drops_16 (replicate n 0xAB) rest (all_count n) l, drop-append-le 16 (replicate n 0xAB) rest l, drop_same 16 n)

-- nothing but AB bytes
pub all_lead : (n : ℕ) → lead (replicate n 0xAB) ≡ min n 16
all_lead n =
    sym (lead_is (replicate n 0xAB) (min n 16) (record {
      within = omega (arith, long n);
      most = omega arith;
      each = λ i h. rw (get_or-replicate {A = ℕ} n i 0xAB 0 (omega arith)) ab;
      ends = λ h g. absurd (omega (arith, long n));
    }))

pub only_preamble : (n : ℕ) → stripped (replicate n 0xAB) ≡ replicate (n - min n 16) 0xAB
unfolding stripped
only_preamble n = rw (all_lead n) (drop_same (min n 16) n)

-- ---- paper 01's rule

run_within : (l : List ℕ) → whole_run l ≤ length l
unfolding whole_run
run_within [] = omega arith
run_within (x ∷ xs) = by (eqb x 0xAB) (run_within xs)
  where
    by : (t : Bool) → whole_run xs ≤ length xs → choose t (suc (whole_run xs)) 0 ≤ suc (length xs)
    by true h = omega arith
    by false h = omega arith

run_of_ab : (l : List ℕ) (i : ℕ) → i < whole_run l → get_or l i 0 ≡ 0xAB
unfolding whole_run
run_of_ab [] i h = absurd (omega arith)
run_of_ab (x ∷ xs) i h = by (eqb x 0xAB) refl i (λ j. run_of_ab xs j) h
  where
    by : (t : Bool) → eqb x 0xAB ≡ t → (j : ℕ) → ((k : ℕ) → k < whole_run xs → get_or xs k 0 ≡ 0xAB) → j < choose t (suc (whole_run xs)) 0
        → get_or (x ∷ xs) j 0 ≡ 0xAB
    by true e zero f g = eqb-true x 0xAB e
    by true e (suc j) f g = f j (omega arith)
    by false e j f g = absurd (omega arith)

zero_off : preamble 0 ≡ false
unfolding preamble bits_apart tally table
zero_off = refl

module _ (l : List ℕ) where
  -- the same where at most 16 AB bytes lead and, if fewer, the next byte does not count
  pub as_01 : whole_run l ≤ 16 → (whole_run l < 16 → preamble (get_or l (whole_run l) 0) ≡ false) → lead l ≡ whole_run l
  as_01 h g = sym (lead_is l (whole_run l) (record { within = run_within l; most = h; each = λ i f. rw (run_of_ab l i f) ab; ends = λ f e. g f }))

  -- and nowhere else: equal parts have equal lengths, so as many bytes are dropped
  pub as_01_only : stripped l ≡ drop (whole_run l) l → (whole_run l ≤ 16) × (whole_run l < 16 → preamble (get_or l (whole_run l) 0) ≡ false)
  as_01_only e =
      let n : length (stripped l) ≡ length l - whole_run l = ap length e ∙ length-drop (whole_run l) l in
      let q : lead l ≡ whole_run l = omega (arith, run_within l, stripped_rest l) in
      let d : Drops l (whole_run l) = rw (← q) (drops_lead l) in (
        d.most,
        λ h. ⊎_elim (λ g. d.ends h g) (λ g. rw (get_or-eq_default l 0 {n = whole_run l} g) zero_off) (le_or_lt (whole_run l) (length l)),
      )
