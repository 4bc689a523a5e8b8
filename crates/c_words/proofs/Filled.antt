-- A part of a list, copied entry by entry into a list of its length.
use Prim.Native.Nat.{ℕ, zero, suc, ◌+◌, ◌-◌, ◌≤◌, ◌<◌}
use mathlib.Core.Path.{◌≡◌, refl, sym, ap, ◌∙◌, subst}
use mathlib.Core.List.{List, [], ◌∷◌, ◌++◌, map}
use native.Mathlib.Omega.{arith}
use native.Mathlib.Numerals.{add-one}
use lib.ListN.{length, get_or, take, drop, set, length-drop}
use Rattle.laws.proofs.Counting.{length_map}
use lib.Seq.{length-take-le, get_or-take, get_or-drop, take-take}
use Rattle.std.proofs.lemmas.List.{drop-take}
use Rattle.laws.proofs.Stores.{store_up}
use Rattle.laws.proofs.Pasted.{Todo}
use Rattle.laws.proofs.Writes.{write_next}
use Rattle.c_words.specs.Words.{byte_of, bytes_at, places_in, fields_in}

pub part_at : (w : List ℕ) (at n k : ℕ) → k < n → get_or (take n (drop at w)) k 0 ≡ get_or w (at + k) 0
part_at w at n k h = get_or-take n (drop at w) k 0 h ∙ get_or-drop at w k 0

pub part_length : (w : List ℕ) (at n : ℕ) → at + n ≤ length w → length (take n (drop at w)) ≡ n
part_length w at n h = length-take-le n (drop at w) (omega (arith, length-drop at w))

get_d_map : (f : ℕ → ℕ) (l : List ℕ) (k : ℕ) → f 0 ≡ 0 → get_or (map f l) k 0 ≡ f (get_or l k 0)
get_d_map f [] zero e = sym e
get_d_map f [] (suc k) e = sym e
get_d_map f (x ∷ l) zero e = refl
get_d_map f (x ∷ l) (suc k) e = get_d_map f l k e

pub byte_at : (w : List ℕ) (at n k : ℕ) → k < n → get_or (bytes_at n at w) k 0 ≡ byte_of (get_or w (at + k) 0)
byte_at w at n k h = get_d_map byte_of (take n (drop at w)) k refl ∙ ap byte_of (part_at w at n k h)

pub bytes_length : (w : List ℕ) (at n : ℕ) → at + n ≤ length w → length (bytes_at n at w) ≡ n
bytes_length w at n h = length_map byte_of (take n (drop at w)) ∙ part_length w at n h

-- one entry more
pub fill : (t z l : List ℕ) (k v : ℕ) → k < length t → length z ≡ length t → v ≡ get_or t k 0 → l ≡ take k t ++ drop k z
    → set l k v ≡ take (k + 1) t ++ drop (k + 1) z
fill t z l k v h e p q = (λ i. set (q i) k (p i)) ∙ store_up t z k h (omega arith) ∙ rw add-one

-- one entry more of what is pasted
pub one_more : (d t out src : List ℕ) (at k : ℕ) → k < length src → Todo d t out (at + k) (drop k src)
    → Todo d t (set out (at + k) (get_or src k 0)) (at + (k + 1)) (drop (k + 1) src)
one_more d t out src at k h todo =
    let e : at + k + 1 ≡ at + (k + 1) = omega arith in
    subst (λ (m : ℕ). Todo d t (set out (at + k) (get_or src k 0)) m (drop (k + 1) src)) e (write_next d t out (at + k) src k todo (get_or src k 0) h refl)

-- ---- the fields of words that are the first 50 of others

part_front : (w : List ℕ) (at n : ℕ) → at + n ≤ 50 → take n (drop at (take 50 w)) ≡ take n (drop at w)
part_front w at n h =
    let e : 50 ≡ at + (50 - at) = omega arith in
    ap (take n) (ap (λ (m : ℕ). drop at (take m w)) e ∙ drop-take at (50 - at) w) ∙ take-take n (50 - at) (drop at w) (omega arith)

pub front_fields : (w v : List ℕ) → v ≡ take 50 w → fields_in v ≡ fields_in w
unfolding fields_in places_in
front_fields w v e = ap fields_in e ∙ (λ i. record {
  origin = map byte_of (part_front w 0 3 (omega arith) i);
  event = map byte_of (part_front w 3 3 (omega arith) i);
  places = part_front w 19 31 (omega arith) i;
  count = get_or-take 50 w 6 0 (omega arith) i;
  duration = get_or-take 50 w 7 0 (omega arith) i;
  day = get_or-take 50 w 8 0 (omega arith) i;
  hour = get_or-take 50 w 9 0 (omega arith) i;
  minute = get_or-take 50 w 10 0 (omega arith) i;
  sender = map byte_of (part_front w 11 8 (omega arith) i);
})
