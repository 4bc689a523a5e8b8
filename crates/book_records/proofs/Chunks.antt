-- A list as the library's chunks of n: what stands at an index of one of them.
use Rattle.std.proofs.Common.{ℕ, zero, suc, ◌+◌, ◌*◌, ◌-◌, ◌/◌, ◌<◌, ◌≤◌, ◌≡◌, List, [], length, take, drop, refl, ap, ◌∙◌, mul-suc, arith}
use Rattle.std.specs.Simd.{first_chunks}
use borrow.Rule.Slice.PartMut.{mid_of, mid_len}
use lib.ListN.{get_or}
use lib.Seq.{get_or-take, get_or-drop}
use Rattle.book_rules.specs.Rules.{Rec, rec_at}

pub length_chunks : (n k : ℕ) (w : List ℕ) → length (first_chunks n k w) ≡ k
length_chunks n zero w = refl
length_chunks n (suc k) w = ap suc (length_chunks n k (drop n w))

pub in_chunk : (n k : ℕ) (w : List ℕ) (i j : ℕ) → i < k → j < n → get_or (get_or (first_chunks n k w) i []) j 0 ≡ get_or w (n * i + j) 0
in_chunk n zero w i j h l = absurd (omega arith)
in_chunk n (suc k) w zero j h l =
    let e : j ≡ n * 0 + j = omega arith in
    get_or-take n w j 0 l ∙ ap (λ (m : ℕ). get_or w m 0) e
in_chunk n (suc k) w (suc i) j h l =
    let e : n + (n * i + j) ≡ n * suc i + j = omega (arith, mul-suc n i) in
    in_chunk n k (drop n w) i j (omega arith) l ∙ get_or-drop n w (n * i + j) 0 ∙ ap (λ (m : ℕ). get_or w m 0) e

-- the same for chunks of a part of a list
pub in_part : (n k : ℕ) (w : List ℕ) (at len : ℕ) (i j : ℕ) → i < k → j < n → n * i + j < len
    → get_or (get_or (first_chunks n k (take len (drop at w))) i []) j 0 ≡ get_or w (at + (n * i + j)) 0
in_part n k w at len i j h l m =
    in_chunk n k (take len (drop at w)) i j h l ∙ get_or-take len (drop at w) (n * i + j) 0 m ∙ get_or-drop at w (n * i + j) 0

-- ---- the words behind the counts of a book, as chunks of two: the records

pub length_records : (w : List ℕ) (n : ℕ) (pairs : List (List ℕ)) → length w ≡ 8293 → n ≤ 4096
    → pairs ≡ first_chunks 2 (length (mid_of 101 (101 + 2 * n - 101) w) / 2) (mid_of 101 (101 + 2 * n - 101) w) → length pairs ≡ n
length_records w n pairs h m e =
    let k : length (mid_of 101 (101 + 2 * n - 101) w) ≡ 101 + 2 * n - 101 = mid_len 101 (101 + 2 * n) w (omega arith) in
    ap length e ∙ length_chunks 2 _ (mid_of 101 (101 + 2 * n - 101) w) ∙ omega arith

pub in_record : (w : List ℕ) (n : ℕ) (pairs : List (List ℕ)) (i : ℕ) → length w ≡ 8293 → n ≤ 4096 → i < n
    → pairs ≡ first_chunks 2 (length (mid_of 101 (101 + 2 * n - 101) w) / 2) (mid_of 101 (101 + 2 * n - 101) w)
    → ◌≡◌ {A = Rec} (record { first = get_or (get_or pairs i []) 0 0; second = get_or (get_or pairs i []) 1 0 }) (rec_at w i)
in_record w n pairs i h m l e =
    let k : length (mid_of 101 (101 + 2 * n - 101) w) ≡ 101 + 2 * n - 101 = mid_len 101 (101 + 2 * n) w (omega arith) in
    let a : get_or (get_or pairs i []) 0 0 ≡ get_or w (101 + (2 * i + 0)) 0 =
    ap (λ (p : List (List ℕ)). get_or (get_or p i []) 0 0) e ∙ in_part 2 _ w 101 (101 + 2 * n - 101) i 0 (omega arith) (omega arith) (omega arith) in
    let b : get_or (get_or pairs i []) 1 0 ≡ get_or w (101 + (2 * i + 1)) 0 =
    ap (λ (p : List (List ℕ)). get_or (get_or p i []) 1 0) e ∙ in_part 2 _ w 101 (101 + 2 * n - 101) i 1 (omega arith) (omega arith) (omega arith) in
    let x : 101 + (2 * i + 0) ≡ 101 + 2 * i = omega arith in
    let y : 101 + (2 * i + 1) ≡ 102 + 2 * i = omega arith in
    λ j. record { first = (a ∙ ap (λ (q : ℕ). get_or w q 0) x) j; second = (b ∙ ap (λ (q : ℕ). get_or w q 0) y) j }
