-- Two words for each record: the words of two lists are those of one behind the other, and the records are read back from them.
use mathlib.Core.Path.{◌≡◌, refl, sym, ap, ◌∙◌, subst}
use mathlib.Core.List.{List, [], ◌∷◌, ◌++◌, append_assoc}
use Prim.Native.Nat.{ℕ, zero, suc, ◌+◌, ◌*◌, ◌≤◌, ◌<◌}
use native.Mathlib.Omega.{arith}
use lib.ListN.{length, get_or, take, drop}
use lib.Seq.{slice, slice_empty, length-take-le, take-suc, drop-append-le}
use Rattle.laws.specs.Lists.{table}
use Rattle.laws.proofs.Clash.{clash}
use Rattle.laws.proofs.Tables.{length_table}
use Rattle.book_rules.specs.Rules.{Rec, rec_at, recs, total, words}

pub words_append : (s t : List Rec) → words (s ++ t) ≡ words s ++ words t
unfolding words
words_append [] t = refl
words_append (r ∷ s) t = rw (words_append s t)

pub length_words : (s : List Rec) → length (words s) ≡ 2 * length s
unfolding words
length_words [] = refl
length_words (r ∷ s) = let h : length (words s) ≡ 2 * length s = length_words s in omega arith

pub rec_eq : (r q : Rec) → r.first ≡ q.first → r.second ≡ q.second → r ≡ q
rec_eq r q a b = λ i. record { first = a i; second = b i }

pub words_inj : (s t : List Rec) → words s ≡ words t → s ≡ t
unfolding words
words_inj [] [] e = refl
words_inj [] (q ∷ t) e = clash cc
words_inj (r ∷ s) [] e = clash cc
words_inj (r ∷ s) (q ∷ t) e =
    let a : r.first ≡ q.first = cc in
    let b : r.second ≡ q.second = cc in
    let c : words s ≡ words t = cc in
    let d : r ≡ q = rec_eq r q a b in
    let f : s ≡ t = words_inj s t c in
    cc

slice_snoc : (f t : ℕ) (l : List ℕ) → f ≤ t → t < length l → slice f (suc t) l ≡ slice f t l ++ (get_or l t 0 ∷ [])
slice_snoc f t l a b =
    ap (drop f) (take-suc l t 0 b) ∙ drop-append-le f (take t l) (get_or l t 0 ∷ []) (subst (λ (k : ℕ). f ≤ k) (sym (length-take-le t l (omega arith))) a)

pub words_recs : (n : ℕ) (w : List ℕ) → 101 + 2 * n ≤ length w → words (table n (rec_at w)) ≡ slice 101 (101 + 2 * n) w
unfolding table words
words_recs zero w l = sym (slice_empty 101 w)
words_recs (suc n) w l =
    let e : 101 + 2 * suc n ≡ suc (suc (101 + 2 * n)) = omega arith in
    let k : 102 + 2 * n ≡ suc (101 + 2 * n) = omega arith in
    let second = slice_snoc 101 (suc (101 + 2 * n)) w (omega arith) (omega arith) in
    let first = slice_snoc 101 (101 + 2 * n) w (omega arith) (omega arith) in
    words_append (table n (rec_at w)) (rec_at w n ∷ []) ∙ rw (words_recs n w (omega arith), e, k, second, first, append_assoc)

pub length_recs : (w : List ℕ) → length (recs w) ≡ total w
unfolding recs
length_recs w = length_table (total w) (rec_at w)
