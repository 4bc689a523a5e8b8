-- All numbers below n, as the library's test of a list: of the words of a book, and of a range.
use Rattle.std.proofs.Common.{ℕ, zero, suc, ◌+◌, ◌-◌, ◌*◌, ◌<◌, ◌≤◌, ◌≡◌, Bool, ◌&&◌, List, [], ◌∷◌, ◌++◌, length, take, drop, eqb, refl, sym, ap, ◌∙◌, add-one, zero-add, arith}
use Rattle.std.specs.List.{list_all, range_with_len}
use Rattle.std.proofs.lemmas.List.{get_or-drop}
use Rattle.std.proofs.lemmas.List.Folds.{list_all_more}
use Rattle.std.proofs.lemmas.List.FromFn.{length-range_with_len, get_or-range_with_len}
use mathlib.Core.Bool.{and-true}
use lib.ListN.{get_or, length-drop}
use lib.Seq.{take-length}
use Rattle.laws.specs.Lists.{all}
use Rattle.book_rules.specs.Rules.{unused_zero}
use Rattle.book_check.proofs.Told.{and_both}

all_same : (n : ℕ) (f g : ℕ → Bool) → ((i : ℕ) → i < n → f i ≡ g i) → all n f ≡ all n g
unfolding all
all_same zero f g h = refl
all_same (suc n) f g h = λ k. all_same n f g (λ i l. h i (omega arith)) k && h n (omega arith) k

all_take : (p : ℕ → Bool) (l : List ℕ) (i : ℕ) → i ≤ length l → all i (λ j. p (get_or l j 0)) ≡ list_all p (take i l)
unfolding all
all_take p l zero h = refl
all_take p l (suc i) h =
    ap (λ (b : Bool). b && p (get_or l i 0)) (all_take p l i (omega arith)) ∙ sym (list_all_more p l i 0 (omega arith)) ∙ rw add-one

pub all_of : (p : ℕ → Bool) (l : List ℕ) → list_all p l ≡ all (length l) (λ j. p (get_or l j 0))
all_of p l = sym (all_take p l (length l) (omega arith) ∙ ap (list_all p) (take-length l))

pub all_below : (p : ℕ → Bool) (n : ℕ) → list_all p (range_with_len 0 n) ≡ all n p
all_below p n =
    all_of p (range_with_len 0 n)
    ∙ ap (λ (m : ℕ). all m (λ j. p (get_or (range_with_len 0 n) j 0))) (length-range_with_len 0 n)
    ∙ all_same n (λ j. p (get_or (range_with_len 0 n) j 0)) p (λ i l. ap p (get_or-range_with_len 0 n i 0 l ∙ zero-add i))

pub all_push : (p : ℕ → Bool) (l : List ℕ) (x : ℕ) → list_all p (l ++ (x ∷ [])) ≡ list_all p l && p x
all_push p [] x = and-true (p x)
all_push p (y ∷ l) x = ap (λ (b : Bool). p y && b) (all_push p l x) ∙ and_both (p y) (list_all p l) (p x)

-- the unused words
pub zeros : (w : List ℕ) (n : ℕ) → length w ≡ 8293 → n ≤ 4096
    → list_all (λ x. eqb x 0) (take (length w - (101 + 2 * n)) (drop (101 + 2 * n) w)) ≡ unused_zero w n
unfolding unused_zero
zeros w n h m =
    let u : List ℕ = drop (101 + 2 * n) w in
    let e : length u ≡ 8192 - 2 * n = omega (arith, length-drop (101 + 2 * n) w) in
    let a : length w - (101 + 2 * n) ≡ length u = omega arith in
    ap (λ (k : ℕ). list_all (λ x. eqb x 0) (take k u)) a
    ∙ ap (list_all (λ x. eqb x 0)) (take-length u)
    ∙ all_of (λ x. eqb x 0) u
    ∙ ap (λ (k : ℕ). all k (λ j. eqb (get_or u j 0) 0)) e
    ∙ all_same (8192 - 2 * n) (λ j. eqb (get_or u j 0) 0) (λ j. eqb (get_or w (101 + 2 * n + j) 0) 0)
    (λ i l. ap (λ (x : ℕ). eqb x 0) (get_or-drop (101 + 2 * n) w i 0))
