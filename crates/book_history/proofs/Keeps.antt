-- A list in strictly rising order is known by its members, so two that agree on a test keep the same of it.
use mathlib.Core.Path.{◌≡◌, refl, sym, ap, ◌∙◌}
use mathlib.Core.Logic.{⊎_elim}
use mathlib.Core.Bool.{Bool, true, false, ◌&&◌, ◌||◌}
use mathlib.Core.List.{List, [], ◌∷◌}
use Prim.Native.Nat.{ℕ, ◌≤◌, ◌<◌}
use native.Mathlib.Omega.{arith}
use borrow.Author.Tests.{eqb-true}
use lib.Dec.{eqb}
use Rattle.laws.specs.Lists.{keep, tally}
use Rattle.laws.specs.Order.{choose}
use Rattle.laws.proofs.Tests.{and_l, and_r, le_or_lt, no_both}
use Rattle.place.specs.FirstWord.{first_word}
use Rattle.book_rules.specs.Subscription.{Sub, same_sub, is_pair}
use Rattle.book_rules.specs.Afresh.{Apart, none, more}
use Rattle.book_history.specs.Members.{is_in, rank_sub, Rise}
use Rattle.book_history.proofs.Same.{same_refl, same_eq}

-- ---- what is kept

pub in_keep : (f : Sub → Bool) (x : Sub) (s : List Sub) → is_in x (keep f s) ≡ (f x && is_in x s)
unfolding is_in keep
in_keep f x [] = by (f x)
  where
    by : (b : Bool) → false ≡ (b && false)
    by true = refl
    by false = refl
in_keep f x (y ∷ s) = by (f y) (same_sub x y) refl refl (in_keep f x s)
  where
    by : (a b : Bool) → f y ≡ a → same_sub x y ≡ b → is_in x (keep f s) ≡ (f x && is_in x s)
        → is_in x (choose a (y ∷ keep f s) (keep f s)) ≡ (f x && (b || is_in x s))
    by true true p q k = let e : f x ≡ true = ap f (same_eq x y q) ∙ p in rw (q, e)
    by true false p q k = rw q k
    by false true p q k = let e : f x ≡ false = ap f (same_eq x y q) ∙ p in k ∙ rw e
    by false false p q k = k

-- ---- rising order

pub rise_less : (k m : ℕ) (s : List Sub) → m ≤ k → Rise k s → Rise m s
rise_less k m [] l h = tt
rise_less k m (x ∷ s) l h = (h.0, omega (arith, h.1), h.2)

pub keep_rise : (f : Sub → Bool) (k : ℕ) (s : List Sub) → Rise k s → Rise k (keep f s)
unfolding keep
keep_rise f k [] h = tt
keep_rise f k (x ∷ s) h = by (f x) (keep_rise f (rank_sub x) s h.2)
  where
    by : (b : Bool) → Rise (rank_sub x) (keep f s) → Rise k (choose b (x ∷ keep f s) (keep f s))
    by true r = (h.0, h.1, r)
    by false r = rise_less (rank_sub x) k (keep f s) (let l = h.1 in omega arith) r

not_same : (x y : Sub) → rank_sub x < rank_sub y → same_sub x y ≡ false
not_same x y l = by (same_sub x y) refl
  where
    by : (b : Bool) → same_sub x y ≡ b → b ≡ false
    by true e = let z : rank_sub x ≡ rank_sub y = ap rank_sub (same_eq x y e) in absurd (omega arith)
    by false e = refl

none_in : (k : ℕ) (x : Sub) (s : List Sub) → rank_sub x ≤ k → Rise k s → is_in x s ≡ false
unfolding is_in
none_in k x [] l h = refl
none_in k x (y ∷ s) l h =
    let e : same_sub x y ≡ false = not_same x y (omega (arith, h.1)) in
    rw e (none_in (rank_sub y) x s (omega (arith, h.1)) h.2)

-- x stands in a list that starts with y: x is y, or stands after it
head_in : (x : Sub) (s : List Sub) → is_in x (x ∷ s) ≡ true
unfolding is_in
head_in x s = rw (same_refl x)

in_none : (y : Sub) → is_in y [] ≡ false
unfolding is_in
in_none y = refl

same_tail : (x : Sub) (s t : List Sub) → Rise (rank_sub x) s → Rise (rank_sub x) t → ((z : Sub) → is_in z (x ∷ s) ≡ is_in z (x ∷ t))
    → (z : Sub) → is_in z s ≡ is_in z t
unfolding is_in
same_tail x s t hs ht e z = by (same_sub z x) refl (e z)
  where
    by : (b : Bool) → same_sub z x ≡ b → (b || is_in z s) ≡ (b || is_in z t) → is_in z s ≡ is_in z t
    by true q k =
        let l : rank_sub z ≡ rank_sub x = ap rank_sub (same_eq z x q) in
        none_in (rank_sub x) z s (omega arith) hs ∙ sym (none_in (rank_sub x) z t (omega arith) ht)
    by false q k = k

same_head : (x y : Sub) (t : List Sub) → rank_sub x ≤ rank_sub y → Rise (rank_sub y) t → is_in x (y ∷ t) ≡ true → x ≡ y
unfolding is_in
same_head x y t l h e = by (same_sub x y) refl e
  where
    by : (b : Bool) → same_sub x y ≡ b → (b || is_in x t) ≡ true → x ≡ y
    by true q k = same_eq x y q
    by false q k = no_both (is_in x t) k (none_in (rank_sub y) x t l h)

-- two lists in rising order with the same members are one
pub same_rise : (a b : ℕ) (s t : List Sub) → Rise a s → Rise b t → ((x : Sub) → is_in x s ≡ is_in x t) → s ≡ t
same_rise a b [] [] hs ht e = refl
same_rise a b [] (y ∷ t) hs ht e = no_both (is_in y (y ∷ t)) (head_in y t) (sym (e y) ∙ in_none y)
same_rise a b (x ∷ s) [] hs ht e = no_both (is_in x (x ∷ s)) (head_in x s) (e x ∙ in_none x)
same_rise a b (x ∷ s) (y ∷ t) hs ht e =
    let to : is_in x (y ∷ t) ≡ true = sym (e x) ∙ head_in x s in
    let fro : is_in y (x ∷ s) ≡ true = e y ∙ head_in y t in
    let q : x ≡ y =
    ⊎_elim (λ (l : rank_sub x < rank_sub y). same_head x y t (omega arith) ht.2 to)
    (λ (l : rank_sub y ≤ rank_sub x). sym (same_head y x s l hs.2 fro)) (le_or_lt (rank_sub x) (rank_sub y)) in
    let r : rank_sub y ≡ rank_sub x = ap rank_sub (sym q) in
    let ht' : Rise (rank_sub x) t = rise_less (rank_sub y) (rank_sub x) t (omega arith) ht.2 in
    let e' : (z : Sub) → is_in z (x ∷ s) ≡ is_in z (x ∷ t) = λ z. e z ∙ ap (λ (w : Sub). is_in z (w ∷ t)) (sym q) in
    let tails : s ≡ t = same_rise (rank_sub x) (rank_sub x) s t hs.2 ht' (same_tail x s t hs.2 ht' e') in
    cc

-- so lists in rising order that agree on what passes a test hold the same of it, in the same order
pub same_kept : (t : Sub → Bool) (a b : ℕ) (s u : List Sub) → Rise a s → Rise b u → ((x : Sub) → t x && is_in x s ≡ t x && is_in x u) → keep t s ≡ keep t u
same_kept t a b s u hs hu e =
    same_rise a b (keep t s) (keep t u) (keep_rise t a s hs) (keep_rise t b u hu) (λ x. in_keep t x s ∙ e x ∙ sym (in_keep t x u))

-- ---- in rising order no pair of place and client stands twice

not_pair : (x y : Sub) → rank_sub x < rank_sub y → is_pair x.place x.client y ≡ false
not_pair x y l = by (is_pair x.place x.client y) refl
  where
    by : (b : Bool) → is_pair x.place x.client y ≡ b → b ≡ false
    by true e =
        let p : y.place ≡ x.place = eqb-true y.place x.place (and_l (eqb y.place x.place) (eqb y.client x.client) e) in
        let c : y.client ≡ x.client = eqb-true y.client x.client (and_r (eqb y.place x.place) (eqb y.client x.client) e) in
        let w : first_word y.place ≡ first_word x.place = ap first_word p in
        absurd (omega arith)
    by false e = refl

no_pair : (k : ℕ) (x : Sub) (s : List Sub) → rank_sub x ≤ k → Rise k s → tally (is_pair x.place x.client) s ≡ 0
unfolding tally
no_pair k x [] l h = refl
no_pair k x (y ∷ s) l h =
    let e : is_pair x.place x.client y ≡ false = not_pair x y (omega (arith, h.1)) in
    rw e (omega (arith, no_pair (rank_sub y) x s (omega (arith, h.1)) h.2))

pub rise_apart : (k : ℕ) (s : List Sub) → Rise k s → Apart s
rise_apart k [] h = none
rise_apart k (x ∷ s) h = more h.0 (no_pair (rank_sub x) x s (omega arith) h.2) (rise_apart (rank_sub x) s h.2)
