-- What is kept of some subscriptions: each as often as it stands, and one client's in place order.
use mathlib.Core.Path.{◌≡◌, refl, sym, ap, ◌∙◌}
use mathlib.Core.Bool.{Bool, true, false, ◌&&◌}
use mathlib.Core.List.{List, [], ◌∷◌}
use Prim.Native.Nat.{ℕ, ◌+◌, ◌*◌, ◌≤◌}
use native.Mathlib.Omega.{arith}
use borrow.Author.Tests.{eqb-true}
use Rattle.laws.specs.Order.{choose}
use Rattle.laws.specs.Lists.{every, tally, one, keep}
use Rattle.laws.proofs.Tests.{and_l, and_r, and_i}
use Rattle.laws.proofs.Counting.{tally_keep}
use Rattle.place.specs.FirstWord.{first_word}
use Rattle.place.proofs.Words.{word_low}
use Rattle.book_rules.specs.Subscription.{Sub, same_sub, how_often}
use Rattle.book_history.specs.Members.{rank_sub, Rise}
use Rattle.book_history.proofs.Same.{same_eq}
use Rattle.report.specs.Hits.{is_of}
use Rattle.report.specs.Exact.{After}

-- ---- each as often as it stands

tally_one : (f : Sub → Bool) (x : Sub) (s : List Sub) → tally (λ y. same_sub x y && f y) s ≡ choose (f x) (tally (same_sub x) s) 0
unfolding tally
tally_one f x [] = by (f x)
  where
    by : (b : Bool) → ◌≡◌ {A = ℕ} 0 (choose b 0 0)
    by true = refl
    by false = refl
tally_one f x (y ∷ s) = by (same_sub x y) refl (f x) refl (tally_one f x s)
  where
    by : (a : Bool) → same_sub x y ≡ a → (b : Bool) → f x ≡ b → tally (λ y. same_sub x y && f y) s ≡ choose (f x) (tally (same_sub x) s) 0
        → one (a && f y) + tally (λ y. same_sub x y && f y) s ≡ choose b (one a + tally (same_sub x) s) 0
    by true p true q k = let e : f y ≡ true = sym (ap f (same_eq x y p)) ∙ q in rw (e, k, q)
    by true p false q k = let e : f y ≡ false = sym (ap f (same_eq x y p)) ∙ q in rw (e, k, q)
    by false p true q k = rw (k, q)
    by false p false q k = rw (k, q)

pub times_kept : (f : Sub → Bool) (x : Sub) (s : List Sub) → how_often x (keep f s) ≡ choose (f x) (how_often x s) 0
unfolding how_often
times_kept f x s = tally_keep (same_sub x) f s ∙ tally_one f x s

-- ---- every one that is kept passes what follows from the test

pub every_kept : (f g : Sub → Bool) → ((x : Sub) → f x ≡ true → g x ≡ true) → (s : List Sub) → every g (keep f s) ≡ true
unfolding keep
every_kept f g h [] = refl
every_kept f g h (x ∷ s) = by (f x) refl (every_kept f g h s)
  where
    by : (b : Bool) → f x ≡ b → every g (keep f s) ≡ true → every g (choose b (x ∷ keep f s) (keep f s)) ≡ true
    by true e k = and_i (g x) (every g (keep f s)) (h x e) k
    by false e k = k

-- ---- one client's, in rising order of rank, are in place order

own_after : (client k : ℕ) (s : List Sub) → every (is_of client) s ≡ true → Rise (k * 10000 + client) s → After k s
own_after client k [] e r = tt
own_after client k (x ∷ s) e r =
    let c : x.client ≡ client = eqb-true x.client client (and_l (is_of client x) (every (is_of client) s) e) in
    let q : rank_sub x ≡ first_word x.place * 10000 + client = ap (λ (n : ℕ). first_word x.place * 10000 + n) c in
    let l = r.1 in
    (omega arith, own_after client (first_word x.place) s (and_r (is_of client x) (every (is_of client) s) e) (rw (← q) r.2))

from_first : (client : ℕ) (s : List Sub) → every (is_of client) s ≡ true → Rise 0 s → Rise (0 * 10000 + client) s
from_first client [] e r = tt
from_first client (x ∷ s) e r =
    let c : x.client ≡ client = eqb-true x.client client (and_l (is_of client x) (every (is_of client) s) e) in
    let l : 10000 ≤ first_word x.place = word_low x.place r.0.place in
    (r.0, omega arith, r.2)

pub place_order : (client : ℕ) (s : List Sub) → every (is_of client) s ≡ true → Rise 0 s → After 0 s
place_order client s e r = own_after client 0 s e (from_first client s e r)
