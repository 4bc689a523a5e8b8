-- An entry of the one is taken out of both: so lists in which each entry stands equally often have equal tallies of every test.
use mathlib.Core.Path.{◌≡◌, refl, sym, ap}
use mathlib.Core.Bool.{Bool, true, false}
use mathlib.Core.List.{List, [], ◌∷◌, ◌++◌}
use Prim.Native.Nat.{◌+◌, ◌<◌}
use native.Mathlib.Omega.{arith}
use Rattle.laws.specs.Lists.{tally, one}
use Rattle.laws.proofs.Tally.{tally_append}

-- an entry, and what stands before and after it
record Split {A : Type 0} (x : A) (s : List A) : Type 0 where
  front : List A
  back : List A
  whole : s ≡ front ++ (x ∷ back)

module _ {A : Type 0} (same : A → A → Bool) (same_refl : (x : A) → same x x ≡ true) (same_eq : (x y : A) → same x y ≡ true → x ≡ y) where
  split : (x : A) (s : List A) → 0 < tally (same x) s → Split x s
  unfolding tally
  split x [] l = absurd (omega arith)
  split x (y ∷ s) l = by (same x y) refl l (split x s)
    where
      by : (b : Bool) → same x y ≡ b → 0 < one b + tally (same x) s → (0 < tally (same x) s → Split x s) → Split x (y ∷ s)
      by true e m k = record { front = []; back = s; whole = ap (λ (z : A). z ∷ s) (sym (same_eq x y e)) }
      by false e m k = let q = k (omega arith) in record { front = y ∷ q.front; back = q.back; whole = ap (λ (t : List A). y ∷ t) q.whole }

  -- an entry taken out
  out : (x : A) (s : List A) (q : Split x s) (p : A → Bool) → tally p s ≡ one (p x) + tally p (q.front ++ q.back)
  unfolding tally
  out x s q p =
      let e : tally p s ≡ tally p (q.front ++ (x ∷ q.back)) = ap (tally p) q.whole in
      omega (arith, tally_append p q.front (x ∷ q.back), tally_append p q.front q.back)

  pub shuffled : (s t : List A) → ((x : A) → tally (same x) s ≡ tally (same x) t) → (p : A → Bool) → tally p s ≡ tally p t
  unfolding tally
  shuffled [] [] e p = refl
  shuffled [] (y ∷ t) e p = absurd (let k = e y in let z = ap one (same_refl y) in omega arith)
  shuffled (x ∷ s) t e p =
      let k = e x in
      let z = ap one (same_refl x) in
      let q : Split x t = split x t (omega arith) in
      let rest : (y : A) → tally (same y) s ≡ tally (same y) (q.front ++ q.back) = λ y. let a = e y in omega (arith, out x t q (same y)) in
      omega (arith, shuffled s (q.front ++ q.back) rest p, out x t q p)
