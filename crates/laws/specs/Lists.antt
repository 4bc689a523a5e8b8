-- Tests over lists, tables by a rule, and counts.
use Rattle.std.specs.Prelude.{ℕ, zero, suc, ◌+◌, Bool, true, false, ◌&&◌, ◌||◌, List, [], ◌∷◌, ◌++◌, eqb}
use Rattle.laws.specs.Order.{choose}

-- every entry passes the test
abbrev pub every : {A : Type 0} → (A → Bool) → List A → Bool
every p [] = true
every p (x ∷ xs) = p x && every p xs

-- some entry passes the test
abbrev pub some : {A : Type 0} → (A → Bool) → List A → Bool
some p [] = false
some p (x ∷ xs) = p x || some p xs

-- the same numbers in the same order
abbrev pub same : List ℕ → List ℕ → Bool
same [] [] = true
same [] (y ∷ ys) = false
same (x ∷ xs) [] = false
same (x ∷ xs) (y ∷ ys) = eqb x y && same xs ys

-- each of the numbers below n passes the test
unfoldable pub all : ℕ → (ℕ → Bool) → Bool
all zero f = true
all (suc n) f = all n f && f n

-- the table f 0, .. , f (n - 1)
unfoldable pub table {ℓ} : {A : Type ℓ} → ℕ → (ℕ → A) → List A
table zero f = []
table (suc n) f = table n f ++ (f n ∷ [])

-- the lowest of the n numbers from i on that passes the test, or i + n
unfoldable pub lowest : (ℕ → Bool) → ℕ → ℕ → ℕ
lowest p i zero = i
lowest p i (suc n) = choose (p i) i (lowest p (i + 1) n)

-- how many entries pass the test
abbrev pub one : Bool → ℕ
one true = 1
one false = 0

unfoldable pub tally {ℓ} : {A : Type ℓ} → (A → Bool) → List A → ℕ
tally f [] = 0
tally f (r ∷ s) = one (f r) + tally f s

-- those entries that pass the test, in their order
unfoldable pub keep : {A : Type 0} → (A → Bool) → List A → List A
keep f [] = []
keep f (x ∷ s) = choose (f x) (x ∷ keep f s) (keep f s)
