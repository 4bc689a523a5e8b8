-- What a call says is what the first row that holds says, over any list of rows.
use mathlib.Core.Bool.{Bool, true, false}
use mathlib.Core.List.{List, [], ◌∷◌, ◌++◌}
use mathlib.Core.Path.{◌≡◌, refl, sym, ap, ◌∙◌}
use mathlib.Core.Logic.{◌⊎◌, inl, inr, ⊎_elim}
use Prim.Native.Nat.{ℕ}
use Rattle.laws.specs.Order.{Said, granted, refused, refused_at, choose, next, is_refusal, passes}
use Rattle.laws.specs.Order.{Row, in_order, Quiet, none, more, First, here, later, Refusals}
use Rattle.laws.specs.Lists.{every}
use Rattle.laws.specs.Space.{leaves}
use Rattle.laws.proofs.Clash.{clash}
use Rattle.laws.proofs.Tests.{and_l, and_r, impossible}

-- the paper's sentence: what is said is said by the first row that holds, or no row holds and the last is said
pub exactly : {A : Type 0} (rows : List (Row A)) (last : A) → First (in_order rows last) rows ⊎ (Quiet rows × (in_order rows last ≡ last))
exactly [] last = inr (none, refl)
exactly {A} (r ∷ rows) last = by r.holds refl (exactly rows last)
  where
    by : (b : Bool) → r.holds ≡ b → First (in_order rows last) rows ⊎ (Quiet rows × (in_order rows last ≡ last))
        → First (choose b r.says (in_order rows last)) (r ∷ rows) ⊎ (Quiet (r ∷ rows) × (choose b r.says (in_order rows last) ≡ last))
    by true e k = inl (here e)
    by false e k = ⊎_elim (λ p. inl (later e p)) (λ p. inr (more e p.0, p.1)) k

-- and the other way: what the first row that holds says is said; where no row holds, the last is said
pub said_first : {A : Type 0} (x : A) (rows : List (Row A)) (last : A) → First x rows → in_order rows last ≡ x
said_first {A = A} x [] last p = elim p [ ]
said_first x (r ∷ rows) last (here h) = rw h
said_first x (r ∷ rows) last (later h p) = rw h (said_first x rows last p)

pub said_last : {A : Type 0} (rows : List (Row A)) (last : A) → Quiet rows → in_order rows last ≡ last
said_last [] last none = refl
said_last (q ∷ rows) last (more e qs) = rw e (said_last rows last qs)

-- a row is given where it holds and none before it does
pub given : {A : Type 0} (before : List (Row A)) (r : Row A) (after : List (Row A)) (last : A)
    → Quiet before → r.holds ≡ true → in_order (before ++ (r ∷ after)) last ≡ r.says
given [] r after last none h = rw h
given (q ∷ before) r after last (more e qs) h = rw e (given before r after last qs h)

-- groups of rows, one after the other
pub in_groups : {A : Type 0} (p q : List (Row A)) (last : A) → in_order (p ++ q) last ≡ in_order p (in_order q last)
in_groups [] q last = refl
in_groups {A} (r ∷ p) q last = ap (λ (x : A). choose r.holds r.says x) (in_groups p q last)

pub quiet_groups : {A : Type 0} {p q : List (Row A)} → Quiet p → Quiet q → Quiet (p ++ q)
quiet_groups none k = k
quiet_groups (more e h) k = more e (quiet_groups h k)

-- a call that is granted is one for which no row holds
pub granted_quiet : {A : Type 0} (rows : List (Row (Said A))) (v g : A) → Refusals rows → in_order rows (granted v) ≡ granted g → Quiet rows
granted_quiet [] v g r e = none
granted_quiet {A = A} (q ∷ rows) v g r e = by q.holds refl e (granted_quiet rows v g r.1)
  where
    by : (b : Bool) → q.holds ≡ b → choose b q.says (in_order rows (granted v)) ≡ granted g → (in_order rows (granted v) ≡ granted g → Quiet rows)
        → Quiet (q ∷ rows)
    by true h e k = (let z : true ≡ false = sym r.0 ∙ ap is_refusal e in clash cc)
    by false h e k = more h (k e)

-- a refusal writes nothing, whatever the call's effect would have been
pub refusal_leaves : {A B : Type 0} (effect : A → B → B) (said : Said A) (d : B) → is_refusal said ≡ true → leaves effect said d ≡ d
refusal_leaves effect (granted a) d h = clash cc
refusal_leaves effect (refused n) d h = refl
refusal_leaves effect (refused_at n i) d h = refl

-- ---- the law of rows: where the number of every row passes a test, so does what is said. The rows are tried by computing: `refl`

module _ (p q : ℕ → Bool) where
  abbrev pub all_pass : {A : Type 0} → List (Row (Said A)) → Bool
  all_pass rows = every (λ r. passes p q r.says) rows

  pub passes_first : {A : Type 0} (x : Said A) (rows : List (Row (Said A))) → First x rows → all_pass rows ≡ true → passes p q x ≡ true
  passes_first {A = A} x [] p all = elim p [ ]
  passes_first x (r ∷ rows) (here h) all = and_l (passes p q r.says) (all_pass rows) all
  passes_first x (r ∷ rows) (later h k) all = passes_first x rows k (and_r (passes p q r.says) (all_pass rows) all)

  pub passes_rows : {A : Type 0} (rows : List (Row (Said A))) (last : Said A)
      → all_pass rows ≡ true → passes p q last ≡ true → passes p q (in_order rows last) ≡ true
  passes_rows rows last all end =
      ⊎_elim (λ k. passes_first (in_order rows last) rows k all) (λ k. rw k.1 end) (exactly rows last)

  pub passes_next : {A B : Type 0} (s : Said A) (f : A → Said B)
      → passes p q s ≡ true → ((a : A) → passes p q (f a) ≡ true) → passes p q (next s f) ≡ true
  passes_next (granted a) f h k = k a
  passes_next (refused n) f h k = h
  passes_next (refused_at n i) f h k = h

  -- a test that passes no fewer
  pub passes_more : {A : Type 0} (r t : ℕ → Bool) → ((n : ℕ) → p n ≡ true → r n ≡ true) → ((n : ℕ) → q n ≡ true → t n ≡ true)
      → (s : Said A) → passes p q s ≡ true → passes r t s ≡ true
  passes_more r t f g (granted a) h = refl
  passes_more r t f g (refused n) h = f n h
  passes_more r t f g (refused_at n i) h = g n h

-- where no row names an index, what is said is granted, or a number that passes. Tests that pass any number, and none
abbrev pub any_number : ℕ → Bool
any_number n = true

abbrev pub no_number : ℕ → Bool
no_number n = false

pub record Numbered {A : Type 0} (p : ℕ → Bool) (s : Said A) : Type 0 where
  pub its : ℕ
  pub fits : p its ≡ true
  pub says : s ≡ refused its

pub granted_or : (p : ℕ → Bool) (s : Said (Unit {0})) → passes p no_number s ≡ true → (s ≡ granted tt) ⊎ Numbered p s
granted_or p (granted u) h = inl refl
granted_or p (refused n) h = inr (record { its = n; fits = h; says = refl })
granted_or p (refused_at n i) h = impossible h
