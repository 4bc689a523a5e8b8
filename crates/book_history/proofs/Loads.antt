-- A load over a good book is its additions to an empty one; those that are all granted are the items of the one book built afresh.
use mathlib.Core.Path.{◌≡◌, refl, sym, ap, ◌∙◌, subst}
use mathlib.Core.Bool.{Bool, true, false}
use mathlib.Core.List.{List}
use Prim.Native.Nat.{ℕ}
use Rattle.laws.specs.Order.{Said, granted, refused, refused_at}
use Rattle.laws.proofs.Clash.{clash}
use Rattle.book_rules.specs.Form.{Form, FormLaws}
use Rattle.book_rules.specs.Rules.{good, empty}
use Rattle.book_rules.specs.Subscription.{Sub, how_often}
use Rattle.book_rules.specs.Load.{items, add_all, load_says}
use Rattle.book_rules.specs.Afresh.{Afresh, Valid, built}
use Rattle.book_rules.specs.History.{book_after}
use Rattle.book_history.specs.Adding.{additions, AllGranted}
use Rattle.book_history.specs.Statements.{LoadIsAdding, LoadIsBuilding}
use Rattle.book_history.proofs.Afresh.{one_book, some_book, afresh_valid}
use Rattle.book_history.proofs.Adding.{all_granted, first_refused, only_granted, only_refused, no_index}
use Rattle.book_history.proofs.Together.{added_afresh, together_granted}

module _ (f : Form) (w list : List ℕ) where
  load_bad : good f w ≡ false → load_says f w list ≡ refused 16
  unfolding load_says
  load_bad g = rw g

  load_good : good f w ≡ true → load_says f w list ≡ add_all f empty (items list)
  unfolding load_says
  load_good g = rw g

  -- a load that says more than 16 is over a good book
  load_granted : (b : List ℕ) → load_says f w list ≡ granted b → add_all f empty (items list) ≡ granted b
  load_granted b e = by (good f w) refl
    where
      never : refused 16 ≡ granted b → ⊥
      never q = clash cc

      by : (t : Bool) → good f w ≡ t → add_all f empty (items list) ≡ granted b
      by true g = sym (load_good g) ∙ e
      by false g = absurd (never (sym (load_bad g) ∙ e))

  load_index : (n i : ℕ) → load_says f w list ≡ refused_at n i → add_all f empty (items list) ≡ refused_at n i
  load_index n i e = by (good f w) refl
    where
      never : ◌≡◌ {A = Said (List ℕ)} (refused 16) (refused_at n i) → ⊥
      never q = clash cc

      by : (t : Bool) → good f w ≡ t → add_all f empty (items list) ≡ refused_at n i
      by true g = sym (load_good g) ∙ e
      by false g = absurd (never (sym (load_bad g) ∙ e))

  pub load_adds : LoadIsAdding f w list
  unfolding book_after
  load_adds = record {
    bad = load_bad;
    grants = λ g k. load_good g ∙ all_granted f (items list) empty k;
    granted_only = λ g b e. only_granted f (items list) empty b (sym (load_good g) ∙ e);
    refuses = λ g n k. load_good g ∙ first_refused f n (items list) empty k;
    refused_only = λ g n e. only_refused f n (items list) empty (sym (load_good g) ∙ e);
    no_index = λ n i e. no_index f n i (items list) empty (load_index n i e);
  }

-- ---- by the items alone

module _ (f : Form) (l : FormLaws f) (w list : List ℕ) where
  is_built : (b : List ℕ) → Afresh f (items list) b → b ≡ built f (items list)
  is_built b a = one_book f l (items list) (items list) b (built f (items list)) (λ x. refl) a (some_book f l (items list) (afresh_valid f l (items list) b a))

  granted_afresh : (b : List ℕ) → load_says f w list ≡ granted b → Afresh f (items list) b
  unfolding book_after
  granted_afresh b e =
      let k = only_granted f (items list) empty b (load_granted f w list b e) in
      subst (λ (u : List ℕ). Afresh f (items list) u) (sym k.1) (added_afresh f l (items list) k.0)

  together_loads : good f w ≡ true → Valid (items list) → load_says f w list ≡ granted (built f (items list))
  together_loads g v =
      let k : AllGranted f empty (additions (items list)) = together_granted f l (items list) v in
      (load_adds f w list).grants g k ∙ ap granted (is_built (book_after f (additions (items list))) (added_afresh f l (items list) k))

  pub load_builds : LoadIsBuilding f w list
  load_builds = record {
    grants = together_loads;
    granted_only = λ b e. let a = granted_afresh b e in (afresh_valid f l (items list) b a, a, is_built b a);
  }

-- ---- in another order

-- items that are granted in one order are granted in any, and leave the same book
pub any_order : (f : Form) → FormLaws f → (a b : List Sub) (w : List ℕ) → ((x : Sub) → how_often x a ≡ how_often x b)
    → add_all f empty a ≡ granted w → add_all f empty b ≡ granted w
unfolding book_after
any_order f l a b w e g =
    let k = only_granted f a empty w g in
    let p : Afresh f a w = subst (λ (u : List ℕ). Afresh f a u) (sym k.1) (added_afresh f l a k.0) in
    let q : Afresh f b w = record { keeps = p.keeps; exactly = λ x. p.exactly x ∙ e x } in
    let n : AllGranted f empty (additions b) = together_granted f l b (afresh_valid f l b w q) in
    all_granted f b empty n ∙ ap granted (one_book f l b b (book_after f (additions b)) w (λ x. refl) (added_afresh f l b n) q)
