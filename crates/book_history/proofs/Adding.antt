-- Adding each of a list in order: all are granted in their turn, or there is a first that is refused, and never both.
use mathlib.Core.Path.{◌≡◌, refl, sym, ap, ◌∙◌, subst}
use mathlib.Core.Logic.{◌⊎◌, inl, inr, ⊎_elim}
use mathlib.Core.Bool.{Bool, true, false}
use mathlib.Core.List.{List, [], ◌∷◌}
use Prim.Native.Nat.{ℕ}
use Rattle.laws.specs.Order.{Said, granted, refused, refused_at}
use Rattle.laws.proofs.Clash.{clash}
use Rattle.laws.proofs.Order.{any_number, no_number, Numbered, passes_rows, granted_or}
use Rattle.laws.proofs.Tests.{impossible}
use Rattle.book_rules.specs.Form.{Form}
use Rattle.book_rules.specs.Edits.{add_rows, add_says, added}
use Rattle.book_rules.specs.Subscription.{Sub}
use Rattle.book_rules.specs.Load.{add_all}
use Rattle.book_rules.specs.History.{Edit, answer, edited, after}
use Rattle.book_history.specs.Adding.{addition, additions, AllGranted, none, more, FirstRefused, here, later}

-- ---- an addition is granted or has a number

plain_add : (f : Form) (w : List ℕ) (place client wish : ℕ)
    → (add_says f w place client wish ≡ granted tt) ⊎ Numbered any_number (add_says f w place client wish)
unfolding add_says
plain_add f w place client wish =
    granted_or any_number (add_says f w place client wish) (passes_rows any_number no_number (add_rows f w place client wish) (granted tt) refl refl)

-- ---- adding each in order

module _ (f : Form) where
  granted_edit : (w : List ℕ) (x : Sub) → answer f w (addition x) ≡ granted tt → edited f w (addition x) ≡ added f x.place x.client x.wish w
  unfolding answer edited
  granted_edit w x e = rw e

  pub all_granted : (list : List Sub) (w : List ℕ) → AllGranted f w (additions list) → add_all f w list ≡ granted (after f w (additions list))
  unfolding add_all after answer
  all_granted [] w none = refl
  all_granted (x ∷ list) w (more e k) =
      let b : edited f w (addition x) ≡ added f x.place x.client x.wish w = granted_edit w x e in
      rw e (rw (← b) (all_granted list (edited f w (addition x)) k))

  pub first_refused : (n : ℕ) (list : List Sub) (w : List ℕ) → FirstRefused f n w (additions list) → add_all f w list ≡ refused n
  unfolding add_all answer
  first_refused n [] w p = elim p [ ]
  first_refused n (x ∷ list) w (here e) = rw e
  first_refused n (x ∷ list) w (later e k) =
      let b : edited f w (addition x) ≡ added f x.place x.client x.wish w = granted_edit w x e in
      rw e (rw (← b) (first_refused n list (edited f w (addition x)) k))

  -- one or the other
  record Stops (w : List ℕ) (run : List Edit) : Type 0 where
    number : ℕ
    first : FirstRefused f number w run

  goes : (list : List Sub) (w : List ℕ) → AllGranted f w (additions list) ⊎ Stops w (additions list)
  unfolding answer
  goes [] w = inl none
  goes (x ∷ list) w =
      ⊎_elim
      (λ (e : add_says f w x.place x.client x.wish ≡ granted tt).
      ⊎_elim (λ (k : AllGranted f (edited f w (addition x)) (additions list)). inl (more e k))
      (λ (k : Stops (edited f w (addition x)) (additions list)). inr (record { number = k.number; first = later e k.first }))
      (goes list (edited f w (addition x))))
      (λ (e : Numbered any_number (add_says f w x.place x.client x.wish)). inr (record { number = e.its; first = here e.says }))
      (plain_add f w x.place x.client x.wish)

  -- so each is told by what is said
  pub only_granted : (list : List Sub) (w b : List ℕ) → add_all f w list ≡ granted b → AllGranted f w (additions list) × (b ≡ after f w (additions list))
  only_granted list w b e =
      ⊎_elim (λ (k : AllGranted f w (additions list)). (k, same b (after f w (additions list)) (sym e ∙ all_granted list w k)))
      (λ (k : Stops w (additions list)). never b k.number (sym e ∙ first_refused k.number list w k.first)) (goes list w)
    where
      same : (a b : List ℕ) → ◌≡◌ {A = Said (List ℕ)} (granted a) (granted b) → a ≡ b
      same a b q = cc

      never : {X : Type 0} (a : List ℕ) (n : ℕ) → granted a ≡ refused n → X
      never a n q = clash cc

  pub only_refused : (n : ℕ) (list : List Sub) (w : List ℕ) → add_all f w list ≡ refused n → FirstRefused f n w (additions list)
  only_refused n list w e =
      ⊎_elim (λ (k : AllGranted f w (additions list)). never (after f w (additions list)) (sym e ∙ all_granted list w k))
      (λ (k : Stops w (additions list)).
      subst (λ (m : ℕ). FirstRefused f m w (additions list)) (same k.number (sym (first_refused k.number list w k.first) ∙ e)) k.first)
      (goes list w)
    where
      same : (m : ℕ) → ◌≡◌ {A = Said (List ℕ)} (refused m) (refused n) → m ≡ n
      same m q = cc

      never : {X : Type 0} (a : List ℕ) → refused n ≡ granted a → X
      never a q = clash cc

  pub no_index : (n i : ℕ) (list : List Sub) (w : List ℕ) → add_all f w list ≡ refused_at n i → ⊥
  no_index n i list w e =
      ⊎_elim (λ (k : AllGranted f w (additions list)). never (granted (after f w (additions list))) refl (sym (all_granted list w k) ∙ e))
      (λ (k : Stops w (additions list)). never (refused k.number) refl (sym (first_refused k.number list w k.first) ∙ e)) (goes list w)
    where
      is_at : Said (List ℕ) → Bool
      is_at (granted a) = false
      is_at (refused m) = false
      is_at (refused_at m j) = true

      never : (said : Said (List ℕ)) → is_at said ≡ false → said ≡ refused_at n i → ⊥
      never said p q = impossible (sym p ∙ ap is_at q)
