-- A book of what stands answers each change by what stands, and is left as the book of what then stands.
use mathlib.Core.Path.{◌≡◌, refl, ap, ◌∙◌}
use mathlib.Core.Bool.{true}
use mathlib.Core.List.{List, [], ◌∷◌}
use Prim.Native.Nat.{ℕ}
use Rattle.laws.specs.Order.{Said, granted, refused, refused_at, next}
use Rattle.laws.specs.Space.{leaves}
use Rattle.laws.proofs.Next.{next_next, next_said_by}
use Rattle.book_rules.specs.Form.{form}
use Rattle.book_rules.specs.Rules.{good, empty}
use Rattle.book_rules.specs.Edits.{add_says, added}
use Rattle.book_rules.specs.Subscription.{Sub}
use Rattle.book_rules.specs.Load.{items, add_all, load_says}
use Rattle.book_rules.specs.Afresh.{Afresh}
use Rattle.book_rules.specs.History.{Edit, answer, edited, number, effect}
use Rattle.book_rules.proofs.Form.{form_laws}
use Rattle.book_history.specs.Adding.{addition, additions}
use Rattle.book_history.proofs.Run.{afresh_answers, afresh_edited}
use Rattle.book_history.proofs.Afresh.{empty_afresh}
use Rattle.book_history.proofs.Proved.{form_book_and_history}
use Rattle.demands.specs.Changes.{numbers, load_number}

-- a granted addition leaves the book of one subscription more
module _ (list : List Sub) (w : List ℕ) (a : Afresh form list w) (x : Sub) where
  abbrev e : Edit
  e = addition x

  one_more : number list e ≡ granted tt → Afresh form (effect e list) (added form x.place x.client x.wish w)
  unfolding answer edited
  one_more n =
      let g : add_says form w x.place x.client x.wish ≡ granted tt = afresh_answers form form_laws list w a e ∙ n in
      let k : Afresh form (leaves (λ u. effect e) (number list e) list) (edited form w e) = afresh_edited form form_laws list w a e in
      rw (n, g) at k

-- adding each in order to a book says what the edits alone say
adding : (xs : List Sub) (list : List Sub) (w : List ℕ) → Afresh form list w → next (add_all form w xs) (λ b. granted tt) ≡ numbers list (additions xs)
unfolding add_all numbers answer
adding [] list w a = refl
adding (x ∷ xs) list w a =
    let book : List ℕ = added form x.place x.client x.wish w in
    next_next (add_says form w x.place x.client x.wish) (λ u. add_all form book xs) (λ b. granted tt)
    ∙ ap (λ (s : Said (Unit {0})). next s (λ u. next (add_all form book xs) (λ b. granted tt))) (afresh_answers form form_laws list w a (addition x))
    ∙ next_said_by (number list (addition x)) _ _ (λ u n. adding xs (effect (addition x) list) book (one_more list w a x n))

module _ (w words : List ℕ) (g : good form w ≡ true) where
  -- and so does a load
  pub load_is : next (load_says form w words) (λ b. granted tt) ≡ load_number words
  unfolding load_says load_number
  load_is = rw g (adding (items words) [] empty (empty_afresh form form_laws))

  -- a granted one leaves the book of its items
  pub load_leaves : (list : List Sub) → Afresh form list w
      → Afresh form (leaves (λ u l. items words) (load_number words) list) (leaves (λ b d. b) (load_says form w words) w)
  load_leaves list a = rw (← load_is) (over (load_says form w words) refl)
    where
      over : (s : Said (List ℕ)) → load_says form w words ≡ s
          → Afresh form (leaves (λ u l. items words) (next s (λ b. granted (tt {0}))) list) (leaves (λ b d. b) s w)
      over (granted b) q = ((form_book_and_history.load_is_building w words).granted_only b q).1
      over (refused n) q = a
      over (refused_at n i) q = a
