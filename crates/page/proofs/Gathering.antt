-- The loop that gathers the words of the `sub=` lines: what is gathered is added first, and then what is left has its say.
use mathlib.Core.Path.{◌≡◌, refl, sym, ap, ◌∙◌}
use mathlib.Core.List.{List, [], ◌∷◌, ◌++◌}
use Prim.Native.Nat.{ℕ, zero, suc, ◌+◌, ◌*◌, ◌≤◌, ◌<◌}
use native.Mathlib.Omega.{arith}
use lib.ListN.{length, take, drop, set, length-append, length-set}
use Rattle.laws.specs.Order.{Said, granted, next}
use Rattle.std.specs.Prelude.{Ok, Err}
use Rattle.std.proofs.lemmas.List.{take_more_set, flat_map_more}
use Rattle.refusals.specs.Refusals.{says}
use Rattle.refusals.specs.declared.Refusal.{Refusal}
use Rattle.refusals.proofs.Said.{next_refused}
use Rattle.laws.proofs.Next.{next_next, next_said_by}
use Rattle.input_lines.specs.Lines.{pieces}
use Rattle.input_lines.specs.Forms.{sub_line}
use Rattle.input_lines.specs.LineByLine.{each_line}
use Rattle.input_lines.specs.Next.{next_of}
use Rattle.input_lines.proofs.LineByLine.{each_took, each_bad, each_done_is}
use Rattle.input_lines.proofs.Next.{took_in}
use Rattle.book_rules.specs.Form.{form}
use Rattle.book_rules.specs.Rules.{empty}
use Rattle.book_rules.specs.Edits.{add_says, added}
use Rattle.book_rules.specs.Subscription.{Sub, sub}
use Rattle.book_rules.specs.Load.{items, add_all, load_says}
use Rattle.book_history.proofs.Proved.{form_book_and_history}
use Rattle.page.proofs.Fronts.{bad}
use Rattle.page.specs.Input.{adds_line}
use Rattle.page.specs.Steps.{flat, gathered_says}

-- ---- items, three words each

pub items_more : (l : List ℕ) (n p c v : ℕ) → length l ≡ 3 * n → items (l ++ (p ∷ c ∷ v ∷ [])) ≡ items l ++ (sub p c v ∷ [])
items_more [] n p c v h = refl
items_more (a ∷ []) n p c v h = absurd (omega arith)
items_more (a ∷ b ∷ []) n p c v h = absurd (omega arith)
items_more (a ∷ b ∷ d ∷ l) zero p c v h = absurd (omega arith)
items_more (a ∷ b ∷ d ∷ l) (suc n) p c v h = ap (λ (s : List Sub). sub a b d ∷ s) (items_more l n p c v (omega arith))

items_length : (l : List ℕ) (n : ℕ) → length l ≡ 3 * n → length (items l) ≡ n
items_length [] n h = omega arith
items_length (a ∷ []) n h = absurd (omega arith)
items_length (a ∷ b ∷ []) n h = absurd (omega arith)
items_length (a ∷ b ∷ d ∷ l) zero h = absurd (omega arith)
items_length (a ∷ b ∷ d ∷ l) (suc n) h = ap suc (items_length l n (omega arith))

-- one addition more
add_more : (w : List ℕ) (xs : List Sub) (p c v : ℕ) → add_all form w (xs ++ (sub p c v ∷ [])) ≡ next (add_all form w xs) (λ b. adds_line b (p, (c, v)))
unfolding add_all
add_more w [] p c v = refl
add_more w (x ∷ xs) p c v =
    let first = add_says form w x.place x.client x.wish in
    let then = added form x.place x.client x.wish w in
    next_said_by first _ _ (λ u e. add_more then xs p c v) ∙ sym (next_next first (λ u. add_all form then xs) (λ b. adds_line b (p, (c, v))))

-- a load of words into an empty book is their items added
pub load_empty : (list : List ℕ) → load_says form empty list ≡ add_all form empty (items list)
unfolding load_says
load_empty list = rw form_book_and_history.the_book.of_none.keeps

-- more than 4,096 are never granted
pub never : (list : List ℕ) (n : ℕ) (b : List ℕ) → length list ≡ 3 * n → 4096 < n → add_all form empty (items list) ≡ granted b → ⊥
never list n b h l e =
    let k = (form_book_and_history.load_is_building empty list).granted_only b (load_empty list ∙ e) in
    omega (arith, k.0.few, items_length list n h)

-- ---- items as they are stored

-- the first items, and one more
flat_more : (its : List (List ℕ)) (n : ℕ) (x : List ℕ) → n < length its → flat (take (n + 1) (set its n x)) ≡ flat (take n its) ++ x
flat_more its n x h = ap flat (take_more_set its n x h) ∙ sym (flat_map_more (λ l. l) [] (take n its) x)

-- ---- the loop

pub record Gathering (t : List ℕ) (at : ℕ) (its : List (List ℕ)) (count i : ℕ) : Type 0 where
  pub inside : i ≤ length t
  pub len : length its ≡ 4097
  pub taken : length (flat (take count its)) ≡ 3 * count
  pub whole : next (add_all form empty (items (flat (take count its)))) (λ b. each_line sub_line adds_line b (pieces (drop i t)))
      ≡ each_line sub_line adds_line empty (pieces (drop at t))

pub begun : (t : List ℕ) (at : ℕ) (its : List (List ℕ)) → at ≤ length t → length its ≡ 4097 → Gathering t at its 0 at
unfolding add_all
begun t at its h l = record { inside = h; len = l; taken = refl; whole = refl }

module _ (t : List ℕ) (at : ℕ) (its : List (List ℕ)) (count i : ℕ) (g : Gathering t at its count i) where
  abbrev sofar : List ℕ
  sofar = flat (take count its)

  abbrev book : Said (List ℕ)
  book = add_all form empty (items sofar)

  -- what the lines say from index j on, and all of them
  abbrev from : ℕ → List ℕ → Said (List ℕ)
  from j b = each_line sub_line adds_line b (pieces (drop j t))

  abbrev lines : Said (List ℕ)
  lines = from at empty

  -- nothing is left
  pub all_gathered : length t ≤ i → gathered_says sofar (Ok tt) ≡ lines
  all_gathered h = next_said_by book (λ b. granted b) (from i) (λ b e. sym (each_done_is sub_line adds_line b t i h)) ∙ g.whole

  -- the next line is malformed
  pub cut_short : i < length t → (e : Refusal) → says e ≡ next_of sub_line t i → gathered_says sofar (Err e) ≡ lines
  cut_short h e p =
      let b = bad sub_line t i e p in
      next_said_by book (λ w. next (says e) (λ u. granted w)) (from i)
      (λ w q. next_refused e (λ u. granted w) ∙ b.1 ∙ sym (each_bad sub_line adds_line w t i h b.0))
      ∙ g.whole

  -- more than a book can hold: the rest has no say
  pub too_many : (n : ℕ) → count ≡ n → 4096 < n → gathered_says (flat (take n its)) (Ok tt) ≡ lines
  too_many n q h =
      ap (λ (m : ℕ). gathered_says (flat (take m its)) (Ok tt)) (sym q)
      ∙ next_said_by book (λ b. granted b) (from i) (λ b e. absurd (never sofar count b g.taken (omega arith) e)) ∙ g.whole

  -- one line more
  pub went : (p c v j : ℕ) → i < length t → count < 4097 → next_of sub_line t i ≡ granted ((p, (c, v)), j)
      → Gathering t at (set its count (p ∷ c ∷ v ∷ [])) (count + 1) j
  went p c v j h l e =
      let its' : List (List ℕ) = set its count (p ∷ c ∷ v ∷ []) in
      let w : flat (take (count + 1) its') ≡ sofar ++ (p ∷ c ∷ v ∷ []) = flat_more its count (p ∷ c ∷ v ∷ []) (omega (arith, g.len)) in
      let x : items (flat (take (count + 1) its')) ≡ items sofar ++ (sub p c v ∷ []) = ap items w ∙ items_more sofar count p c v g.taken in
      record {
        inside = (took_in sub_line t i (p, (c, v)) j e).1;
        len = length-set its count (p ∷ c ∷ v ∷ []) ∙ g.len;
        taken = ap length w ∙ length-append sofar (p ∷ c ∷ v ∷ []) ∙ omega (arith, g.taken);
        whole =
            ap (λ (s : List Sub). next (add_all form empty s) (from j)) x
            ∙ ap (λ (o : Said (List ℕ)). next o (from j)) (add_more empty (items sofar) p c v)
            ∙ next_next book (λ b. adds_line b (p, (c, v))) (from j)
            ∙ next_said_by book (λ b. next (adds_line b (p, (c, v))) (from j)) (from i) (λ b o. sym (each_took sub_line adds_line b t i h (p, (c, v)) j e))
            ∙ g.whole;
      }
