-- What is proved of the book and its history, for a form of records. Demand 3, first half; paper 01, "The book".
use Rattle.std.specs.Prelude.{ℕ, ◌≤◌, ◌<◌, ◌≡◌, Bool, true, false, ◌&&◌, List, []}
use Rattle.laws.specs.Order.{granted, refused, refused_at}
use Rattle.laws.specs.Lists.{tally, keep}
use Rattle.book_rules.specs.Form.{Form}
use Rattle.book_rules.specs.Rules.{good, empty}
use Rattle.book_rules.specs.Subscription.{Sub, how_often, is_pair, InRange}
use Rattle.book_rules.specs.Load.{items, load_says}
use Rattle.book_rules.specs.Afresh.{subs, Afresh, Valid, built}
use Rattle.book_rules.specs.History.{Edit, adds, answer, edited, after, book_after, number, standing_from, standing}
use Rattle.book_history.specs.Members.{is_in, rank_sub, Rise, Before}
use Rattle.book_history.specs.Adding.{additions, AllGranted, FirstRefused}

-- ---- the book built afresh from some subscriptions

pub record TheBook (f : Form) : Type 0 where
  -- there is only one, in every word, in whatever order they are given
  pub one_book : (a b : List Sub) (w u : List ℕ) → ((x : Sub) → how_often x a ≡ how_often x b) → Afresh f a w → Afresh f b u → w ≡ u
  -- there is one where each is in range, no pair of place and client stands twice and they are at most 4,096
  pub some_book : (list : List Sub) → Valid list → Afresh f list (built f list)
  -- and only there
  pub no_other : (list : List Sub) (w : List ℕ) → Afresh f list w → Valid list
  -- the empty book is that of no subscription, and a good book that of those that it holds
  pub of_none : Afresh f [] empty
  pub of_its_own : (w : List ℕ) → good f w ≡ true → Afresh f (subs f w) w

-- ---- any run of edits from the empty book, granted or refused

pub record History (f : Form) : Type 0 where
  -- it leaves the book built afresh from what stands
  pub leaves : (run : List Edit) → Afresh f (standing run) (book_after f run)
  -- so it equals that book in every word
  pub equals : (run : List Edit) (w : List ℕ) → Afresh f (standing run) w → book_after f run ≡ w
  pub is_built : (run : List Edit) → book_after f run ≡ built f (standing run)
  -- each edit gets the number that what stands gives
  pub answers : (run : List Edit) (e : Edit) → answer f (book_after f run) e ≡ number (standing run) e
  -- what stands could stand together
  pub together : (run : List Edit) → Valid (standing run)
  -- what stands passes any test as often as what the book holds
  pub tallies : (run : List Edit) (t : Sub → Bool) → tally t (subs f (book_after f run)) ≡ tally t (standing run)
  pub members : (run : List Edit) (x : Sub) → is_in x (subs f (book_after f run)) ≡ is_in x (standing run)
  -- runs that agree on what passes a test leave books that hold the same of it, in the same order
  pub agree : (t : Sub → Bool) (h k : List Edit) → ((x : Sub) → t x && is_in x (standing h) ≡ t x && is_in x (standing k))
      → keep t (subs f (book_after f h)) ≡ keep t (subs f (book_after f k))

-- the same from any book: a good one, and one that is not
pub record HistoryFrom (f : Form) (w : List ℕ) : Type 0 where
  pub leaves : good f w ≡ true → (run : List Edit) → Afresh f (standing_from (subs f w) run) (after f w run)
  pub answers : good f w ≡ true → (run : List Edit) (e : Edit) → answer f (after f w run) e ≡ number (standing_from (subs f w) run) e
  pub stays_good : good f w ≡ true → (e : Edit) → good f (edited f w e) ≡ true
  pub refuses : good f w ≡ false → (e : Edit) → answer f w e ≡ refused 16
  pub stays_bad : good f w ≡ false → (run : List Edit) → after f w run ≡ w

-- ---- the subscriptions of a good book

pub record Holdings (f : Form) (w : List ℕ) : Type 0 where
  -- one client holds one subscription per place
  pub one_per_place : (place client : ℕ) → tally (is_pair place client) (subs f w) ≤ 1
  -- they stand in rising order, each in range
  pub order : Rise 0 (subs f w)

-- the order of ranks is that of first word, then client
pub record RankOrder : Type 0 where
  pub says : (x y : Sub) → InRange x → InRange y → rank_sub x < rank_sub y → Before x y
  pub from : (x y : Sub) → InRange x → InRange y → Before x y → rank_sub x < rank_sub y

-- ---- a load over any book equals adding each item in order to an empty book

pub record LoadIsAdding (f : Form) (w list : List ℕ) : Type 0 where
  -- 16 where that book is not good
  pub bad : good f w ≡ false → load_says f w list ≡ refused 16
  -- else granted exactly if each addition is granted in its turn, leaving the book after them
  pub grants : good f w ≡ true → AllGranted f empty (additions (items list)) → load_says f w list ≡ granted (book_after f (additions (items list)))
  pub granted_only : good f w ≡ true → (b : List ℕ) → load_says f w list ≡ granted b
      → AllGranted f empty (additions (items list)) × (b ≡ book_after f (additions (items list)))
  -- else refused with the number of the first that is not
  pub refuses : good f w ≡ true → (n : ℕ) → FirstRefused f n empty (additions (items list)) → load_says f w list ≡ refused n
  pub refused_only : good f w ≡ true → (n : ℕ) → load_says f w list ≡ refused n → FirstRefused f n empty (additions (items list))
  pub no_index : (n i : ℕ) → load_says f w list ≡ refused_at n i → ⊥

-- the same told by the items alone: granted exactly if they could stand together, leaving the book built afresh from them
pub record LoadIsBuilding (f : Form) (w list : List ℕ) : Type 0 where
  pub grants : good f w ≡ true → Valid (items list) → load_says f w list ≡ granted (built f (items list))
  pub granted_only : (b : List ℕ) → load_says f w list ≡ granted b → Valid (items list) × Afresh f (items list) b × (b ≡ built f (items list))

-- ---- no edit only pretends, and not every addition is refused

pub record NotIdle (f : Form) : Type 0 where
  pub changes : (w : List ℕ) (e : Edit) → answer f w e ≡ granted tt → edited f w e ≡ w → ⊥
  pub some_addition : answer f empty (adds 39051 7 1) ≡ granted tt

-- ---- all of it

pub record BookAndHistory (f : Form) : Type 0 where
  pub the_book : TheBook f
  pub history : History f
  pub history_from : (w : List ℕ) → HistoryFrom f w
  pub holdings : (w : List ℕ) → good f w ≡ true → Holdings f w
  pub rank_order : RankOrder
  pub load_is_adding : (w list : List ℕ) → LoadIsAdding f w list
  pub load_is_building : (w list : List ℕ) → LoadIsBuilding f w list
  pub not_idle : NotIdle f
