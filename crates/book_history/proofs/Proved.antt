-- The book and its history, for every form that keeps its laws: a run leaves the book built afresh from what stands, and the rest follows.
use mathlib.Core.Path.{◌≡◌, refl, sym, ap, ◌∙◌}
use mathlib.Core.Logic.{◌⊎◌, inl, inr, ⊎_elim}
use mathlib.Core.Bool.{Bool, true, ◌&&◌}
use mathlib.Core.List.{List, []}
use Prim.Native.Nat.{ℕ, ◌≤◌, ◌<◌}
use Rattle.laws.specs.Lists.{keep}
use Rattle.place.specs.FirstWord.{first_word}
use Rattle.book_rules.specs.Form.{Form, FormLaws, form}
use Rattle.book_rules.specs.Rules.{good, empty}
use Rattle.book_rules.specs.Subscription.{Sub, InRange}
use Rattle.book_rules.specs.Afresh.{subs, Afresh, built}
use Rattle.book_rules.specs.History.{Edit, after, book_after, standing_from, standing}
use Rattle.book_rules.proofs.Form.{form_laws, client_fits}
use Rattle.book_rules.proofs.Ranks.{rank_says, rank_from}
use Rattle.book_history.specs.Members.{is_in, Rise, Before, by_word, by_client}
use Rattle.book_history.specs.Statements.{TheBook, History, HistoryFrom, RankOrder, BookAndHistory}
use Rattle.book_history.proofs.Same.{same_members}
use Rattle.book_history.proofs.Keeps.{same_kept}
use Rattle.book_history.proofs.Afresh.{one_book, some_book, afresh_valid, afresh_tallies, good_afresh, empty_afresh, one_per_place, book_rise}
use Rattle.book_history.proofs.Run.{afresh_answers, afresh_edited, afresh_after}
use Rattle.book_history.proofs.Loads.{load_adds, load_builds}
use Rattle.book_history.proofs.Changes.{changes, some_addition, bad_answer, bad_after}

pub rank_order : RankOrder
rank_order = record {
  says = λ x y a b l.
      ⊎_elim by_word (λ k. by_client k.0 k.1)
      (rank_says (first_word x.place) x.client (first_word y.place) y.client (low x a) (low y b) l);
  from = λ x y a b l. rank_from (first_word x.place) x.client (first_word y.place) y.client (low x a) (low y b) (pair x y l);
}
  where
    low : (x : Sub) → InRange x → x.client ≤ 9999
    low x a = client_fits x.client a.client

    pair : (x y : Sub) → Before x y → (first_word x.place < first_word y.place) ⊎ ((first_word x.place ≡ first_word y.place) × (x.client < y.client))
    pair x y (by_word l) = inl l
    pair x y (by_client e l) = inr (e, l)

module _ (f : Form) (l : FormLaws f) where
  pub the_book : TheBook f
  the_book = record {
    one_book = one_book f l;
    some_book = some_book f l;
    no_other = afresh_valid f l;
    of_none = empty_afresh f l;
    of_its_own = good_afresh f;
  }

  from_empty : (run : List Edit) → Afresh f (standing run) (book_after f run)
  unfolding standing book_after
  from_empty run = afresh_after f l run [] empty (empty_afresh f l)

  same_members_after : (run : List Edit) (x : Sub) → is_in x (subs f (book_after f run)) ≡ is_in x (standing run)
  same_members_after run = same_members (subs f (book_after f run)) (standing run) (from_empty run).exactly

  rise_after : (run : List Edit) → Rise 0 (subs f (book_after f run))
  rise_after run = book_rise f l (book_after f run) (from_empty run).keeps

  agree : (t : Sub → Bool) (h k : List Edit) → ((x : Sub) → t x && is_in x (standing h) ≡ t x && is_in x (standing k))
      → keep t (subs f (book_after f h)) ≡ keep t (subs f (book_after f k))
  agree t h k e =
      same_kept t 0 0 (subs f (book_after f h)) (subs f (book_after f k)) (rise_after h) (rise_after k)
      (λ x. ap (λ (b : Bool). t x && b) (same_members_after h x) ∙ e x ∙ ap (λ (b : Bool). t x && b) (sym (same_members_after k x)))

  pub history : History f
  history = record {
    leaves = from_empty;
    equals = λ run w a. one_book f l (standing run) (standing run) (book_after f run) w (λ x. refl) (from_empty run) a;
    is_built = λ run.
        one_book f l (standing run) (standing run) (book_after f run) (built f (standing run)) (λ x. refl) (from_empty run)
        (some_book f l (standing run) (afresh_valid f l (standing run) (book_after f run) (from_empty run)));
    answers = λ run e. afresh_answers f l (standing run) (book_after f run) (from_empty run) e;
    together = λ run. afresh_valid f l (standing run) (book_after f run) (from_empty run);
    tallies = λ run t. afresh_tallies f l (standing run) (book_after f run) (from_empty run) t;
    members = same_members_after;
    agree = agree;
  }

  from_good : (w : List ℕ) → good f w ≡ true → (run : List Edit) → Afresh f (standing_from (subs f w) run) (after f w run)
  from_good w g run = afresh_after f l run (subs f w) w (good_afresh f w g)

  pub history_from : (w : List ℕ) → HistoryFrom f w
  history_from w = record {
    leaves = from_good w;
    answers = λ g run e. afresh_answers f l (standing_from (subs f w) run) (after f w run) (from_good w g run) e;
    stays_good = λ g e. (afresh_edited f l (subs f w) w (good_afresh f w g) e).keeps;
    refuses = bad_answer f w;
    stays_bad = bad_after f w;
  }

  pub book_and_history : BookAndHistory f
  book_and_history = record {
    the_book = the_book;
    history = history;
    history_from = history_from;
    holdings = λ w g. record { one_per_place = λ place client. one_per_place f l w place client g; order = book_rise f l w g };
    rank_order = rank_order;
    load_is_adding = load_adds f;
    load_is_building = load_builds f l;
    not_idle = record { changes = changes f l; some_addition = some_addition f l };
  }

-- the form of paper 01
pub form_book_and_history : BookAndHistory form
form_book_and_history = book_and_history form form_laws
