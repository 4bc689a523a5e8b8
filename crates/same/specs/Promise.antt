-- What the calls from outside promise: the number that they answer, and every lent word or byte afterwards. Those of reading, writing
-- and reporting stand in crate c_words.
use Rattle.std.specs.Prelude.{ℕ, List, ◌≡◌, length}
use Rattle.laws.specs.Lists.{one}
use Rattle.laws.specs.Space.{pasted, leaves}
use Rattle.burst.specs.Strip.{lead}
use Rattle.burst.specs.Vote.{vote_says, vote_leaves}
use Rattle.event.specs.Events.{code, is_listed}
use Rattle.event.specs.Class.{class_of}
use Rattle.place.specs.Place.{matches}
use Rattle.book_rules.specs.Form.{form}
use Rattle.book_rules.specs.Edits.{add_says, added, remove_says, removed}
use Rattle.book_rules.specs.Load.{load_says}
use Rattle.page_printing.specs.Promise.{print_says}
use Rattle.page.specs.Page.{page_of}
use Rattle.c_answers.specs.Answer.{in_halves, bare}
use Rattle.same.specs.Says.{strip_says, good_says}
use Rattle.same.specs.declared.SameVoted.{SameVoted}

-- ---- bursts

pub record SameStripPromise (burst : List ℕ) (r : ℕ) : Type 0 where
  pub says : r ≡ in_halves (strip_says burst)

pub record SameVotePromise (a b c out : List ℕ) (r : SameVoted) (left : List ℕ) : Type 0 where
  pub says : r.answer ≡ in_halves (vote_says a b c (length out))
  pub first : r.first ≡ lead a
  pub second : r.second ≡ lead b
  pub third : r.third ≡ lead c
  pub space : left ≡ vote_leaves a b c out

-- ---- events and places: 1 for yes, 0 for no

pub record SameListedPromise (a b c r : ℕ) : Type 0 where
  pub says : r ≡ one (is_listed (code a b c))

pub record SameClassPromise (a b c r : ℕ) : Type 0 where
  pub says : r ≡ class_of (code a b c)

pub record SameMatchesPromise (watched sent r : ℕ) : Type 0 where
  pub says : r ≡ one (matches watched sent)

-- ---- the book w

pub record SameGoodPromise (w : List ℕ) (r : ℕ) : Type 0 where
  pub says : r ≡ in_halves (good_says w)

pub record SameAddPromise (w : List ℕ) (place client wish r : ℕ) (left : List ℕ) : Type 0 where
  pub says : r ≡ in_halves (bare (add_says form w place client wish))
  pub space : left ≡ leaves (λ u. added form place client wish) (add_says form w place client wish) w

pub record SameRemovePromise (w : List ℕ) (place client r : ℕ) (left : List ℕ) : Type 0 where
  pub says : r ≡ in_halves (bare (remove_says form w place client))
  pub space : left ≡ leaves (λ u. removed form place client) (remove_says form w place client) w

pub record SameLoadPromise (w items : List ℕ) (r : ℕ) (left : List ℕ) : Type 0 where
  pub says : r ≡ in_halves (bare (load_says form w items))
  pub space : left ≡ leaves (λ b d. b) (load_says form w items) w

-- ---- the program

pub record SamePagePromise (input out : List ℕ) (r : ℕ) (left : List ℕ) : Type 0 where
  pub says : r ≡ in_halves (print_says (page_of input) (length out))
  pub space : left ≡ leaves (λ n d. pasted d 0 (page_of input)) (print_says (page_of input) (length out)) out
