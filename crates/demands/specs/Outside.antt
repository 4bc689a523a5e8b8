-- Demand 1 of the 13 calls from outside (include/same.h): the same three sentences, of answers that are one number of 64 bits, or
-- for the vote that and three numbers more.
use Rattle.std.specs.Prelude.{ℕ, ◌<◌, ◌≡◌, false, List}
use Rattle.laws.specs.Order.{Said, is_refusal}
use Rattle.burst.specs.Vote.{vote_says}
use Rattle.clock.specs.declared.Clock.{Clock}
use Rattle.book_rules.specs.Form.{form}
use Rattle.book_rules.specs.Edits.{add_says, remove_says}
use Rattle.book_rules.specs.Load.{load_says}
use Rattle.page_printing.specs.Promise.{print_says}
use Rattle.page.specs.Page.{page_of}
use Rattle.refusals.specs.Refusals.{number_of}
use Rattle.c_answers.specs.Answer.{capped, in_halves, bare, number_in, size_or_index_in, size_or_index_of}
use Rattle.c_words.specs.Says.{fields_say, how_many, text_says, summary_says, how_many_hits}
use Rattle.c_words.specs.Promise.{ReadWordsPromise, WriteWordsPromise, ReportWordsPromise}
use Rattle.same.specs.Says.{strip_says, good_says}
use Rattle.same.specs.declared.SameVoted.{SameVoted}
use Rattle.same.specs.Promise.{SameStripPromise, SameVotePromise, SameListedPromise, SameClassPromise, SameMatchesPromise, SameGoodPromise}
use Rattle.same.specs.Promise.{SameAddPromise, SameRemovePromise, SameLoadPromise, SamePagePromise}
use Rattle.demands.specs.Forms.{LeavesNoChoice, LeavesNoChoiceOf}

-- ---- "Every public call": the answer and the final content of lent space follow from the promise

pub record OutsideCall : Type 0 where
  pub strip : (burst : List ℕ) → LeavesNoChoice (SameStripPromise burst)
  pub vote : (a b c out : List ℕ) → LeavesNoChoiceOf (SameVotePromise a b c out)
  pub read : (text fields : List ℕ) → LeavesNoChoiceOf (ReadWordsPromise text fields)
  pub write : (fields out : List ℕ) → LeavesNoChoiceOf (WriteWordsPromise fields out)
  pub listed : (a b c : ℕ) → LeavesNoChoice (SameListedPromise a b c)
  pub class : (a b c : ℕ) → LeavesNoChoice (SameClassPromise a b c)
  pub matches : (watched sent : ℕ) → LeavesNoChoice (SameMatchesPromise watched sent)
  pub good : (book : List ℕ) → LeavesNoChoice (SameGoodPromise book)
  pub add : (book : List ℕ) (place client wish : ℕ) → LeavesNoChoiceOf (SameAddPromise book place client wish)
  pub remove : (book : List ℕ) (place client : ℕ) → LeavesNoChoiceOf (SameRemovePromise book place client)
  pub load : (book items : List ℕ) → LeavesNoChoiceOf (SameLoadPromise book items)
  -- lent twice: the summary and the hits
  pub report : (book : List ℕ) (client : ℕ) (text : List ℕ) (at : Clock) (summary hits : List ℕ) (r q : ℕ) (left rest kept held : List ℕ)
      → ReportWordsPromise book client text at summary hits r left rest → ReportWordsPromise book client text at summary hits q kept held
      → (r ≡ q) × (left ≡ kept) × (rest ≡ held)
  pub page : (input out : List ℕ) → LeavesNoChoiceOf (SamePagePromise input out)

-- ---- "and a refusal writes nothing": a caller sees it by the number in the low half

-- where the number in an answer that meets a promise is not 0, the lent space holds what it held
abbrev pub NumberWritesNothing : List ℕ → (ℕ → List ℕ → Type 0) → Type 0
NumberWritesNothing lent Promise = (r : ℕ) (left : List ℕ) → Promise r left → 0 < number_in r → left ≡ lent

pub record OutsideRefusal : Type 0 where
  pub vote : (a b c out : List ℕ) (r : SameVoted) (left : List ℕ) → SameVotePromise a b c out r left → 0 < number_in r.answer → left ≡ out
  pub read : (text fields : List ℕ) → NumberWritesNothing fields (ReadWordsPromise text fields)
  pub write : (fields out : List ℕ) → NumberWritesNothing out (WriteWordsPromise fields out)
  pub add : (book : List ℕ) (place client wish : ℕ) → NumberWritesNothing book (SameAddPromise book place client wish)
  pub remove : (book : List ℕ) (place client : ℕ) → NumberWritesNothing book (SameRemovePromise book place client)
  pub load : (book items : List ℕ) → NumberWritesNothing book (SameLoadPromise book items)
  pub report : (book : List ℕ) (client : ℕ) (text : List ℕ) (at : Clock) (summary hits : List ℕ) (r : ℕ) (left rest : List ℕ)
      → ReportWordsPromise book client text at summary hits r left rest → 0 < number_in r → (left ≡ summary) × (rest ≡ hits)
  pub page : (input out : List ℕ) → NumberWritesNothing out (SamePagePromise input out)

-- ---- "refused by the listed number": the two halves of an answer say what was said

pub record Tells (s : Said ℕ) : Type 0 where
  -- the low half is the number, and 0 exactly where the call is granted
  pub number : number_in (in_halves s) ≡ number_of s
  pub zero : number_in (in_halves s) ≡ 0 → is_refusal s ≡ false
  pub granted : is_refusal s ≡ false → number_in (in_halves s) ≡ 0
  -- the high half is the length, count or index, as far as a half can hold it
  pub size_or_index : size_or_index_in (in_halves s) ≡ capped (size_or_index_of s)

pub record OutsideNumber : Type 0 where
  pub strip : (burst : List ℕ) → Tells (strip_says burst)
  pub vote : (a b c : List ℕ) (room : ℕ) → Tells (vote_says a b c room)
  pub read : (text : List ℕ) (words : ℕ) → Tells (how_many (fields_say text words))
  pub write : (fields : List ℕ) (room : ℕ) → Tells (text_says fields room)
  pub good : (book : List ℕ) → Tells (good_says book)
  pub add : (book : List ℕ) (place client wish : ℕ) → Tells (bare (add_says form book place client wish))
  pub remove : (book : List ℕ) (place client : ℕ) → Tells (bare (remove_says form book place client))
  pub load : (book items : List ℕ) → Tells (bare (load_says form book items))
  pub report : (book : List ℕ) (client : ℕ) (text : List ℕ) (at : Clock) (words room : ℕ) → Tells (how_many_hits (summary_says book client text at words room))
  pub page : (input : List ℕ) (room : ℕ) → Tells (print_says (page_of input) room)
