-- Demand 1 of the calls from outside: a number of the list fits a half and is not 0, so the two halves tell what was said.
use Prim.Native.Nat.{ℕ, ◌<◌}
use mathlib.Core.Path.{◌≡◌, refl, sym, ◌∙◌}
use mathlib.Core.Bool.{true, false}
use native.Mathlib.Omega.{arith}
use lib.ListN.{length}
use Rattle.laws.proofs.Clash.{clash}
use Rattle.laws.proofs.Tests.{within_lo, within_hi}
use Rattle.burst.specs.Vote.{vote_says}
use Rattle.header.specs.Reading.{read_says}
use Rattle.header.specs.Answers.{alert_in}
use Rattle.header.specs.Writing.{write_says}
use Rattle.book_rules.specs.Form.{form}
use Rattle.book_rules.specs.Edits.{book_row, add_says, remove_says}
use Rattle.book_rules.specs.Load.{load_says}
use Rattle.report.specs.Report.{report_says}
use Rattle.page_printing.specs.Promise.{print_says}
use Rattle.page.specs.Page.{page_of}
use Rattle.c_words.specs.Words.{fields_in}
use Rattle.c_words.specs.Says.{enough, fields_say, text_says, summary_says}
use Rattle.same.specs.Says.{strip_says, good_says}
use Rattle.laws.specs.Order.{Said, granted, refused, refused_at, is_refusal, in_order, next}
use Rattle.laws.proofs.Order.{passes_rows, passes_next}
use Rattle.refusals.specs.Refusals.{number_of}
use Rattle.c_answers.specs.Answer.{half}
use Rattle.c_answers.proofs.Packs.{halves}
use Rattle.c_words.proofs.NoChoice.{read_no_choice, write_no_choice, report_no_choice}
use Rattle.c_words.proofs.NoChoice.{read_refusal_writes_nothing, write_refusal_writes_nothing, report_refusal_writes_nothing}
use Rattle.same.proofs.NoChoice.{strip_no_choice, vote_no_choice, listed_no_choice, class_no_choice, matches_no_choice, good_no_choice}
use Rattle.same.proofs.NoChoice.{add_no_choice, remove_no_choice, load_no_choice, page_no_choice}
use Rattle.same.proofs.NoChoice.{vote_refusal_writes_nothing, add_refusal_writes_nothing, remove_refusal_writes_nothing}
use Rattle.same.proofs.NoChoice.{load_refusal_writes_nothing, page_refusal_writes_nothing}
use Rattle.demands.specs.Forms.{is_number, numbered}
use Rattle.demands.specs.Outside.{OutsideCall, OutsideRefusal, Tells, OutsideNumber}
use Rattle.demands.specs.Demand1.{EveryNumbered}

pub outside_call : OutsideCall
outside_call = record {
  strip = strip_no_choice;
  vote = vote_no_choice;
  read = read_no_choice;
  write = write_no_choice;
  listed = listed_no_choice;
  class = class_no_choice;
  matches = matches_no_choice;
  good = good_no_choice;
  add = add_no_choice;
  remove = remove_no_choice;
  load = load_no_choice;
  report = report_no_choice;
  page = page_no_choice;
}

pub outside_refusal : OutsideRefusal
outside_refusal = record {
  vote = vote_refusal_writes_nothing;
  read = read_refusal_writes_nothing;
  write = write_refusal_writes_nothing;
  add = add_refusal_writes_nothing;
  remove = remove_refusal_writes_nothing;
  load = load_refusal_writes_nothing;
  report = report_refusal_writes_nothing;
  page = page_refusal_writes_nothing;
}

-- a number of the list fits a half, and is not 0
small : {A : Type 0} (s : Said A) → numbered s ≡ true → number_of s < half
small (granted a) h = omega arith
small (refused n) h = let l = within_hi 1 23 n h in omega arith
small (refused_at n i) h = let l = within_hi 1 23 n h in omega arith

zero_granted : {A : Type 0} (s : Said A) → numbered s ≡ true → number_of s ≡ 0 → is_refusal s ≡ false
zero_granted (granted a) h e = refl
zero_granted (refused n) h e = absurd (let l = within_lo 1 23 n h in omega arith)
zero_granted (refused_at n i) h e = absurd (let l = within_lo 1 23 n h in omega arith)

granted_zero : {A : Type 0} (s : Said A) → is_refusal s ≡ false → number_of s ≡ 0
granted_zero (granted a) h = refl
granted_zero (refused n) h = clash cc
granted_zero (refused_at n i) h = clash cc

pub tells : (s : Said ℕ) → numbered s ≡ true → Tells s
tells s h =
    let p = halves s (small s h) in
    record {
      number = p.0;
      zero = λ e. zero_granted s h (sym p.0 ∙ e);
      granted = λ e. p.0 ∙ granted_zero s e;
      size_or_index = p.1;
    }

-- what names something of what was granted
pub tells_of : {A : Type 0} (s : Said A) (f : A → ℕ) → numbered s ≡ true → Tells (next s (λ a. granted (f a)))
tells_of s f h = tells (next s (λ a. granted (f a))) (passes_next is_number is_number s (λ a. granted (f a)) h (λ a. refl))

-- 13 for too few words is one too
fits : {A : Type 0} (needed words : ℕ) (last : Said A) → numbered last ≡ true → numbered (in_order (enough needed words) last) ≡ true
fits needed words last = passes_rows is_number is_number (enough needed words) last refl

pub outside_number : EveryNumbered → OutsideNumber
unfolding fields_say text_says summary_says
outside_number n = record {
  strip = λ burst. tells (strip_says burst) refl;
  vote = λ a b c room. tells (vote_says a b c room) (n.vote a b c room);
  read = λ text words.
      tells_of (fields_say text words) (λ a. length a.places)
      (passes_next is_number is_number (read_says text) (λ a. in_order (enough 50 words) (granted a)) (n.read text) (λ a. fits 50 words (granted a) refl));
  write = λ fields room.
      let a = alert_in (fields_in fields) in
      tells (text_says fields room) (fits 50 (length fields) (write_says a room) (n.write a room));
  good = λ book. tells (good_says book) (passes_rows is_number is_number (book_row form book) (granted 0) refl refl);
  add = λ book place client wish. tells_of (add_says form book place client wish) (λ u. 0) (n.add book place client wish);
  remove = λ book place client. tells_of (remove_says form book place client) (λ u. 0) (n.remove book place client);
  load = λ book items. tells_of (load_says form book items) (λ b. 0) (n.load book items);
  report = λ book client text at words room.
      tells_of (summary_says book client text at words room) (λ g. length g.hits)
      (passes_next is_number is_number (report_says book client text at room) (λ g. in_order (enough 16 words) (granted g))
      (n.report book client text at room) (λ g. fits 16 words (granted g) refl));
  page = λ input room. tells (print_says (page_of input) room) (n.print (page_of input) room);
}
