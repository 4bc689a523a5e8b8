-- Paper 01, "How much the contracts say": each impostor, and the statement that shuts it out. What meets the promises is none of them.
use Rattle.std.specs.Prelude.{ℕ, ◌≤◌, ◌≡◌, List, [], ◌∷◌, length, Result, Ok}
use Rattle.laws.specs.Order.{granted}
use Rattle.burst.specs.Promise.{VotePromise, said_vote}
use Rattle.burst.specs.declared.VoteAnswer.{VoteAnswer}
use Rattle.header.specs.Header.{Alert, text_of, WellFormed}
use Rattle.header.specs.Answers.{said_read, fields_read}
use Rattle.header.specs.declared.Fields.{Fields}
use Rattle.header.specs.Promise.{ReadPromise}
use Rattle.book_rules.specs.Form.{form}
use Rattle.book_rules.specs.Rules.{recs, empty}
use Rattle.book_rules.specs.Edits.{added}
use Rattle.book_rules.specs.Load.{items}
use Rattle.book_rules.specs.Afresh.{Afresh}
use Rattle.book_rules.specs.History.{Edit, standing_from}
use Rattle.book_edits.specs.Promise.{AddPromise, RemovePromise, LoadPromise}
use Rattle.refusals.specs.declared.Refusal.{Refusal}
use Rattle.report.specs.Promise.{ReportPromise}
use Rattle.report.specs.Answers.{HasHits}
use Rattle.report.specs.declared.Summary.{Summary}
use Rattle.demands.specs.Calls.{Called}
use Rattle.header.specs.Samples.{sample, sample_says, lasting}
use Rattle.demands.specs.Texts.{sample_clock, sample_run}

pub record Impostors : Type 0 where
  -- "Refuses always: shut out by demand 2, which reads every text of the form." The sample is one
  pub reads_every : (a : Alert) (r : Result Fields Refusal) → WellFormed a → ReadPromise (text_of a) r → said_read r ≡ granted a
  pub reads_sample : (r : Result Fields Refusal) → ReadPromise sample r → said_read r ≡ granted sample_says
  pub some_vote : (out : List ℕ) (r : VoteAnswer) (left : List ℕ) → 1 ≤ length out → VotePromise (0x54 ∷ []) (0x5A ∷ []) (0x43 ∷ []) out r left
      → said_vote r ≡ granted 1
  -- "Answers always alike: demand 2 again, since two texts read to different fields."
  pub two_texts : (r q : Result Fields Refusal) → ReadPromise (lasting "0130") r → ReadPromise (lasting "9930") q → fields_read r ≡ fields_read q → ⊥
  -- "An edit that does nothing": what says that it was done changed the book
  pub add_changes : (w : List ℕ) (place client wish : ℕ) (r : Result (Unit {0}) Refusal) (left : List ℕ) → AddPromise w place client wish r left → r ≡ Ok tt → left ≡ w → ⊥
  pub remove_changes : (w : List ℕ) (place client : ℕ) (r : Result (Unit {0}) Refusal) (left : List ℕ) → RemovePromise w place client r left → r ≡ Ok tt → left ≡ w → ⊥
  -- ".. or refuses every addition": the first to an empty book is done, and one record then stands; and its removal is done
  pub some_addition : (r : Result (Unit {0}) Refusal) (left : List ℕ) → AddPromise empty 39051 7 1 r left → (r ≡ Ok tt) × (length (recs left) ≡ 1)
  pub some_removal : (r : Result (Unit {0}) Refusal) (left : List ℕ) → RemovePromise (added form 39051 7 1 empty) 39051 7 r left → (r ≡ Ok tt) × (left ≡ empty)
  -- "A load that works while later edits only pretend": after a load and each edit, the book is that of what then stands
  pub after_load : (w list : List ℕ) (r : Result (Unit {0}) Refusal) (loaded : List ℕ) (run : List Edit) (z : List ℕ)
      → LoadPromise w list r loaded → r ≡ Ok tt → Called loaded run z → Afresh form (standing_from (items list) run) z
  -- "A made-up hit count": over the sample's four subscriptions client 7 has two hits, client 12 one and client 8 none
  pub two_hits : (book out : List ℕ) (r : Result Summary Refusal) (left : List ℕ) → Called empty sample_run book → 4 ≤ length out
      → ReportPromise book 7 sample sample_clock out r left
      → HasHits 2 r
  pub one_hit : (book out : List ℕ) (r : Result Summary Refusal) (left : List ℕ) → Called empty sample_run book → 2 ≤ length out
      → ReportPromise book 12 sample sample_clock out r left
      → HasHits 1 r
  pub no_hit : (book out : List ℕ) (r : Result Summary Refusal) (left : List ℕ) → Called empty sample_run book → ReportPromise book 8 sample sample_clock out r left
      → HasHits 0 r
