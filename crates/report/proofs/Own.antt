-- A client's report depends on nobody else's subscriptions: two books that agree on the client's have the same hits in the same order.
use mathlib.Core.Path.{◌≡◌, refl, sym, ap, ◌∙◌}
use mathlib.Core.Bool.{Bool, true, false, ◌&&◌}
use mathlib.Core.List.{List}
use Prim.Native.Nat.{ℕ}
use lib.Dec.{ltb}
use lib.ListN.{length}
use Rattle.laws.specs.Order.{Said, granted, refused, refused_at, in_order, next}
use Rattle.laws.specs.Space.{leaves}
use Rattle.header.specs.Header.{Alert}
use Rattle.header.specs.Reading.{read_says}
use Rattle.event.specs.Class.{class_of}
use Rattle.clock.specs.declared.Clock.{Clock}
use Rattle.book_rules.specs.Form.{form}
use Rattle.book_rules.specs.Edits.{client_row}
use Rattle.book_rules.specs.Subscription.{Sub}
use Rattle.book_rules.specs.Afresh.{subs, Afresh}
use Rattle.book_rules.specs.History.{Edit, standing, book_after}
use Rattle.book_rules.proofs.Form.{form_laws}
use Rattle.book_history.specs.Members.{is_in}
use Rattle.book_history.proofs.Keeps.{same_kept}
use Rattle.book_history.proofs.Same.{in_times}
use Rattle.book_history.proofs.Afresh.{book_rise}
use Rattle.book_history.proofs.Proved.{form_book_and_history}
use Rattle.report.specs.Hits.{is_of, hits_of}
use Rattle.report.specs.Report.{Full, alert_says, list_says, report_says}
use Rattle.std.specs.Prelude.{Result}
use Rattle.refusals.specs.declared.Refusal.{Refusal}
use Rattle.refusals.proofs.NoChoice.{said_one}
use Rattle.report.specs.Answers.{answer_says}
use Rattle.report.specs.Promise.{writes_hits, ReportPromise}
use Rattle.report.specs.Exact.{wanted}
use Rattle.report.specs.Own.{Agree, Covers}
use Rattle.report.specs.declared.Summary.{Summary}
use Rattle.report.proofs.Exact.{hit_own}

module _ (own : Sub → Bool) (client : ℕ) (covers : Covers own client) (s t : List Sub) (b c : List ℕ)
    (fb : Afresh form s b) (fc : Afresh form t c) (agree : Agree own s t) where
  members : (a : Alert) (x : Sub) → wanted client a x && is_in x (subs form b) ≡ wanted client a x && is_in x (subs form c)
  members a x = by (wanted client a x) refl
    where
      by : (w : Bool) → wanted client a x ≡ w → w && is_in x (subs form b) ≡ w && is_in x (subs form c)
      by true e =
          in_times x (subs form b)
          ∙ ap (ltb 0) (fb.exactly x ∙ agree x (covers x (hit_own client (class_of a.event) a.places x e)) ∙ sym (fc.exactly x))
          ∙ sym (in_times x (subs form c))
      by false e = refl

  same_hits : (a : Alert) → hits_of client a (subs form b) ≡ hits_of client a (subs form c)
  unfolding hits_of
  same_hits a =
      same_kept (wanted client a) 0 0 (subs form b) (subs form c) (book_rise form form_laws b fb.keeps) (book_rise form form_laws c fc.keeps)
      (members a)

  same_list : (text : List ℕ) (at : Clock) (room : ℕ) → list_says (subs form b) client text at room ≡ list_says (subs form c) client text at room
  unfolding list_says
  same_list text at room = ap (in_order (client_row client)) (by (read_says text))
    where
      by : (o : Said Alert)
          → next o (λ a. alert_says at room a (hits_of client a (subs form b)))
          ≡ next o (λ a. alert_says at room a (hits_of client a (subs form c)))
      by (granted a) = ap (alert_says at room a) (same_hits a)
      by (refused n) = refl
      by (refused_at n i) = refl

  -- books of subscriptions that agree on this client's: the same is said, refusals included
  pub same_report : (text : List ℕ) (at : Clock) (room : ℕ) → report_says b client text at room ≡ report_says c client text at room
  unfolding report_says
  same_report text at room = rw (fb.keeps, fc.keeps) (same_list text at room)

-- demand 3: two runs that agree on the subscriptions that pass a test, this client's among them, give the client the same report,
-- refusals included, for every header text, clock and lent space
pub own_only : (own : Sub → Bool) (client : ℕ) → Covers own client → (h k : List Edit) → Agree own (standing h) (standing k)
    → (text : List ℕ) (at : Clock) (room : ℕ)
    → report_says (book_after form h) client text at room ≡ report_says (book_after form k) client text at room
own_only own client covers h k agree =
    let fresh = form_book_and_history.history.leaves in
    same_report own client covers (standing h) (standing k) (book_after form h) (book_after form k) (fresh h) (fresh k) agree

-- the same of what the call answers and leaves in the lent words
pub own_only_answer : (own : Sub → Bool) (client : ℕ) → Covers own client → (h k : List Edit) → Agree own (standing h) (standing k)
    → (text : List ℕ) (at : Clock) (out : List ℕ) (r q : Result Summary Refusal) (left rest : List ℕ)
    → ReportPromise (book_after form h) client text at out r left → ReportPromise (book_after form k) client text at out q rest
    → (r ≡ q) × (left ≡ rest)
own_only_answer own client covers h k agree text at out r q left rest p u =
    let e = own_only own client covers h k agree text at (length out) in
    (said_one r q (p.says ∙ ap answer_says e ∙ sym u.says), p.lent ∙ ap (λ (s : Said Full). leaves writes_hits s out) e ∙ sym u.lent)

-- one client's own subscriptions are a test
pub own_client : (client : ℕ) → Covers (is_of client) client
own_client client x e = e
