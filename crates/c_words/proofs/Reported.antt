-- A report handed on: by its answer, and by the space that was lent for its summary.
use Prim.Native.Nat.{ℕ, ◌*◌, ◌≤◌, ◌<◌}
use mathlib.Core.Path.{◌≡◌, refl, sym, ap, ◌∙◌, subst}
use mathlib.Core.Bool.{Bool, true, false, not}
use mathlib.Core.List.{List}
use lib.ListN.{length}
use lib.Dec.{ltb}
use borrow.Author.Tests.{lt-ltb, le-ltb}
use Rattle.laws.specs.Order.{Said, granted, refused, refused_at, choose, in_order, next}
use Rattle.laws.specs.Space.{pasted, leaves}
use Rattle.laws.proofs.Next.{next_granted}
use Rattle.clock.specs.declared.Clock.{Clock}
use Rattle.clock.specs.Clock.{has_day, is_clock}
use Rattle.clock.specs.Lifetime.{year_of}
use Rattle.header.specs.Header.{Alert}
use Rattle.header.specs.Reading.{read_says}
use Rattle.book_rules.specs.Form.{form, bad_client}
use Rattle.book_rules.specs.Rules.{good}
use Rattle.book_rules.specs.Subscription.{Sub}
use Rattle.book_rules.specs.Afresh.{subs}
use Rattle.report.specs.Hits.{hits_of}
use Rattle.report.specs.Report.{Full, alert_says, list_says, report_says}
use Rattle.std.specs.Prelude.{Result, Ok}
use Rattle.refusals.specs.Refusals.{says, said}
use Rattle.refusals.specs.declared.Refusal.{Refusal}
use Rattle.refusals.proofs.Said.{next_refused, leaves_refused}
use Rattle.report.specs.Answers.{answer_says}
use Rattle.report.specs.Promise.{writes_hits}
use Rattle.report.specs.declared.Summary.{Summary}
use Rattle.report.proofs.Given.{given, count_given, answer_ok, answer_err}
use Rattle.c_answers.specs.Answer.{in_halves}
use Rattle.c_words.specs.Words.{summary_words}
use Rattle.c_words.specs.Says.{enough, how_many_hits, summary_says}
use Rattle.c_words.specs.Steps.{without_summary, ReportsWords}
use Rattle.c_words.specs.Promise.{ReportWordsPromise}

-- ---- with no summary to give

pub blind_granted : (o : Said Full) (s : Summary) → granted s ≡ answer_says o → refused 13 ≡ without_summary o
blind_granted o s e = let g = answer_ok o s e in sym (ap without_summary g.1)

pub blind_refused : (o : Said Full) (e : Refusal) → says e ≡ answer_says o → says e ≡ without_summary o
blind_refused o e p = sym (ap without_summary (answer_err o e p) ∙ next_refused e (λ g. refused 13))

-- the room lent for hits has then no say
last_row : (b c : Bool) (g : Full) → without_summary (choose b (refused 13) (granted g)) ≡ without_summary (choose c (refused 13) (granted g))
last_row true true g = refl
last_row true false g = refl
last_row false true g = refl
last_row false false g = refl

rows : (p q b c : Bool) (g : Full)
    → without_summary (choose p (refused 15) (choose q (refused 14) (choose b (refused 13) (granted g))))
    ≡ without_summary (choose p (refused 15) (choose q (refused 14) (choose c (refused 13) (granted g))))
rows true q b c g = refl
rows false true b c g = refl
rows false false b c g = last_row b c g

alerted : (at : Clock) (m n : ℕ) (a : Alert) (hits : List Sub) → without_summary (alert_says at m a hits) ≡ without_summary (alert_says at n a hits)
unfolding alert_says
alerted at m n a hits =
    rows (not (is_clock at)) (not (has_day (year_of at a.day a.hour a.minute) a.day)) (ltb m (2 * length hits)) (ltb n (2 * length hits)) _

after_reading : (o : Said Alert) (f g : Alert → Said Full) → ((a : Alert) → without_summary (f a) ≡ without_summary (g a))
    → without_summary (next o f) ≡ without_summary (next o g)
after_reading (granted a) f g h = h a
after_reading (refused n) f g h = refl
after_reading (refused_at n i) f g h = refl

after_row : (b : Bool) (n : ℕ) (s t : Said Full) → without_summary s ≡ without_summary t
    → without_summary (choose b (refused n) s) ≡ without_summary (choose b (refused n) t)
after_row true n s t e = refl
after_row false n s t e = e

pub any_room : (book : List ℕ) (client : ℕ) (text : List ℕ) (at : Clock) (m n : ℕ)
    → without_summary (report_says book client text at m) ≡ without_summary (report_says book client text at n)
unfolding report_says list_says
any_room book client text at m n =
    after_row (not (good form book)) 16 _ _
    (after_row (bad_client client) 17 _ _
    (after_reading (read_says text) _ _ (λ a. alerted at m n a (hits_of client a (subs form book)))))

-- ---- with a summary

module _ (book : List ℕ) (client : ℕ) (text : List ℕ) (at : Clock) (room : ℕ) (d h : List ℕ) where
  abbrev whole : Said Full
  whole = report_says book client text at room

  pub both_granted : (left rest : List ℕ) (s : Summary) → granted s ≡ answer_says whole → left ≡ pasted d 0 (summary_words s) → rest ≡ leaves writes_hits whole h
      → ReportsWords whole d h (Ok s.hits) left rest
  both_granted left rest s v l w =
      let g = answer_ok whole s v in
      let q = g.1 in
      let k = given book client text at room g.0 q in
      let n : s.hits ≡ length g.0.hits = ap (λ (x : Summary). x.hits) (sym g.2) ∙ count_given book client text at room g.0 k in
      record {
        says = ap granted n ∙ sym (ap how_many_hits q);
        summary = l ∙ ap (λ (x : Summary). pasted d 0 (summary_words x)) (sym g.2)
            ∙ sym (ap (λ (x : Said Full). leaves (λ g out. pasted out 0 (summary_words g.summary)) x d) q);
        hits = w;
      }

  pub both_refused : (rest : List ℕ) (e : Refusal) (r : Result ℕ Refusal) → says e ≡ answer_says whole → said r ≡ says e → rest ≡ leaves writes_hits whole h
      → ReportsWords whole d h r d rest
  both_refused rest e r v p w =
      let q = answer_err whole e v in
      record {
        says = p ∙ sym (ap how_many_hits q ∙ next_refused e (λ g. granted (length g.hits)));
        summary = sym (ap (λ (x : Said Full). leaves (λ g out. pasted out 0 (summary_words g.summary)) x d) q
            ∙ leaves_refused (λ g out. pasted out 0 (summary_words g.summary)) e d);
        hits = w;
      }

-- ---- by the words lent for the summary

few : (s : Said Full) (words : ℕ) → ltb words 16 ≡ true → how_many_hits (next s (λ g. in_order (enough 16 words) (granted g))) ≡ without_summary s
few (granted g) words e = rw e
few (refused n) words e = refl
few (refused_at n i) words e = refl

few_leaves : {B : Type 0} (f : Full → B → B) (s : Said Full) (words : ℕ) (d : B) → ltb words 16 ≡ true
    → d ≡ leaves f (next s (λ g. in_order (enough 16 words) (granted g))) d
few_leaves f (granted g) words d e = rw e
few_leaves f (refused n) words d e = refl
few_leaves f (refused_at n i) words d e = refl

module _ (book : List ℕ) (client : ℕ) (text : List ℕ) (at : Clock) (words room : ℕ) where
  pub too_few : words < 16 → how_many_hits (summary_says book client text at words room) ≡ without_summary (report_says book client text at 1)
  unfolding summary_says
  too_few h = few (report_says book client text at room) words (lt-ltb words 16 h) ∙ any_room book client text at room 1

  pub too_few_leaves : (f : Full → List ℕ → List ℕ) (d : List ℕ) → words < 16 → d ≡ leaves f (summary_says book client text at words room) d
  unfolding summary_says
  too_few_leaves f d h = few_leaves f (report_says book client text at room) words d (lt-ltb words 16 h)

  pub as_many : 16 ≤ words → summary_says book client text at words room ≡ report_says book client text at room
  unfolding summary_says
  as_many h = let e : ltb words 16 ≡ false = le-ltb words 16 h in rw e (next_granted (report_says book client text at room))

-- ---- the promise

module _ (book : List ℕ) (client : ℕ) (text : List ℕ) (at : Clock) (d h : List ℕ) (r : ℕ) (o : Result ℕ Refusal) (halves : r ≡ in_halves (said o)) where
  pub few_promise : length d < 16 → said o ≡ without_summary (report_says book client text at 1) → ReportWordsPromise book client text at d h r d h
  few_promise k e = record {
    says = halves ∙ ap in_halves (e ∙ sym (too_few book client text at (length d) (length h) k));
    summary = too_few_leaves book client text at (length d) (length h) (λ g out. pasted out 0 (summary_words g.summary)) d k;
    hits = too_few_leaves book client text at (length d) (length h) writes_hits h k;
  }

  pub all_promise : (left rest : List ℕ) → 16 ≤ length d → ReportsWords (report_says book client text at (length h)) d h o left rest
      → ReportWordsPromise book client text at d h r left rest
  all_promise left rest k e =
      let m : ReportsWords (summary_says book client text at (length d) (length h)) d h o left rest =
      subst (λ (s : Said Full). ReportsWords s d h o left rest) (sym (as_many book client text at (length d) (length h) k)) e in
      record { says = halves ∙ ap in_halves m.says; summary = m.summary; hits = m.hits }
