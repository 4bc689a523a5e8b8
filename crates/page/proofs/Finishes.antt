-- What is said of a report by words that just hold the hits of a full book: a summary, and pairs in front of the words, or a refusal.
use mathlib.Core.Path.{◌≡◌, sym, ap, ◌∙◌}
use mathlib.Core.List.{List}
use Prim.Native.Nat.{ℕ, ◌+◌, ◌*◌, ◌≤◌}
use native.Mathlib.Omega.{arith}
use lib.ListN.{length, take, drop}
use lib.Seq.{take_at}
use Rattle.laws.specs.Order.{Said, granted, next}
use Rattle.laws.specs.Space.{pasted, leaves}
use Rattle.laws.proofs.Pasted.{pasted_length}
use Rattle.std.specs.Prelude.{Ok, Err}
use Rattle.refusals.specs.Refusals.{says}
use Rattle.refusals.specs.declared.Refusal.{Refusal}
use Rattle.refusals.proofs.Said.{next_refused}
use Rattle.clock.specs.declared.Clock.{Clock}
use Rattle.report.specs.Hits.{pairs}
use Rattle.report.specs.Report.{Full, report_says}
use Rattle.report.specs.declared.Summary.{Summary}
use Rattle.report.specs.Promise.{writes_hits, ReportPromise}
use Rattle.report.proofs.Spans.{length_pairs}
use Rattle.report.proofs.Given.{given, count_given, answer_ok, answer_err}
use Rattle.page.specs.Input.{hit_room, Shown, report_shows}

-- what is said, by the client, the summary and the pairs that stand in front of the lent words
abbrev pub Reported : Said Shown → ℕ → Summary → List ℕ → Type 0
Reported o client s left =
    (g : Full) × (o ≡ granted (client, g)) × (g.summary ≡ s) × (2 * s.hits ≤ length left) × (take (2 * s.hits) left ≡ pairs g.hits)

-- what was pasted to the front
cut : (d s : List ℕ) (n : ℕ) → length s ≡ n → take n (pasted d 0 s) ≡ s
unfolding pasted
cut d s n e = take_at s (drop (0 + length s) d) n e

module _ (book : List ℕ) (client : ℕ) (text : List ℕ) (at : Clock) (lent : List ℕ) (room : length lent ≡ hit_room) (left : List ℕ) where
  abbrev full : Said Full
  full = report_says book client text at hit_room

  asked : report_says book client text at (length lent) ≡ full
  asked = ap (report_says book client text at) room

  shown : (s : Said Full) → full ≡ s → report_shows book client text at ≡ next s (λ g. granted (client, g))
  unfolding report_shows
  shown s e = ap (λ (o : Said Full). next o (λ g. granted (client, g))) e

  pub no_report : (e : Refusal) → ReportPromise book client text at lent (Err e) left → report_shows book client text at ≡ says e
  no_report e p = shown (says e) (sym asked ∙ answer_err _ e p.says) ∙ next_refused e (λ g. granted (client, g))

  pub with_report : (s : Summary) → ReportPromise book client text at lent (Ok s) left → Reported (report_shows book client text at) client s left
  with_report s p =
      let a = answer_ok _ s p.says in
      let g = a.0 in
      let q : full ≡ granted g = sym asked ∙ a.1 in
      let k = given book client text at hit_room g q in
      let n : s.hits ≡ length g.hits = ap (λ (x : Summary). x.hits) (sym a.2) ∙ count_given book client text at hit_room g k in
      let f : 2 * length g.hits ≤ 8192 = k.fits in
      let m : length (pairs g.hits) ≡ 2 * length g.hits = length_pairs g.hits in
      let w : left ≡ pasted lent 0 (pairs g.hits) = p.lent ∙ ap (λ (o : Said Full). leaves writes_hits o lent) a.1 in (
        g,
        shown (granted g) q,
        a.2,
        omega (arith, ap length w ∙ pasted_length lent 0 (pairs g.hits) (omega arith)),
        (λ i. take (2 * n i) (w i)) ∙ cut lent (pairs g.hits) (2 * length g.hits) m,
      )
