-- Where a report is granted no row holds: so its header was read, its hits are the client's that match, and they find room.
use mathlib.Core.Path.{◌≡◌, refl, sym, ap, ◌∙◌}
use mathlib.Core.Bool.{Bool, true, false, not}
use mathlib.Core.List.{List, [], ◌∷◌, ◌++◌}
use Prim.Native.Nat.{ℕ, ◌*◌, ◌≤◌}
use borrow.Author.Tests.{ltb-false}
use lib.ListN.{length}
use Rattle.laws.specs.Order.{Said, granted, refused, refused_at, choose, Row, ◌when◌, Quiet, none, more}
use Rattle.laws.proofs.Clash.{clash}
use Rattle.laws.proofs.Order.{said_last, granted_quiet}
use Rattle.laws.proofs.Quiet.{quiet_right}
use Rattle.laws.proofs.Next.{next_first}
use Rattle.header.specs.Header.{Alert}
use Rattle.header.specs.Reading.{read_says}
use Rattle.clock.specs.declared.Clock.{Clock}
use Rattle.book_rules.specs.Form.{form, bad_client}
use Rattle.book_rules.specs.Rules.{good}
use Rattle.book_rules.specs.Subscription.{Sub}
use Rattle.book_rules.specs.Afresh.{subs}
use Rattle.report.specs.Hits.{hits_of}
use Rattle.report.specs.Report.{Full, summary_of, times_rows, room_rows, alert_says, list_says, report_says}
use Rattle.refusals.specs.Refusals.{says}
use Rattle.refusals.specs.declared.Refusal.{Refusal}
use Rattle.refusals.proofs.Said.{never_granted, says_moved}
use Rattle.report.specs.Answers.{answer_says}
use Rattle.report.specs.declared.Summary.{Summary}

-- a row that was passed
past : {A : Type 0} (b : Bool) (n : ℕ) (rest : Said A) (g : A) → choose b (refused n) rest ≡ granted g → (b ≡ false) × (rest ≡ granted g)
past true n rest g e = clash cc
past false n rest g e = (refl, e)

pub record Given (book : List ℕ) (client : ℕ) (text : List ℕ) (at : Clock) (room : ℕ) (g : Full) : Type 0 where
  pub alert : Alert
  pub reads : read_says text ≡ granted alert
  pub hits : g.hits ≡ hits_of client alert (subs form book)
  pub summary : g.summary ≡ summary_of at alert g.hits
  pub fits : 2 * length g.hits ≤ room

quiet_row : {A : Type 0} {a : A} {b : Bool} → Quiet (a when b ∷ []) → b ≡ false
quiet_row (more e none) = e

module _ (at : Clock) (room : ℕ) (a : Alert) (hits : List Sub) (g : Full) where
  abbrev rows : List (Row (Said Full))
  rows = times_rows at a ++ room_rows room hits

  abbrev full : Full
  full = record { summary = summary_of at a hits; hits = hits }

  alert_given : alert_says at room a hits ≡ granted g → (g.hits ≡ hits) × (g.summary ≡ summary_of at a hits) × (2 * length hits ≤ room)
  unfolding alert_says
  alert_given e =
      let q : Quiet rows = granted_quiet rows full g (refl, (refl, (refl, tt))) e in
      let s : granted full ≡ granted g = sym (said_last rows (granted full) q) ∙ e in
      let same : full ≡ g = cc in
      let r = quiet_row (quiet_right (times_rows at a) (room_rows room hits) q) in
      (sym (ap (λ (x : Full). x.hits) same), sym (ap (λ (x : Full). x.summary) same), ltb-false room (2 * length hits) r)

pub given : (book : List ℕ) (client : ℕ) (text : List ℕ) (at : Clock) (room : ℕ) (g : Full)
    → report_says book client text at room ≡ granted g → Given book client text at room g
unfolding report_says list_says
given book client text at room g e =
    let p = past (not (good form book)) 16 _ g e in
    let q = past (bad_client client) 17 _ g p.1 in
    let f = next_first (read_says text) (λ a. alert_says at room a (hits_of client a (subs form book))) g q.1 in
    let k = alert_given at room f.value (hits_of client f.value (subs form book)) g f.rest in
    record {
      alert = f.value;
      reads = f.given;
      hits = k.0;
      summary = k.1 ∙ ap (summary_of at f.value) (sym k.0);
      fits = rw k.0 k.2;
    }

-- the count of hits that a granted report says
pub count_given : (book : List ℕ) (client : ℕ) (text : List ℕ) (at : Clock) (room : ℕ) (g : Full)
    → Given book client text at room g → g.summary.hits ≡ length g.hits
unfolding summary_of
count_given book client text at room g k = ap (λ (s : Summary). s.hits) k.summary

-- ---- an answer's two cases, for those who call

pub answer_ok : (o : Said Full) (s : Summary) → granted s ≡ answer_says o → (g : Full) × (o ≡ granted g) × (g.summary ≡ s)
answer_ok (granted g) s e = (g, refl, cc)
answer_ok (refused n) s e = clash cc
answer_ok (refused_at n i) s e = clash cc

pub answer_err : (o : Said Full) (e : Refusal) → says e ≡ answer_says o → o ≡ says e
answer_err (granted g) e p = never_granted e p
answer_err (refused n) e p = says_moved e (refused n) p
answer_err (refused_at n i) e p = says_moved e (refused_at n i) p
