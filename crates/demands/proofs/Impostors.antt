-- Each impostor against the theorem that shuts it out: the promises fix what is said and left.
use mathlib.Core.Path.{◌≡◌, refl, sym, ap, ◌∙◌}
use mathlib.Core.Bool.{false}
use mathlib.Core.List.{List}
use Prim.Native.Nat.{ℕ, ◌*◌, ◌≤◌}
use native.Mathlib.Omega.{arith}
use lib.ListN.{length}
use Rattle.laws.specs.Order.{Said, granted}
use Rattle.laws.specs.Lists.{tally}
use Rattle.laws.specs.Space.{leaves}
use Rattle.laws.proofs.Next.{next_first}
use Rattle.burst.proofs.Cases.{text_52}
use Rattle.header.proofs.Round.{form_read}
use Rattle.header.proofs.Cases.{sample_reads, two_texts}
use Rattle.event.specs.Class.{class_of}
use Rattle.place.specs.Place.{matches, matches_some}
use Rattle.place.specs.FirstWord.{bad_place}
use Rattle.clock.specs.Clock.{has_day, is_clock}
use Rattle.clock.specs.Lifetime.{year_of}
use Rattle.book_rules.specs.Form.{form, bad_client, bad_wish}
use Rattle.book_rules.specs.Rules.{empty}
use Rattle.book_rules.specs.Load.{items, load_says}
use Rattle.book_rules.specs.Afresh.{Afresh}
use Rattle.book_rules.specs.History.{Edit, adds, removes, answer, after, stands_in, full_of, number, standing_from, standing}
use Rattle.book_rules.proofs.Form.{form_laws}
use Rattle.book_history.proofs.Run.{afresh_after}
use Rattle.book_history.proofs.Proved.{form_book_and_history}
use Rattle.std.specs.Prelude.{Result, Ok}
use Rattle.refusals.specs.Refusals.{said}
use Rattle.refusals.specs.declared.Refusal.{Refusal}
use Rattle.book_edits.specs.Promise.{AddPromise, RemovePromise}
use Rattle.book_edits.specs.Promise.{LoadPromise}
use Rattle.book_edits.proofs.Impostors.{adds_first, removes_last}
use Rattle.report.specs.Hits.{has_class, matching, is_hit}
use Rattle.report.specs.Answers.{HasHits}
use Rattle.report.specs.declared.Summary.{Summary}
use Rattle.report.specs.Exact.{wanted}
use Rattle.report.specs.Promise.{ReportPromise}
use Rattle.demands.specs.Calls.{Called}
use Rattle.header.specs.Samples.{sample, sample_says}
use Rattle.demands.specs.Texts.{sample_clock, sample_run}
use Rattle.demands.specs.Impostors.{Impostors}
use Rattle.demands.proofs.Calls.{calls, add_edits, remove_edits}
use Rattle.demands.proofs.Demand3.{reports}

-- ---- edits

add_changes : (w : List ℕ) (place client wish : ℕ) (r : Result (Unit {0}) Refusal) (left : List ℕ) → AddPromise w place client wish r left → r ≡ Ok tt → left ≡ w → ⊥
unfolding answer
add_changes w place client wish r left p e k =
    form_book_and_history.not_idle.changes w (adds place client wish) (sym p.says ∙ ap said e) (sym (add_edits p) ∙ k)

remove_changes : (w : List ℕ) (place client : ℕ) (r : Result (Unit {0}) Refusal) (left : List ℕ) → RemovePromise w place client r left → r ≡ Ok tt → left ≡ w → ⊥
unfolding answer
remove_changes w place client r left p e k =
    form_book_and_history.not_idle.changes w (removes place client) (sym p.says ∙ ap said e) (sym (remove_edits p) ∙ k)

after_load : (w list : List ℕ) (r : Result (Unit {0}) Refusal) (loaded : List ℕ) (run : List Edit) (z : List ℕ)
    → LoadPromise w list r loaded → r ≡ Ok tt → Called loaded run z → Afresh form (standing_from (items list) run) z
after_load w list r loaded run z p e c =
    let f = next_first (load_says form w list) (λ b. granted tt) tt (sym p.says ∙ ap said e) in
    let l : loaded ≡ f.value = p.lent ∙ ap (λ (s : Said (List ℕ)). leaves (λ b d. b) s w) f.given in
    let a : Afresh form (items list) f.value = ((form_book_and_history.load_is_building w list).granted_only f.value f.given).1 in
    let k : z ≡ after form f.value run = calls loaded run z c ∙ ap (λ (b : List ℕ). after form b run) l in
    rw k (afresh_after form form_laws run (items list) f.value a)

-- ---- hits

module _ (client hits : ℕ) (someone : bad_client client ≡ false) (has : tally (wanted client sample_says) (standing sample_run) ≡ hits)
    (book out : List ℕ) (r : Result Summary Refusal) (left : List ℕ) (c : Called empty sample_run book) (room : 2 * hits ≤ length out)
    (p : ReportPromise book client sample sample_clock out r left) where
  counted : HasHits hits r
  unfolding is_clock has_day year_of
  counted =
      let k = reports.report_exact sample_run book client sample sample_says sample_clock out r left c p someone sample_reads refl refl (omega arith) in
      (k.count.0, k.count.1, k.count.2 ∙ has)

abbrev has : ℕ → ℕ
has client = tally (wanted client sample_says) (standing sample_run)

hits_of_7 : has 7 ≡ 2
unfolding standing standing_from number stands_in full_of bad_client bad_wish bad_place tally is_hit matching matches_some matches has_class class_of
hits_of_7 = refl

hits_of_12 : has 12 ≡ 1
unfolding standing standing_from number stands_in full_of bad_client bad_wish bad_place tally is_hit matching matches_some matches has_class class_of
hits_of_12 = refl

hits_of_8 : has 8 ≡ 0
unfolding standing standing_from number stands_in full_of bad_client bad_wish bad_place tally is_hit matching matches_some matches has_class class_of
hits_of_8 = refl

pub impostors : Impostors
unfolding bad_client
impostors = record {
  reads_every = λ a r w p. p.says ∙ form_read a w;
  reads_sample = λ r p. p.says ∙ sample_reads;
  some_vote = λ out r left h p. p.says ∙ (text_52 out h).0;
  two_texts = two_texts;
  add_changes = add_changes;
  remove_changes = remove_changes;
  some_addition = adds_first;
  some_removal = removes_last;
  after_load = after_load;
  two_hits = λ book out r left c h p. counted 7 2 refl hits_of_7 book out r left c h p;
  one_hit = λ book out r left c h p. counted 12 1 refl hits_of_12 book out r left c h p;
  no_hit = λ book out r left c p. counted 8 0 refl hits_of_8 book out r left c (omega arith) p;
}
