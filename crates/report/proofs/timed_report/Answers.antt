-- The hits that are listed by packed places are the alert's, so what list_hits says of room and number is said of the report.
use Prim.Native.Nat.{ℕ}
use mathlib.Core.Path.{◌≡◌, refl, sym, ap, ◌∙◌, subst}
use mathlib.Core.List.{List}
use native.Mathlib.Omega.{arith}
use lib.ListN.{length, length-append}
use lib.Seq.{length-take-le}
use Rattle.header.specs.Answers.{alert_in}
use Rattle.book_rules.specs.Form.{form}
use Rattle.book_rules.specs.Subscription.{Sub}
use Rattle.book_rules.specs.Afresh.{subs}
use Rattle.report.specs.Hits.{hits_of}
use Rattle.report.specs.Steps.{ListsHits, listed_class_of}
use Rattle.std.specs.Prelude.{Result, Ok}
use Rattle.refusals.specs.declared.Refusal.{Refusal}
use Rattle.refusals.proofs.Said.{handed_on}
use Rattle.report.proofs.Stages.{packed_long, packed_front, hits_are, short, listed}
use Rattle.report.proofs.timed_report.Goals as goal

same_hits : (h g : List Sub) (out : List ℕ) (r : Result ℕ Refusal) (left : List ℕ) → h ≡ g → ListsHits h out r left → ListsHits g out r left
same_hits h g out r left e l = subst (λ (s : List Sub). ListsHits s out r left) e l

pub slice_bounds-pack_places-end : goal.slice_bounds-pack_places-end
slice_bounds-pack_places-end c = sym (length-take-le _ _ c.requires.few)

pub slice_bounds-places-end-2 : goal.slice_bounds-places-end-2
slice_bounds-places-end-2 c =
    let n = packed_long c.args.f c.requires.few _ c.pack_places.ensures.lent in
    rw length-append (omega arith)

pub slice_bounds-wanted-end : goal.slice_bounds-wanted-end
slice_bounds-wanted-end c =
    let f = c.args.f in
    let few = c.requires.few in
    let p = c.pack_places.ensures.lent in
    sym (ap length (packed_front f few _ p) ∙ packed_long f few _ p)

pub returns-in_err-hits : goal.returns-in_err-hits
returns-in_err-hits c =
    let a = c.args in
    let hits = hits_of a.client (alert_in a.f) (subs form a.book.words.now) in
    let kind = c.listed_class_of-kind in
    let p = c.pack_places.ensures.lent in
    let q = hits_are a.f c.requires.few _ p a.client _ a.book.words.now a.book.keeps c.requires.codes kind.ensures in
    let l = same_hits _ _ a.out.now _ _ q c.list_hits.ensures in
    short a.times (alert_in a.f) hits a.out.now c.in_err-hits.field-0.0 c.list_hits.result _ c.from_residual.result l c.in_err-hits.was
    (handed_on c.in_err-hits.field-0.0 c.from_residual.result c.from_residual.ensures refl)

pub returns : goal.returns
returns c =
    let a = c.args in
    let hits = hits_of a.client (alert_in a.f) (subs form a.book.words.now) in
    let kind = c.listed_class_of-kind in
    let k : kind.result ≡ listed_class_of a.f.event = kind.ensures in
    let p = c.pack_places.ensures.lent in
    let q = hits_are a.f c.requires.few _ p a.client _ a.book.words.now a.book.keeps c.requires.codes k in
    let l = same_hits _ _ a.out.now _ _ q c.list_hits.ensures in
    listed a.times (alert_in a.f) hits a.out.now _ _ c.in_ok-hits.hits _ l c.in_ok-hits.was
    (λ i. Ok record { times = a.times; event = a.f.event; listed = (k i).listed; class = (k i).class; hits = c.in_ok-hits.hits })
