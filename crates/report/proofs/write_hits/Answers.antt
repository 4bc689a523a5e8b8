-- The words of the hits among the first records stand at the front, and e is the index after them.
use mathlib.Core.Path.{◌≡◌, refl, sym, ap, ◌∙◌}
use mathlib.Core.List.{[]}
use Prim.Native.Nat.{ℕ, ◌+◌, ◌*◌, ◌≤◌}
use native.Mathlib.Omega.{arith}
use lib.ListN.{length, get_or}
use Rattle.laws.specs.Lists.{one, table, tally}
use Rattle.book_rules.specs.Rules.{Rec}
use Rattle.report.specs.Steps.{rec_of, record_matches, found, recs_in}
use Rattle.report.proofs.Spans.{begun, fits, turn, turn_no}
use Rattle.report.proofs.Found.{own, not_own}
use Rattle.report.proofs.write_hits.Goals.{then-is_own, else-is_own}
use Rattle.report.proofs.write_hits.Goals as goal

pub loop-first-init : goal.loop-first-init
loop-first-init c =
    let a = c.args in
    (refl, begun (found a.wanted.client a.wanted.class a.wanted.sent.now) (λ i. rec_of (get_or a.records.now i [])) 0 a.out.now)

pub put_hit-e-requires : goal.put_hit-e-requires
unfolding recs_in
put_hit-e-requires c =
    let p = c.loop-first in
    let a = c.args in
    let g : ℕ → Rec = λ i. rec_of (get_or a.records.now i []) in
    let o = own a.wanted.client a.wanted.class a.wanted.sent.now (g p.first-index) (sym c.is_own.ensures ∙ c.if-is_own.true) in
    let room : 0 + 2 * tally (found a.wanted.client a.wanted.class a.wanted.sent.now) (table (length a.records.now) g) ≤ length a.out.now = omega (arith, c.requires) in
    let f = fits (found a.wanted.client a.wanted.class a.wanted.sent.now) g p.first-index (length a.records.now) 0 a.out.now (omega arith) room in
    let n = p.invariant.1.next in
    omega (arith, p.invariant.0, ap one o)

pub loop-first-preserved : goal.loop-first-preserved
unfolding recs_in
loop-first-preserved c =
    let p = c.loop-first in
    let a = c.args in
    let g : ℕ → Rec = λ i. rec_of (get_or a.records.now i []) in
    let k = found a.wanted.client a.wanted.class a.wanted.sent.now in
    let j = record_matches a.wanted.class a.wanted.sent.now in
    let v = sym c.is_own.ensures in
    let room : 0 + 2 * tally k (table (length a.records.now) g) ≤ length a.out.now = omega (arith, c.requires) in
    elim c.if-is_own.branch [
      | then-is_own b ↦
          let o = own a.wanted.client a.wanted.class a.wanted.sent.now (g p.first-index) (v ∙ b.if-is_own.true) in
          let t = turn k g p.first-index (length a.records.now) 0 a.out.now (omega arith) room j (sym o) p.out _ p.e _ p.invariant.1 in
          (c.if-is_own.auto.out ∙ p.invariant.0, rw (b.out-is, b.e-is) (t b.put_hit-e.ensures))
      | else-is_own b ↦
          let o = not_own a.wanted.client a.wanted.class a.wanted.sent.now (g p.first-index) (v ∙ b.if-is_own.false) in
          let t = turn_no k g p.first-index (length a.records.now) 0 a.out.now (omega arith) room p.out p.e o p.invariant.1 in
          (c.if-is_own.auto.out ∙ p.invariant.0, rw (b.out-is, b.e-is) t)
    ]

pub returns : goal.returns
unfolding recs_in
returns c =
    let e : c.loop-first.first-index ≡ length c.args.records.now = omega arith in
    rw (← e) c.loop-first.invariant.1
