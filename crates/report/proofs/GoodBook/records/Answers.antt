-- A good book has its length, and word 100 says no more records than it has.
use mathlib.Core.Path.{◌≡◌, ap, ◌∙◌}
use mathlib.Core.List.{[]}
use Prim.Native.Nat.{ℕ}
use native.Mathlib.Omega.{arith}
use lib.ListN.{length, get_or}
use Rattle.laws.specs.Lists.{table}
use Rattle.laws.proofs.Tables.{table_ext}
use Rattle.book_rules.specs.Form.{form}
use Rattle.book_rules.specs.Rules.{rec_at, recs, total}
use Rattle.book_rules.proofs.Good.{good_says}
use Rattle.book_records.proofs.Chunks.{length_records, in_record}
use Rattle.report.specs.Steps.{rec_of, recs_in}
use Rattle.report.proofs.GoodBook.records.Goals as goal

pub bounds-self-100 : goal.bounds-self-100
bounds-self-100 c = omega (arith, (good_says form _ c.args.self.keeps).len)

pub slice_bounds-as_chunks-end : goal.slice_bounds-as_chunks-end
slice_bounds-as_chunks-end c = let g = good_says form _ c.args.self.keeps in omega (arith, g.len, g.few)

pub returns-clause-few : goal.returns-clause-few
returns-clause-few c =
    let good = good_says form _ c.args.self.keeps in
    omega (arith, good.few, length_records c.args.self.words.now (total c.args.self.words.now) c.as_chunks.result.0.now good.len good.few c.as_chunks.ensures.front)

pub returns-clause-these : goal.returns-clause-these
unfolding recs_in recs
returns-clause-these c =
    let w = c.args.self.words.now in
    let good = good_says form _ c.args.self.keeps in
    let ps = c.as_chunks.result.0.now in
    let n : length ps ≡ total w = length_records w (total w) ps good.len good.few c.as_chunks.ensures.front in
    ap (λ (m : ℕ). table m (λ i. rec_of (get_or ps i []))) n
    ∙ table_ext (total w) (λ i. rec_of (get_or ps i [])) (rec_at w) (λ i l. in_record w (total w) ps i good.len good.few l c.as_chunks.ensures.front)
