-- The test of all numbers below 101 is the definition's.
use Rattle.std.proofs.Common.{ℕ, eqb, get_or, ◌∙◌, rules, tests, refl}
use Rattle.std.proofs.lemmas.Iterator.{YieldsList-from_range}
use Rattle.std.proofs.lemmas.Iterator.Search.{all_from_yields_List}
use Rattle.laws.specs.Lists.{table}
use Rattle.book_rules.specs.Rules.{rec_at, below, counts_right}
use Rattle.book_check.proofs.Lists.{all_below}
use Rattle.book_check.proofs.Counted.counts_right.Goals as goal

pub returns : goal.returns
unfolding counts_right
returns c =
    all_from_yields_List (λ (s : ℕ). eqb (get_or c.args.self.now.book.now s 0) (below (table c.args.self.now.n (rec_at c.args.self.now.book.now)) s)) _ _ _ c.all.ensures.ran
    (YieldsList-from_range 0 101 101 refl refl) (λ x b q k. search (rules, tests))
    ∙ all_below _ 101
