-- `told` puts the rules in the order of the tests: the first test that fails makes the whole false, and the last is what is left of it.
use mathlib.Core.Path.{sym, ◌∙◌, ◌≡◌}
use mathlib.Core.Bool.{true}
use native.Mathlib.Omega.{arith}
use borrow.Author.Tests.{le-leb, lt-leb, eq-eqb, ne_eqb}
use Rattle.laws.proofs.Tests.{and_l, and_r}
use Rattle.book_rules.specs.Form.{form}
use Rattle.book_rules.specs.Rules.{records_right, counts_right, total}
use Rattle.book_rules.specs.Steps.{rising_rank}
use Rattle.book_check.proofs.Told.{told}
use Rattle.book_check.proofs.is_good.Goals as goal

counted : (c : goal.After-unused_zero)
    → let w = c.args.book.now in
    counts_right w (total w) ≡ true
counted c = sym c.counts_right.ensures ∙ c.if-not-counts_right.false

pub returns-then-book-ne8293 : goal.returns-then-book-ne8293
returns-then-book-ne8293 c = record { says = sym (told _ ∙ simp (ne_eqb _ _ c.if-book-ne8293.true)) }

pub overflow_cast-n : goal.overflow_cast-n
overflow_cast-n c = omega (arith, c.shared_slice_known-2-1.given 100)

pub returns-then-n-gt4096 : goal.returns-then-n-gt4096
returns-then-n-gt4096 c = record { says = sym (told _ ∙ simp (eq-eqb _ _ c.if-book-ne8293.false, lt-leb _ _ c.if-n-gt4096.true)) }

pub returns-then-not-records_rise : goal.returns-then-not-records_rise
returns-then-not-records_rise c =
    let r = c.records_rise in
    record { says = sym (told _ ∙ simp ((eq-eqb _ _ c.if-book-ne8293.false), (le-leb (total c.args.book.now) 4096 (omega (arith, c.if-n-gt4096.false))), ← r.ensures, c.if-not-records_rise.true)) }

pub counts_right-requires : goal.counts_right-requires
counts_right-requires c =
    let w = c.args.book.now in
    let right = records_right form w (total w) in
    let rise = rising_rank form w (total w) in
    let both = sym c.records_rise.ensures ∙ c.if-not-records_rise.false in
    (and_l right rise both, and_r right rise both)

pub returns-then-not-counts_right : goal.returns-then-not-counts_right
returns-then-not-counts_right c =
    let r = c.counts_right in
    record { says = sym (told _ ∙ simp ((eq-eqb _ _ c.if-book-ne8293.false), (le-leb (total c.args.book.now) 4096 (omega (arith, c.if-n-gt4096.false))), (sym c.records_rise.ensures ∙ c.if-not-records_rise.false), ← r.ensures, c.if-not-counts_right.true)) }

pub returns : goal.returns
returns c =
    record { says = c.unused_zero.ensures ∙ sym (told _ ∙ simp ((eq-eqb _ _ c.if-book-ne8293.false), (le-leb (total c.args.book.now) 4096 (omega (arith, c.if-n-gt4096.false))), (sym c.records_rise.ensures ∙ c.if-not-records_rise.false), counted c)) }
