-- Records that rise are sorted by state, so a count over n is wrong and one up to n is told by the records on both sides of it.
use mathlib.Core.Path.{sym, ◌∙◌}
use lib.ListN.{get_or}
use Rattle.book_rules.specs.Form.{form}
use Rattle.book_rules.specs.Rules.{rec_at}
use Rattle.book_rules.proofs.Whole.{sound_of}
use Rattle.book_rules.proofs.Form.{form_laws}
use Rattle.book_rules.proofs.Counts.{too_many, count_told}
use Rattle.book_check.proofs.Counted.count_is.Goals as goal

pub returns-then-self-c : goal.returns-then-self-c
returns-then-self-c c =
    let a = c.args in
    let w = a.self.now.book.now in
    let h = sound_of form w a.self.now.n c.requires.1 c.requires.2 in
    sym (too_many form form_laws a.self.now.n (rec_at w) h a.s (get_or w a.s 0) c.if-self-c.true)

pub returns-then-not-ends_below : goal.returns-then-not-ends_below
returns-then-not-ends_below c =
    let a = c.args in
    let w = a.self.now.book.now in
    let h = sound_of form w a.self.now.n c.requires.1 c.requires.2 in
    let e = c.ends_below in
    sym
    (count_told form form_laws a.self.now.n (rec_at w) h a.s (get_or w a.s 0) c.if-self-c.false
    ∙ simp (← e.ensures, c.if-not-ends_below.true))

pub returns : goal.returns
returns c =
    let a = c.args in
    let w = a.self.now.book.now in
    let h = sound_of form w a.self.now.n c.requires.1 c.requires.2 in
    let e = c.ends_below in
    c.starts_above.ensures
    ∙ sym
    (count_told form form_laws a.self.now.n (rec_at w) h a.s (get_or w a.s 0) c.if-self-c.false
    ∙ simp (← e.ensures, c.if-not-ends_below.false))
