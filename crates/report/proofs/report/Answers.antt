-- Each test that is passed leaves the next to say: the book's, the client's, then what the reader says of the header.
use mathlib.Core.Path.{refl, sym, ◌∙◌}
use Rattle.refusals.proofs.Said.{handed_on}
use Rattle.header.specs.Answers.{alert_in}
use Rattle.report.proofs.Stages.{bad_book, no_client, no_header, with_header, unread, read_is, readable}
use Rattle.report.proofs.report.Goals as goal

pub returns-then-not-is_good : goal.returns-then-not-is_good
returns-then-not-is_good c =
    let a = c.args in
    bad_book a.book.now a.client a.header.now a.at a.out.now (sym c.is_good.ensures.says ∙ c.if-not-is_good.true)

pub returns-then-bad_client : goal.returns-then-bad_client
returns-then-bad_client c =
    let a = c.args in
    no_client a.book.now a.client a.header.now a.at a.out.now (sym c.is_good.ensures.says ∙ c.if-not-is_good.false) (sym c.bad_client.ensures.says ∙ c.if-bad_client.true)

pub alert_report-requires : goal.alert_report-requires
alert_report-requires c =
    (readable c.args.header.now c.read.result c.read.ensures c.in_ok-fields.fields c.in_ok-fields.was)

pub returns-in_err-fields : goal.returns-in_err-fields
returns-in_err-fields c =
    let a = c.args in
    no_header a.book.now a.client a.header.now a.at a.out.now (sym c.is_good.ensures.says ∙ c.if-not-is_good.false) (sym c.bad_client.ensures.says ∙ c.if-bad_client.false)
    c.in_err-fields.field-0.0 c.from_residual.result (unread a.header.now c.read.result c.read.ensures _ c.in_err-fields.was)
    (handed_on c.in_err-fields.field-0.0 c.from_residual.result c.from_residual.ensures refl)

pub returns : goal.returns
returns c =
    let a = c.args in
    let f = c.in_ok-fields.fields in
    with_header a.book.now a.client a.header.now a.at a.out.now (sym c.is_good.ensures.says ∙ c.if-not-is_good.false) (sym c.bad_client.ensures.says ∙ c.if-bad_client.false) (alert_in f)
    c.alert_report.result _ (read_is a.header.now c.read.result c.read.ensures f c.in_ok-fields.was) c.alert_report.ensures
