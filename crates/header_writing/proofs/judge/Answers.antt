-- The tests are those of the table, one for each number in its order: a return has passed those before its own.
use mathlib.Core.Path.{refl, sym}
use mathlib.Core.Bool.{true, false}
use native.Mathlib.Omega.{arith}
use Rattle.header_writing.proofs.Judged.{rows_by, Fine, size, wrote_small, wrote_yes, ok_origin, ok_event, ok_places, ok_duration, ok_issue, ok_sender}
use borrow.Author.Rules.{rules}
use Rattle.header_writing.proofs.judge.Goals as goal

pub returns-then-not-is_origin : goal.returns-then-not-is_origin
returns-then-not-is_origin c =
    let f = c.args.f.now in
    let six = ok_origin f (search rules) c.is_origin.ensures c.if-not-is_origin.true in
    sym (rows_by f false _ _ _ _ _ six refl refl refl refl refl c.args.room)

pub returns-then-not-is_event : goal.returns-then-not-is_event
returns-then-not-is_event c =
    let f = c.args.f.now in
    let six = ok_origin f (search rules) c.is_origin.ensures c.if-not-is_origin.false in
    let seven = ok_event f (search rules) c.is_event.ensures c.if-not-is_event.true in
    sym (rows_by f true false _ _ _ _ six seven refl refl refl refl c.args.room)

pub returns-then-not-codes_ok : goal.returns-then-not-codes_ok
returns-then-not-codes_ok c =
    let f = c.args.f.now in
    let six = ok_origin f (search rules) c.is_origin.ensures c.if-not-is_origin.false in
    let seven = ok_event f (search rules) c.is_event.ensures c.if-not-is_event.false in
    let eight = ok_places f c.codes_ok.ensures c.if-not-codes_ok.true in
    sym (rows_by f true true false _ _ _ six seven eight refl refl refl c.args.room)

pub returns-then-not-is_duration : goal.returns-then-not-is_duration
returns-then-not-is_duration c =
    let f = c.args.f.now in
    let six = ok_origin f (search rules) c.is_origin.ensures c.if-not-is_origin.false in
    let seven = ok_event f (search rules) c.is_event.ensures c.if-not-is_event.false in
    let eight = ok_places f c.codes_ok.ensures c.if-not-codes_ok.false in
    let nine = ok_duration f c.is_duration.ensures c.if-not-is_duration.true in
    sym (rows_by f true true true false _ _ six seven eight nine refl refl c.args.room)

pub returns-then-not-is_issue : goal.returns-then-not-is_issue
returns-then-not-is_issue c =
    let f = c.args.f.now in
    let six = ok_origin f (search rules) c.is_origin.ensures c.if-not-is_origin.false in
    let seven = ok_event f (search rules) c.is_event.ensures c.if-not-is_event.false in
    let eight = ok_places f c.codes_ok.ensures c.if-not-codes_ok.false in
    let nine = ok_duration f c.is_duration.ensures c.if-not-is_duration.false in
    let ten = ok_issue f c.is_issue.ensures c.if-not-is_issue.true in
    sym (rows_by f true true true true false _ six seven eight nine ten refl c.args.room)

pub returns-then-not-is_sender : goal.returns-then-not-is_sender
returns-then-not-is_sender c =
    let f = c.args.f.now in
    let six = ok_origin f (search rules) c.is_origin.ensures c.if-not-is_origin.false in
    let seven = ok_event f (search rules) c.is_event.ensures c.if-not-is_event.false in
    let eight = ok_places f c.codes_ok.ensures c.if-not-codes_ok.false in
    let nine = ok_duration f c.is_duration.ensures c.if-not-is_duration.false in
    let ten = ok_issue f c.is_issue.ensures c.if-not-is_issue.false in
    let eleven = ok_sender f (search rules) c.is_sender.ensures c.if-not-is_sender.true in
    sym (rows_by f true true true true true false six seven eight nine ten eleven c.args.room)

pub overflow_mul-n : goal.overflow_mul-n
overflow_mul-n c =
    let f = c.args.f.now in
    let six = ok_origin f (search rules) c.is_origin.ensures c.if-not-is_origin.false in
    let seven = ok_event f (search rules) c.is_event.ensures c.if-not-is_event.false in
    let eight = ok_places f c.codes_ok.ensures c.if-not-codes_ok.false in
    let nine = ok_duration f c.is_duration.ensures c.if-not-is_duration.false in
    let ten = ok_issue f c.is_issue.ensures c.if-not-is_issue.false in
    let eleven = ok_sender f (search rules) c.is_sender.ensures c.if-not-is_sender.false in
    let fine : Fine f = record { six = six; seven = seven; eight = eight; nine = nine; ten = ten; eleven = eleven } in
    omega (arith, (size f fine).2)

pub overflow_add-n : goal.overflow_add-n
overflow_add-n c =
    let f = c.args.f.now in
    let six = ok_origin f (search rules) c.is_origin.ensures c.if-not-is_origin.false in
    let seven = ok_event f (search rules) c.is_event.ensures c.if-not-is_event.false in
    let eight = ok_places f c.codes_ok.ensures c.if-not-codes_ok.false in
    let nine = ok_duration f c.is_duration.ensures c.if-not-is_duration.false in
    let ten = ok_issue f c.is_issue.ensures c.if-not-is_issue.false in
    let eleven = ok_sender f (search rules) c.is_sender.ensures c.if-not-is_sender.false in
    let fine : Fine f = record { six = six; seven = seven; eight = eight; nine = nine; ten = ten; eleven = eleven } in
    omega (arith, (size f fine).2)

pub returns-then-room-n : goal.returns-then-room-n
returns-then-room-n c =
    let f = c.args.f.now in
    let six = ok_origin f (search rules) c.is_origin.ensures c.if-not-is_origin.false in
    let seven = ok_event f (search rules) c.is_event.ensures c.if-not-is_event.false in
    let eight = ok_places f c.codes_ok.ensures c.if-not-codes_ok.false in
    let nine = ok_duration f c.is_duration.ensures c.if-not-is_duration.false in
    let ten = ok_issue f c.is_issue.ensures c.if-not-is_issue.false in
    let eleven = ok_sender f (search rules) c.is_sender.ensures c.if-not-is_sender.false in
    let fine : Fine f = record { six = six; seven = seven; eight = eight; nine = nine; ten = ten; eleven = eleven } in
    wrote_small f fine c.args.room (omega (arith, c.if-room-n.true))

pub returns : goal.returns
returns c =
    let f = c.args.f.now in
    let six = ok_origin f (search rules) c.is_origin.ensures c.if-not-is_origin.false in
    let seven = ok_event f (search rules) c.is_event.ensures c.if-not-is_event.false in
    let eight = ok_places f c.codes_ok.ensures c.if-not-codes_ok.false in
    let nine = ok_duration f c.is_duration.ensures c.if-not-is_duration.false in
    let ten = ok_issue f c.is_issue.ensures c.if-not-is_issue.false in
    let eleven = ok_sender f (search rules) c.is_sender.ensures c.if-not-is_sender.false in
    let fine : Fine f = record { six = six; seven = seven; eight = eight; nine = nine; ten = ten; eleven = eleven } in
    wrote_yes f fine c.args.room (omega (arith, c.if-room-n.false))
