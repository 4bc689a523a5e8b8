-- The front is read, so the sender decides, and then the length.
use mathlib.Core.Path.{sym, ◌∙◌}
use native.Mathlib.Omega.{arith}
use Rattle.header_reading.proofs.Answering.{past, no_sender, sender_long, left_over, all_read}
use Rattle.header_reading.proofs.signed.Goals as goal

pub returns-then-not-sender_at : goal.returns-then-not-sender_at
returns-then-not-sender_at c =
    let a = c.args in
    let none = sym c.sender_at.ensures.says ∙ c.if-not-sender_at.true in
    no_sender a.text.now a.places c.requires.0 a.opening c.requires.1 none

pub overflow_add-at : goal.overflow_add-at
overflow_add-at c =
    let a = c.args in
    let yes = sym c.sender_at.ensures.says ∙ c.if-not-sender_at.false in
    omega (arith, sender_long a.text.now a.places c.requires.0 a.opening c.requires.1 yes)

pub overflow_add-result : goal.overflow_add-result
overflow_add-result c =
    let a = c.args in
    let yes = sym c.sender_at.ensures.says ∙ c.if-not-sender_at.false in
    omega (arith, sender_long a.text.now a.places c.requires.0 a.opening c.requires.1 yes)

pub returns-then-text-at : goal.returns-then-text-at
returns-then-text-at c =
    let a = c.args in
    let yes = sym c.sender_at.ensures.says ∙ c.if-not-sender_at.false in
    left_over a.text.now a.places c.requires.0 a.opening c.requires.1 yes c.if-text-at.true

pub bytes_at-requires-2 : goal.bytes_at-requires-2
bytes_at-requires-2 c =
    let a = c.args in
    let yes = sym c.sender_at.ensures.says ∙ c.if-not-sender_at.false in
    omega (arith, past a.text.now a.places c.requires.0 a.opening c.requires.1, sender_long a.text.now a.places c.requires.0 a.opening c.requires.1 yes)

pub returns : goal.returns
returns c =
    let a = c.args in
    let yes = sym c.sender_at.ensures.says ∙ c.if-not-sender_at.false in
    all_read a.text.now a.places c.requires.0 a.opening c.requires.1 yes _ _ _ c.bytes_at.ensures c.bytes_at-2.ensures c.bytes_at-3.ensures c.if-text-at.false
