-- There are no more hits than records: room for all records is room for the hits.
use Prim.Native.Nat.{ℕ, ◌*◌, ◌≤◌, ◌<◌}
use mathlib.Core.Path.{◌≡◌, sym, ap, ◌∙◌}
use mathlib.Core.Logic.{⊎_elim}
use mathlib.Core.Bool.{not}
use native.Mathlib.Omega.{arith}
use borrow.Author.Tests.{lt-ltb, le-ltb, lt-leb, le-leb}
use lib.Dec.{leb, ltb}
use lib.ListN.{length}
use Rattle.laws.specs.Lists.{tally}
use Rattle.laws.proofs.Tests.{le_or_lt}
use Rattle.report.specs.Steps.{found, recs_in}
use Rattle.report.proofs.Spans.{tally_few, counted}
use Rattle.report.proofs.has_room.Goals as goal

room_is : (a b : ℕ) → leb a b ≡ not (ltb b a)
room_is a b = ⊎_elim (λ (l : b < a). lt-leb a b l ∙ sym (ap not (lt-ltb b a l))) (λ (l : a ≤ b). le-leb a b l ∙ sym (ap not (le-ltb b a l))) (le_or_lt b a)

pub returns-then-records-room : goal.returns-then-records-room
returns-then-records-room c =
    let a = c.args in
    let k = found a.wanted.client a.wanted.class a.wanted.sent.now in
    let f = tally_few k a.records.now in
    le-leb (2 * length a.records.now) a.room (omega arith) ∙ sym (ap not (le-ltb a.room (2 * tally k (recs_in a.records.now)) (omega arith)))

pub returns-else-records-room : goal.returns-else-records-room
returns-else-records-room c =
    let a = c.args in
    room_is (2 * c.count_hits.result) a.room
    ∙ ap (λ (n : ℕ). not (ltb a.room (2 * n))) (c.count_hits.ensures ∙ counted (found a.wanted.client a.wanted.class a.wanted.sent.now) a.records.now)
