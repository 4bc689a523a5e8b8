-- The definition asks state, client and wish in the order of the tests: the first two that fail decide it, and the last is the answer.
use Rattle.std.proofs.Common.{◌≡◌, ◌/◌, ◌&&◌, ◌∙◌, sym, ap, not}
use Rattle.laws.specs.Numbers.{within}
use Rattle.book_rules.specs.Form.{form, bad_client, bad_wish}
use Rattle.book_records.proofs.Within.{contains_within}
use Rattle.book_records.proofs.Second.{ok_rec_by}
use Rattle.book_records.proofs.ok_rec.Goals as goal
use Rattle.book_records.proofs.ok_rec.Goals.{then-contains, else-contains}

-- what the first two tests say
said : (c : goal.Else-not-bad_client) → c.if-contains.value ≡ within 1 99 (c.args.first / 10000) && not (bad_client (form.who c.args.second))
said c =
    let n = c.new.ensures in
    let s : c.contains.result ≡ within 1 99 (c.args.first / 10000) =
    c.contains.ensures.value ∙ contains_within c.new.result 1 99 (c.args.first / 10000) n.start n.end n.exhausted in
    elim c.if-contains.branch [
      | then-contains v ↦
          let b = v.bad_client.ensures.says ∙ ap bad_client v.client_of.ensures.says in
          rw (← s, v.if-contains.true, ← b) v.value-is
      | else-contains v ↦ rw (← s, v.if-contains.false) (v.value-is ∙ v.if-contains.false)
    ]

also : (c : goal.After-bad_wish) → c.if-contains.value ≡ within 1 99 (c.args.first / 10000) && not (bad_client (form.who c.args.second))
also c =
    let n = c.new.ensures in
    let s : c.contains.result ≡ within 1 99 (c.args.first / 10000) =
    c.contains.ensures.value ∙ contains_within c.new.result 1 99 (c.args.first / 10000) n.start n.end n.exhausted in
    elim c.if-contains.branch [
      | then-contains v ↦
          let b = v.bad_client.ensures.says ∙ ap bad_client v.client_of.ensures.says in
          rw (← s, v.if-contains.true, ← b) v.value-is
      | else-contains v ↦ rw (← s, v.if-contains.false) (v.value-is ∙ v.if-contains.false)
    ]

pub returns-then-not-bad_client : goal.returns-then-not-bad_client
returns-then-not-bad_client c =
    ap not (c.bad_wish.ensures.says ∙ ap bad_wish c.wish_of.ensures.says) ∙ sym (ok_rec_by _ _ (also c) ∙ rw c.if-not-bad_client.true)

pub returns-else-not-bad_client : goal.returns-else-not-bad_client
returns-else-not-bad_client c = rw c.if-not-bad_client.false (sym (ok_rec_by _ _ (said c) ∙ rw c.if-not-bad_client.false))
