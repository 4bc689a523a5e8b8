-- What each test says of the client and the wish decides the definition; in range, the word fits.
use Rattle.std.proofs.Common.{false, ◌≡◌, sym, ◌∙◌}
use native.Mathlib.Omega.{arith}
use Rattle.book_rules.specs.Form.{form, client_and_wish, bad_client, bad_wish}
use Rattle.book_rules.proofs.Form.{client_fits, wish_fits}
use Rattle.book_records.proofs.Second.{mark_made, mark_of_no_client, mark_of_no_wish}
use Rattle.book_records.proofs.mark_or_none.Goals as goal
use Rattle.book_records.proofs.mark_or_none.Goals.{then-bad_client-via-then-bad_client, then-bad_client-via-else-bad_client+then-bad_wish}

client_ok : (c : goal.Else-bad_wish) → bad_client c.args.client ≡ false
client_ok c = sym c.bad_client.ensures.says ∙ c.if-bad_client.false

wish_ok : (c : goal.Else-bad_wish) → bad_wish c.args.wish ≡ false
wish_ok c = sym c.bad_wish.ensures.says ∙ c.if-bad_wish.false

pub returns-then-bad_client : goal.returns-then-bad_client
returns-then-bad_client c =
    let b = sym c.bad_client.ensures.says in
    elim c.then-bad_client.branch [
      | then-bad_client-via-then-bad_client w ↦ record { says = sym (mark_of_no_client _ _ (b ∙ w.if-bad_client.true)) }
      | then-bad_client-via-else-bad_client+then-bad_wish w ↦ record { says = sym (mark_of_no_wish _ _ (b ∙ w.if-bad_client.false) (sym w.bad_wish.ensures.says ∙ w.if-bad_wish.true)) }
    ]

pub overflow_mul-result : goal.overflow_mul-result
overflow_mul-result c = omega (arith, client_fits _ (client_ok c))

pub overflow_add-result : goal.overflow_add-result
overflow_add-result c = omega (arith, client_fits _ (client_ok c), wish_fits _ (wish_ok c))

pub returns : goal.returns
unfolding form client_and_wish
returns c = record { says = sym (mark_made _ _ (client_ok c) (wish_ok c)) }
