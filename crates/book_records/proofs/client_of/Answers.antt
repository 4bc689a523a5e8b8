-- The quotient by 64 is what the form says of the client, letter by letter.
use mathlib.Core.Path.{refl}
use Rattle.book_rules.specs.Form.{form, client_and_wish}
use Rattle.book_records.proofs.client_of.Goals as goal

pub returns : goal.returns
unfolding form client_and_wish
returns c = record { says = refl }
