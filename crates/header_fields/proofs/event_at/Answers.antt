-- The test that is passed says what is allowed.
use Prim.Native.Nat.{ℕ}
use mathlib.Core.Path.{◌≡◌, ap, ◌∙◌}
use mathlib.Core.Bool.{Bool}
use mathlib.Core.List.{List}
use Rattle.std.proofs.Common.{rules, tests}
use Rattle.header.specs.Header.{event, is_event}
use Rattle.header.specs.Promise.{IsEventPromise}
use Rattle.header_fields.proofs.Marks.{stands_as}
use Rattle.header_fields.proofs.event_at.Goals as goal

says : {b x : List ℕ} {r : Bool} → IsEventPromise b r → b ≡ x → r ≡ is_event x
says p e = p.says ∙ ap is_event e

pub returns : goal.returns
returns c = stands_as event c.args.text.now c.args.at _ (λ b k. search (rules, tests, says)) c.stands_at.ensures
