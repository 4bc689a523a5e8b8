-- The test that is passed says what is allowed.
use Prim.Native.Nat.{ℕ}
use mathlib.Core.Path.{◌≡◌, ap, ◌∙◌}
use mathlib.Core.Bool.{Bool}
use mathlib.Core.List.{List}
use Rattle.std.proofs.Common.{rules, tests}
use Rattle.header.specs.Header.{origin, is_origin}
use Rattle.header.specs.Promise.{IsOriginPromise}
use Rattle.header_fields.proofs.Marks.{stands_as}
use Rattle.header_fields.proofs.origin_at.Goals as goal

says : {b x : List ℕ} {r : Bool} → IsOriginPromise b r → b ≡ x → r ≡ is_origin x
says p e = p.says ∙ ap is_origin e

pub returns : goal.returns
returns c = stands_as origin c.args.text.now c.args.at _ (λ b k. search (rules, tests, says)) c.stands_at.ensures
