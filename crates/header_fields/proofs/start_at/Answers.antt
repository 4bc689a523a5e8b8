-- The test that is passed says what is allowed.
use Prim.Native.Nat.{ℕ}
use mathlib.Core.Path.{◌≡◌, sym, ap, ◌∙◌}
use mathlib.Core.Bool.{Bool, and-true}
use mathlib.Core.List.{List}
use native.Mathlib.Omega.{arith}
use lib.ListN.{take, drop}
use Rattle.std.proofs.Common.{rules, tests}
use Rattle.laws.specs.Lists.{same}
use Rattle.laws.specs.Text.{ascii}
use Rattle.laws.proofs.Parts.{part_head}
use Rattle.codec.specs.Promise.{SamePromise}
use Rattle.header.specs.Header.{start}
use Rattle.header_fields.proofs.Marks.{stands_as}
use Rattle.header_fields.proofs.start_at.Goals as goal

-- which four bytes are allowed
allowed : (t : List ℕ) (at : ℕ) → start.allowed (take 4 (drop at t)) ≡ same (take 4 (drop at t)) (ascii "ZCZC")
allowed t at = simp (part_head t at 4 4 (omega arith), and-true)

says : {b x w : List ℕ} {r : Bool} → SamePromise b w r → b ≡ x → r ≡ same x w
says {w = w} p e = p.says ∙ ap (λ (l : List ℕ). same l w) e

pub returns : goal.returns
returns c =
    let t = c.args.text.now in
    let at = c.args.at in
    stands_as start t at _ (λ b k. let e : b ≡ same (take 4 (drop at t)) (ascii "ZCZC") = search (rules, tests, says) in e ∙ sym (allowed t at)) c.stands_at.ensures
