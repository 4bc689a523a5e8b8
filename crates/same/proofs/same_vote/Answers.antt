-- The vote is `vote`'s, with its answer in halves; the numbers, at most 16, fit a word; the text it leaves is handed on as it is.
use mathlib.Core.Path.{◌≡◌, ap, ◌∙◌}
use mathlib.Core.List.{List}
use Prim.Native.Nat.{ℕ}
use native.Mathlib.Omega.{arith}
use mir.Syntax.{w32}
use mir.Val.{Fits}
use Rattle.burst.specs.Strip.{lead}
use Rattle.burst.proofs.Stripped.{lead_most}
use Rattle.c_answers.specs.Answer.{in_halves}
use Rattle.c_answers.proofs.Instances.{told_size}
use Rattle.same.proofs.same_vote.Goals as goal

word : (l : List ℕ) (n : ℕ) → n ≡ lead l → Fits w32 n
word l n e = record { fits = omega (arith, lead_most l) }

pub overflow_cast-first : goal.overflow_cast-first
overflow_cast-first c = word _ _ c.vote-said.ensures.first

pub overflow_cast-second : goal.overflow_cast-second
overflow_cast-second c = word _ _ c.vote-said.ensures.second

pub overflow_cast-third : goal.overflow_cast-third
overflow_cast-third c = word _ _ c.vote-said.ensures.third

pub returns : goal.returns
returns c =
    let vote = c.vote-said.ensures in
    record {
      says = told_size c.told.ensures ∙ ap in_halves vote.says;
      first = vote.first;
      second = vote.second;
      third = vote.third;
      space = vote.space;
    }
