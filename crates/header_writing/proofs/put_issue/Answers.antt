-- What is left to write, pasted at its index, gives the whole: day, hour, minute, the mark.
use mathlib.Core.Path.{refl}
use mathlib.Core.List.{[], ◌∷◌, ◌++◌}
use Prim.Native.Nat.{◌+◌}
use native.Mathlib.Omega.{arith}
use Rattle.laws.specs.Numbers.{dig}
use Rattle.laws.proofs.Pasted.{todo}
use Rattle.codec.proofs.Puts.{put_next, put_last}
use Rattle.header_writing.specs.Steps.{issue_text}
use Rattle.header_writing.proofs.put_issue.Goals as goal

pub returns : goal.returns
unfolding issue_text
returns c =
    let a = c.args in
    let hour = dig 2 a.hour in
    let minute = dig 2 a.minute in
    let all = todo a.out.now a.at (issue_text a.day a.hour a.minute) (omega arith) in
    let time = put_next (dig 3 a.day) (hour ++ (minute ++ (45 ∷ []))) all c.put_digits.ensures (a.at + 3) refl in
    let rest = put_next hour (minute ++ (45 ∷ [])) time c.put_digits-2.ensures (a.at + 5) (omega arith) in
    put_last (put_next minute (45 ∷ []) rest c.put_digits-3.ensures (a.at + 7) (omega arith)) c.put_byte.ensures
