-- What is left to write, pasted at its index, gives the whole: hours, minutes, the mark.
use mathlib.Core.Path.{refl}
use mathlib.Core.List.{[], ◌∷◌, ◌++◌}
use Prim.Native.Nat.{◌+◌, ◌/◌, ◌%◌}
use native.Mathlib.Omega.{arith}
use Rattle.laws.specs.Numbers.{dig}
use Rattle.laws.proofs.Pasted.{todo}
use Rattle.codec.proofs.Puts.{put_next, put_last}
use Rattle.header_writing.specs.Steps.{duration_text}
use Rattle.header_writing.proofs.put_duration.Goals as goal

pub returns : goal.returns
unfolding duration_text
returns c =
    let a = c.args in
    let hours = dig 2 (a.minutes / 60) in
    let minutes = dig 2 (a.minutes % 60) in
    let all = todo a.out.now a.at (duration_text a.minutes) (omega arith) in
    let rest = put_next hours (minutes ++ (45 ∷ [])) all c.put_digits.ensures (a.at + 2) refl in
    put_last (put_next minutes (45 ∷ []) rest c.put_digits-2.ensures (a.at + 4) (omega arith)) c.put_byte.ensures
