-- What is left to write, pasted at its index, gives the whole: six digits, then the mark.
use Prim.Native.Nat.{◌+◌}
use mathlib.Core.Path.{refl}
use mathlib.Core.List.{[], ◌∷◌, ◌++◌}
use native.Mathlib.Omega.{arith}
use Rattle.laws.specs.Numbers.{dig}
use Rattle.laws.proofs.Pasted.{todo}
use Rattle.codec.proofs.Puts.{put_next, put_last}
use Rattle.header_writing.proofs.put_place.Goals as goal

pub returns : goal.returns
returns c =
    let a = c.args in
    let all = todo a.out.now a.at (dig 6 a.code ++ (a.mark ∷ [])) (omega arith) in
    put_last (put_next (dig 6 a.code) (a.mark ∷ []) all c.put_digits.ensures (a.at + 6) refl) c.put_byte.ensures
