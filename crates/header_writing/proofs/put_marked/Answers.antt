-- What is left to write, pasted at its index, gives the whole: the bytes, then the mark.
use mathlib.Core.Path.{refl}
use Prim.Native.Nat.{◌+◌}
use mathlib.Core.List.{[], ◌∷◌, ◌++◌}
use native.Mathlib.Omega.{arith}
use lib.ListN.{length, length-append}
use Rattle.laws.proofs.Pasted.{todo}
use Rattle.codec.proofs.Puts.{put_next, put_last}
use Rattle.header_writing.proofs.put_marked.Goals as goal

pub returns : goal.returns
returns c =
    let a = c.args in
    let b = a.b.now in
    let all = todo a.out.now a.at (b ++ (45 ∷ [])) (omega (arith, length-append b (45 ∷ []))) in
    put_last (put_next b (45 ∷ []) all c.put_bytes.ensures (a.at + length b) refl) c.put_byte.ensures
