-- What is answered was judged first; where it is granted there is room for all of the text, and all of it is put.
use mathlib.Core.Path.{◌≡◌}
use native.Mathlib.Omega.{arith}
use lib.ListN.{length}
use Rattle.laws.proofs.Handed.{handed}
use Rattle.header_writing.proofs.Judged.{granted_size, left_no, left_yes}
use borrow.Author.Rules.{rules}
use Rattle.header_writing.proofs.write.Goals as goal

pub returns-in_err-n : goal.returns-in_err-n
returns-in_err-n c = rw (handed c.from_residual.result _ c.from_residual.ensures.1) (left_no c.args.f c.args.out.now _ c.in_err-n.ensures)

pub put_all-requires : goal.put_all-requires
put_all-requires c = granted_size c.args.f (length c.args.out.now) _ c.in_ok-n.ensures

pub returns : goal.returns
returns c =
    let a = c.args in
    let l : 31 ≡ length a.f.places = (search rules) in
    let g = granted_size a.f (length a.out.now) _ c.in_ok-n.ensures in
    left_yes a.f a.out.now _ _ (omega (arith, g.0)) c.in_ok-n.ensures c.put_all.ensures
