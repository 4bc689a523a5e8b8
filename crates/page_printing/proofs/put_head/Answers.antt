-- The lines that are left, pasted at their index, give the whole: client, issue, end.
use mathlib.Core.Path.{refl, ◌∙◌}
use mathlib.Core.List.{[], ◌∷◌}
use native.Mathlib.Omega.{arith}
use Rattle.laws.specs.Numbers.{dig}
use Rattle.laws.proofs.Pasted.{todo}
use Rattle.page_printing.specs.Page.{line, stamp_text, ended}
use Rattle.page_printing.specs.Steps.{head_lines}
use Rattle.page_printing.proofs.Writing.{line_put, line_then}
use Rattle.page_printing.proofs.put_head.Goals as goal

pub returns : goal.returns
unfolding ended
returns c =
    let a = c.args in
    let issued = line "issued=" (stamp_text a.issued) in
    let until = line "until=" (stamp_text a.until) in
    let all = todo a.out.now 0 (ended (head_lines a.client a.issued a.until)) (omega arith) in
    let times = line_then "client=" (dig 4 a.client) (issued ∷ until ∷ []) all c.put_number.ensures 12 refl in
    let last = line_then "issued=" (stamp_text a.issued) (until ∷ []) times c.put_stamp.ensures 31 refl in
    line_put "until=" (stamp_text a.until) [] last c.put_stamp-2.ensures ∙ last.same
