-- What is left to write, pasted at its index, gives the whole: the word, what it says, the line's end.
use Rattle.std.proofs.Common.{refl, ap, ◌+◌, ◌++◌, [], ◌∷◌, length}
use Rattle.laws.proofs.Pasted.{step}
use Rattle.codec.proofs.Puts.{put_yes, put_next, put_last}
use Rattle.page_lines.proofs.Room.{line_no, line_todo}
use Rattle.page_lines.proofs.put_line.Goals as goal

pub returns-then-not-line_fits : goal.returns-then-not-line_fits
returns-then-not-line_fits g c =
    let a = c.args in
    line_no a.out.now a.at a.word.now (g.S.Says.text_of a.says.now) _ c.size-n.ensures c.if-not-line_fits.ensures

pub returns : goal.returns
returns g c =
    let a = c.args in
    let word = a.word.now in
    let text = g.S.Says.text_of a.says.now in
    let all = line_todo a.out.now a.at word text _ c.size-n.ensures c.if-not-line_fits.ensures in
    let rest = put_next word (text ++ (10 ∷ [])) all c.put_bytes.ensures (a.at + length word) refl in
    let at = ap (λ n. a.at + length word + n) c.size-n.ensures in
    put_yes all.room (put_last (step _ _ _ _ _ rest text (10 ∷ []) _ (a.at + length word + c.size-n.result) refl c.put.ensures at) c.put_byte.ensures)
