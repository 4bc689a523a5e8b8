-- What is left to write, pasted at its index, gives the whole: month, day, hour, minute.
use Rattle.std.proofs.Common.{refl, ◌+◌, ◌++◌, ◌∙◌, arith}
use Rattle.laws.specs.Numbers.{dig}
use Rattle.laws.specs.Text.{ascii}
use Rattle.laws.proofs.Pasted.{todo, step}
use Rattle.codec.proofs.Puts.{put_next}
use Rattle.page_lines.proofs.StampSays.put.Goals as goal

pub returns : goal.returns
returns c =
    let a = c.args in
    let s = a.self.now in
    let month = dig 2 s.month in
    let day = ascii "-" ++ dig 2 s.day in
    let hour = ascii " " ++ dig 2 s.hour in
    let minute = ascii ":" ++ dig 2 s.minute in
    let all = todo a.out.now a.at (month ++ (day ++ (hour ++ minute))) c.requires in
    let days = put_next month (day ++ (hour ++ minute)) all c.put_digits.ensures (a.at + 2) refl in
    let hours = step _ _ _ _ _ days day (hour ++ minute) _ (a.at + 5) refl c.put_tag.ensures (omega arith) in
    let minutes = step _ _ _ _ _ hours hour minute _ (a.at + 8) refl c.put_tag-2.ensures (omega arith) in
    c.put_tag-3.ensures ∙ minutes.same
