-- What is left to write, pasted at its index, gives the whole: place, then wish.
use Rattle.std.proofs.Common.{refl, ◌+◌, ◌++◌, ◌∙◌}
use Rattle.laws.specs.Numbers.{dig}
use Rattle.laws.specs.Text.{ascii}
use Rattle.laws.proofs.Pasted.{todo}
use Rattle.codec.proofs.Puts.{put_next}
use Rattle.page_lines.proofs.HitSays.put.Goals as goal

pub returns : goal.returns
returns c =
    let a = c.args in
    let place = dig 6 a.self.now.place in
    let wish = ascii " " ++ dig 2 a.self.now.wish in
    c.put_tag.ensures ∙ (put_next place wish (todo a.out.now a.at (place ++ wish) c.requires) c.put_digits.ensures (a.at + 6) refl).same
