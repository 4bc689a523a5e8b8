-- What is left to write, pasted at its index, gives the whole: the word, then the digits.
use Rattle.std.proofs.Common.{refl, ◌+◌, ◌++◌, length, length-append, arith}
use Rattle.laws.specs.Numbers.{dig}
use Rattle.laws.proofs.Decimal.{length_dig}
use Rattle.laws.proofs.Pasted.{todo}
use Rattle.codec.proofs.Puts.{put_next, put_last}
use Rattle.page_lines.proofs.put_tag.Goals as goal

pub returns : goal.returns
returns c =
    let a = c.args in
    let word = a.word.now in
    let digits = dig a.w a.n in
    let all = todo a.out.now a.at (word ++ digits) (omega (arith, length-append word digits, length_dig a.w a.n)) in
    put_last (put_next word digits all c.put_bytes.ensures (a.at + length word) refl) c.put_digits.ensures
