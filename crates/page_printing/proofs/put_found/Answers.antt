-- The lines that are left, pasted at their index, give the whole: the number of hits, then the hits.
use mathlib.Core.Path.{◌≡◌, ap, ◌∙◌}
use Prim.Native.Nat.{ℕ, ◌+◌, ◌*◌, ◌/◌}
use mathlib.Core.List.{List}
use native.Mathlib.Omega.{arith}
use lib.ListN.{length}
use Rattle.laws.specs.Numbers.{dig}
use Rattle.laws.specs.Space.{pasted}
use Rattle.laws.proofs.Decimal.{length_dig}
use Rattle.laws.proofs.Pasted.{todo}
use Rattle.codec.proofs.Puts.{put_fits}
use Rattle.page_printing.specs.Page.{line, ended, hit_lines}
use Rattle.page_printing.specs.Steps.{found_lines}
use Rattle.page_printing.proofs.Writing.{length_lines, line_then}
use Rattle.page_printing.proofs.Hits.{hits_length, hits_as}
use Rattle.page_printing.proofs.put_found.Goals as goal

-- how long the lines are
found_length : (w : ℕ) (hits : List ℕ) → length (ended (found_lines w hits)) ≡ 6 + w + 14 * (length hits / 2)
found_length w hits =
    length_lines (line "hits=" (dig w (length hits / 2))) (hit_lines hits)
    ∙ omega (arith, length_dig w (length hits / 2), hits_length hits)

pub overflow_add-e-2 : goal.overflow_add-e-2
overflow_add-e-2 c =
    omega (arith, c.requires, found_length c.args.w c.args.hits.now)

pub overflow_add-result : goal.overflow_add-result
overflow_add-result c =
    omega (arith, c.requires, found_length c.args.w c.args.hits.now)

pub returns : goal.returns
returns c =
    let a = c.args in
    let hits = a.hits.now in
    let l = found_length a.w hits in
    let all = todo a.out.now a.at (ended (found_lines a.w hits)) c.requires in
    let n : a.at + 6 + a.w ≡ a.at + (length (line "hits=" (dig a.w (length hits / 2))) + 1) = omega (arith, length_dig a.w (length hits / 2)) in
    let rest = line_then "hits=" (dig a.w (length hits / 2)) (hit_lines hits) all c.put_number.ensures (a.at + 6 + a.w) n in
    let same = ap (pasted c.put_number.new.out (a.at + 6 + a.w)) (hits_as hits) in
    record {
      space = put_fits c.put_hits.ensures (rw (hits_as hits) rest.room) ∙ same ∙ rest.same;
      next = omega arith;
    }
