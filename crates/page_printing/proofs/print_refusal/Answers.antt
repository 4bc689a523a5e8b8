-- Room for the word, the number and the line's end; the line stands there.
use Prim.Native.Nat.{ℕ, ◌+◌}
use native.Mathlib.Omega.{arith}
use Rattle.laws.specs.Numbers.{dig}
use Rattle.laws.proofs.Plain.{size_le}
use Rattle.laws.proofs.Pasted.{todo}
use Rattle.page_printing.specs.Page.{line, ended}
use Rattle.page_printing.proofs.Writing.{puts_as, line_put, print_short, print_all}
use Rattle.page_printing.proofs.Pages.{refused_text_is, refused_length}
use mathlib.Core.Path.{◌≡◌, sym, ap, ◌∙◌}
use mathlib.Core.List.{[], ◌∷◌}
use lib.ListN.{length}
use Rattle.page_printing.proofs.print_refusal.Goals as goal

pub overflow_add-w : goal.overflow_add-w
overflow_add-w c = omega (arith, c.size_of-w.ensures.says, size_le c.args.number)

pub returns-then-out-w : goal.returns-then-out-w
returns-then-out-w c = print_short _ _ (omega (arith, c.size_of-w.ensures.says, refused_length c.args.number))

pub returns : goal.returns
returns c =
    let size = c.size_of-w in
    let a = c.args in
    let text = refused_text_is a.number size.result size.ensures.says in
    let l : length (ended (line "refused=" (dig size.result a.number) ∷ [])) ≡ 9 + size.result =
    ap length text ∙ refused_length a.number ∙ ap (λ (n : ℕ). 9 + n) (sym size.ensures.says) in
    let all = todo a.out.now 0 (ended (line "refused=" (dig size.result a.number) ∷ [])) (omega (arith, c.if-out-w.false)) in
    print_all (omega (arith, c.if-out-w.false, size.ensures.says, refused_length a.number))
    (puts_as (record { space = line_put "refused=" (dig size.result a.number) [] all c.put_number.ensures; next = omega arith }) text)
