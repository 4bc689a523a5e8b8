-- What is gathered is added first, and then what is left has its say.
use Rattle.std.proofs.Common.{rules, sym, ◌≡◌, arith}
use Rattle.page.proofs.Gathering.{begun, all_gathered, cut_short, too_many, went}
use Rattle.page.proofs.gather.Goals as goal

pub loop-count-init : goal.loop-count-init
loop-count-init c = begun _ _ _ c.requires (search rules)

pub returns-then-i-input : goal.returns-then-i-input
returns-then-i-input c =
    let g = c.loop-count.invariant in
    record { fits = omega (arith, g.len); says = all_gathered _ _ _ _ _ g (omega arith) }

pub returns-in-Err : goal.returns-in-Err
returns-in-Err c =
    let g = c.loop-count.invariant in
    record { fits = omega (arith, g.len); says = cut_short _ _ _ _ _ g (omega (arith, g.inside)) _ c.in-Err.ensures.says }

pub loop-count-preserved : goal.loop-count-preserved
loop-count-preserved c =
    let l = c.loop-count in
    went _ _ _ l.count l.i l.invariant _ _ _ _ (omega (arith, l.invariant.inside)) (omega arith) (sym c.in-Ok.ensures.says)

pub returns : goal.returns
returns c =
    let l = c.loop-count in
    let g = l.invariant in
    let e : l.count ≡ 4097 = omega arith in
    record { fits = omega (arith, g.len); says = too_many _ _ _ _ _ g _ e (omega arith) }
