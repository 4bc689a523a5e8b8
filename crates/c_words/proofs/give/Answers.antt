-- 13 where fewer than 50 words are lent; else the front and then the back are pasted, and together they are all 50.
use native.Mathlib.Omega.{arith}
use Rattle.c_words.proofs.Pastes.{gives_few, gives_all}
use Rattle.c_words.proofs.give.Goals as goal

pub returns-then-out-lt50 : goal.returns-then-out-lt50
returns-then-out-lt50 c = gives_few c.args.f c.args.out.now (omega arith)

pub returns : goal.returns
returns c =
    let a = c.args in
    gives_all a.f a.out.now _ _ (omega arith) c.put_front.ensures c.put_back.ensures
