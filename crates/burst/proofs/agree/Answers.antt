-- A difference below n is 3; else the voted front and the copied rest are pasted one after the other, and make the text.
use mathlib.Core.Path.{refl}
use native.Mathlib.Omega.{arith}
use lib.ListN.{length}
use Rattle.burst.proofs.Agreed.{found, not_found, agree_3, agree_text}
use Rattle.burst.proofs.agree.Goals as goal

pub overflow_add-result : goal.overflow_add-result
overflow_add-result c =
    let a = c.args in
    omega (arith, (found a.p.now a.q.now (length a.s.now) a.n c.requires.0 c.requires.1 c.requires.2 c.in-Some.k c.in-Some.ensures).0)

pub returns-in-Some : goal.returns-in-Some
returns-in-Some c =
    let a = c.args in
    let f = found a.p.now a.q.now (length a.s.now) a.n c.requires.0 c.requires.1 c.requires.2 c.in-Some.k c.in-Some.ensures in
    agree_3 a.s.now a.p.now a.q.now a.n a.out.now _ f.1 f.0

pub returns : goal.returns
returns c =
    let a = c.args in
    let v = c.write_voted in
    let r = c.write_rest in
    let m = length a.s.now in
    agree_text a.s.now a.p.now a.q.now a.n a.out.now _ refl v.new.out r.new.out
    (not_found a.p.now a.q.now m a.n c.requires.0 c.requires.1 c.requires.2 c.in_default.ensures) c.requires.0 c.requires.1 c.requires.3 v.ensures r.ensures
