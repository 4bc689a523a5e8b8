-- At each way out the tests say which burst is the shortest; the other two stand in their order.
use native.Mathlib.Omega.{arith}
use Rattle.burst.proofs.Arranged.{shortest_a, shortest_b, shortest_c}
use Rattle.burst.proofs.Agreed.{decides}
use Rattle.burst.proofs.by_length.Goals as goal

pub returns-then-a-c : goal.returns-then-a-c
returns-then-a-c c =
    let a = c.args in
    let g = c.agree in
    decides a.a.now a.b.now a.c.now a.a.now a.b.now a.c.now a.n a.out.now g.result g.new.out g.ensures
    (shortest_a a.a.now a.b.now a.c.now a.n (omega arith) (omega arith) (omega arith)) (omega arith) (omega arith) (omega arith) (omega arith)

pub returns-then-a-b : goal.returns-then-a-b
returns-then-a-b c =
    let a = c.args in
    let g = c.agree-then-a-b in
    decides a.a.now a.b.now a.c.now a.c.now a.a.now a.b.now a.n a.out.now g.result g.new.out g.ensures
    (shortest_c a.a.now a.b.now a.c.now a.n (omega arith) (omega arith) (omega arith)) (omega arith) (omega arith) (omega arith) (omega arith)

pub returns-then-b-c : goal.returns-then-b-c
returns-then-b-c c =
    let a = c.args in
    let g = c.agree-then-b-c in
    decides a.a.now a.b.now a.c.now a.b.now a.a.now a.c.now a.n a.out.now g.result g.new.out g.ensures
    (shortest_b a.a.now a.b.now a.c.now a.n (omega arith) (omega arith) (omega arith)) (omega arith) (omega arith) (omega arith) (omega arith)

pub returns : goal.returns
returns c =
    let a = c.args in
    let g = c.agree-2 in
    decides a.a.now a.b.now a.c.now a.c.now a.a.now a.b.now a.n a.out.now g.result g.new.out g.ensures
    (shortest_c a.a.now a.b.now a.c.now a.n (omega arith) (omega arith) (omega arith)) (omega arith) (omega arith) (omega arith) (omega arith)
