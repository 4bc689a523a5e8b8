-- The numbers are counted first, and go with every answer; 1 comes before anything is cut; all else is said by the vote on the parts.
use mathlib.Core.Path.{◌≡◌, sym, ◌∙◌}
use mathlib.Core.Bool.{false}
use Prim.Native.Nat.{◌≤◌}
use lib.ListN.{length}
use Rattle.burst.specs.Vote.{too_long}
use Rattle.burst.proofs.Stripped.{lead_fits, stripped_is}
use Rattle.burst.proofs.Agreed.{vote_1, vote_on}
use Rattle.burst.proofs.vote.Goals as goal

-- what is dropped lies within the burst
fits_a : (c : goal.Else-too_long) → c.leading-first.result ≤ length c.args.a.now
fits_a c = lead_fits _ _ c.leading-first.ensures.says

fits_b : (c : goal.After-decide-arg-1) → c.leading-second.result ≤ length c.args.b.now
fits_b c = lead_fits _ _ c.leading-second.ensures.says

fits_c : (c : goal.After-decide-arg-2-1) → c.leading-third.result ≤ length c.args.c.now
fits_c c = lead_fits _ _ c.leading-third.ensures.says

-- no burst is too long
short : (c : goal.After-slice_known-2-1) → let a = c.args in too_long a.a.now a.b.now a.c.now ≡ false
short c = sym c.too_long.ensures ∙ c.if-too_long.false

pub returns-then-too_long : goal.returns-then-too_long
returns-then-too_long c =
    vote_1 _ _ _ _ _ _ _ c.leading-first.ensures.says c.leading-second.ensures.says c.leading-third.ensures.says
    (sym c.too_long.ensures ∙ c.if-too_long.true)

pub slice_bounds-decide-count : goal.slice_bounds-decide-count
slice_bounds-decide-count c = fits_a c

pub slice_bounds-decide-start : goal.slice_bounds-decide-start
slice_bounds-decide-start c = fits_a c

pub slice_bounds-decide-count-2 : goal.slice_bounds-decide-count-2
slice_bounds-decide-count-2 c = fits_b c

pub slice_bounds-decide-start-2 : goal.slice_bounds-decide-start-2
slice_bounds-decide-start-2 c = fits_b c

pub slice_bounds-decide-count-3 : goal.slice_bounds-decide-count-3
slice_bounds-decide-count-3 c = fits_c c

pub slice_bounds-decide-start-3 : goal.slice_bounds-decide-start-3
slice_bounds-decide-start-3 c = fits_c c

pub returns : goal.returns
returns c =
    let x = c.leading-first.ensures.says in
    let y = c.leading-second.ensures.says in
    let z = c.leading-third.ensures.says in
    let d = c.decide-voted in
    vote_on _ _ _ _ _ _ _ x y z d.result d.new.out
    (short c)
    (rw (← stripped_is _ _ x, ← stripped_is _ _ y, ← stripped_is _ _ z) d.ensures)
