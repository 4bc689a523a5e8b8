-- The places so far are packed, and the others are as found.
use mathlib.Core.Path.{◌≡◌, ap, ◌∙◌}
use Prim.Native.Nat.{ℕ}
use native.Mathlib.Omega.{arith}
use lib.ListN.{set, get_or}
use Rattle.std.proofs.lemmas.List.Edits.{map_over_more}
use Rattle.laws.proofs.Rows.{other_end}
use Rattle.place.specs.Packed.{packed, packed_place}
use Rattle.place.proofs.pack_places.Goals as goal

pub loop-place-preserved : goal.loop-place-preserved
unfolding packed_place
loop-place-preserved c =
    let l = c.loop-place in
    let e : c.pack.result ≡ packed_place (get_or l.places l.place-index 0) = c.pack.ensures.says ∙ ap packed c.first_word.ensures.says in
    ap (λ (n : ℕ). set l.places l.place-index n) e
    ∙ map_over_more packed_place c.args.places.now l.places l.place-index (get_or l.places l.place-index 0) (omega arith) l.invariant
    (other_end 0 _ l.places l.place-index (omega arith))
