-- What is left to write, pasted at its index, gives the whole: start, origin and event; the places; the rest.
use mathlib.Core.Path.{◌≡◌, refl, ap, ◌∙◌}
use Prim.Native.Nat.{ℕ, ◌+◌, ◌*◌}
use mathlib.Core.List.{List, ◌++◌}
use native.Mathlib.Omega.{arith}
use lib.ListN.{length, take, length-append}
use lib.Seq.{length-take-le}
use borrow.Author.Rules.{rules}
use Rattle.laws.proofs.Pasted.{todo, step}
use Rattle.header_writing.specs.Steps.{all_text, opening_text, places_text, closing_text}
use Rattle.header_writing.proofs.Marked.{places_length}
use Rattle.header_writing.proofs.put_all.Goals as goal

pub returns : goal.returns
unfolding all_text
returns c =
    let f = c.args.f.now in
    let d = c.args.out.now in
    let x : List ℕ = opening_text f in
    let y : List ℕ = places_text (take f.count f.places) in
    let z : List ℕ = closing_text f in
    let lx : length x ≡ 13 = c.put_opening.ensures.f_len in
    let t : 31 ≡ length f.places = (search rules) in
    let n : length (take f.count f.places) ≡ f.count = length-take-le f.count f.places (omega (arith, c.requires.0)) in
    let ly : length y ≡ 7 * f.count = places_length (take f.count f.places) ∙ ap (λ (k : ℕ). 7 * k) n in
    let lz : length z ≡ 22 = c.put_closing.ensures.f_len in
    let l : length (x ++ (y ++ z)) ≡ 35 + 7 * f.count = length-append x (y ++ z) ∙ omega (arith, length-append y z) in
    let all = todo d 0 (x ++ (y ++ z)) (omega (arith, c.requires.1)) in
    let rest = step _ _ _ _ _ all x (y ++ z) _ 13 refl c.put_opening.ensures.out_after (omega arith) in
    let last = step _ _ _ _ _ rest y z _ (13 + 7 * f.count) refl c.put_places.ensures (omega arith) in
    c.put_closing.ensures.out_after ∙ last.same

pub put_places-requires : goal.put_places-requires
put_places-requires c =
    let f = c.args.f.now in
    let t : 31 ≡ length f.places = (search rules) in
    omega (arith, c.requires.1, c.put_opening.auto.out, length-take-le f.count f.places (omega (arith, c.requires.0)))
