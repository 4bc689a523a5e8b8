-- Two subscriptions are the same if their three numbers are; lists in which each stands equally often pass every test equally often.
use mathlib.Core.Path.{◌≡◌, refl, sym, ap, ◌∙◌}
use mathlib.Core.Bool.{Bool, true, ◌&&◌}
use mathlib.Core.List.{List}
use borrow.Author.Tests.{eq-eqb, eqb-true}
use lib.Dec.{ltb, eqb}
use Rattle.laws.specs.Lists.{tally}
use Rattle.laws.proofs.Tests.{and_l, and_r}
use Rattle.laws.proofs.Counting.{some_tally}
use Rattle.laws.proofs.Shuffled.{shuffled}
use Rattle.book_rules.specs.Subscription.{Sub, same_sub, how_often}
use Rattle.book_history.specs.Members.{is_in}

pub sub_eq : (x y : Sub) → x.place ≡ y.place → x.client ≡ y.client → x.wish ≡ y.wish → x ≡ y
sub_eq x y a b d = λ i. record { place = a i; client = b i; wish = d i }

pub same_refl : (x : Sub) → same_sub x x ≡ true
same_refl x = rw (eq-eqb x.place x.place refl, eq-eqb x.client x.client refl, eq-eqb x.wish x.wish refl)

pub same_eq : (x y : Sub) → same_sub x y ≡ true → x ≡ y
same_eq x y e =
    let p : Bool = eqb x.place y.place in
    let c : Bool = eqb x.client y.client in
    let v : Bool = eqb x.wish y.wish in
    let r = and_r p (c && v) e in
    sub_eq x y (eqb-true x.place y.place (and_l p (c && v) e))
    (eqb-true x.client y.client (and_l c v r))
    (eqb-true x.wish y.wish (and_r c v r))

-- lists in which each stands equally often have equal tallies of every test, and the same members
pub same_tallies : (a b : List Sub) → ((x : Sub) → how_often x a ≡ how_often x b) → (t : Sub → Bool) → tally t a ≡ tally t b
unfolding how_often
same_tallies a b e t = shuffled same_sub same_refl same_eq a b e t

pub in_times : (x : Sub) (list : List Sub) → is_in x list ≡ ltb 0 (how_often x list)
unfolding is_in how_often
in_times x list = some_tally (same_sub x) list

pub same_members : (a b : List Sub) → ((x : Sub) → how_often x a ≡ how_often x b) → (x : Sub) → is_in x a ≡ is_in x b
same_members a b e x = in_times x a ∙ ap (ltb 0) (e x) ∙ sym (in_times x b)
