-- The words or-ed together are 0 exactly if each is.
use Rattle.std.proofs.Common.{ℕ, ◌≡◌, Bool, ◌&&◌, eqb, List, ◌∙◌, sym, ap, rules, refl, bit_or}
use Rattle.std.specs.List.{list_all}
use Rattle.std.proofs.lemmas.Fn.{fold_over, fronts, slice_gives}
use Rattle.laws.proofs.OrZero.{or_zero}
use Rattle.book_check.proofs.Lists.{all_push, zeros}
use Rattle.book_check.proofs.Counted.unused_zero.Goals as goal

pub returns : goal.returns
returns c =
    fold_over fronts (λ y. y.now) _ (λ (ys : List ℕ) (a : ℕ). eqb a 0 ≡ list_all (λ x. eqb x 0) ys) _
    (λ ys a x b f' j k.
    let e : b ≡ bit_or a x.now = search rules in
    (ap (λ (m : ℕ). eqb m 0) e ∙ or_zero a x.now ∙ ap (λ (t : Bool). t && eqb x.now 0) j ∙ sym (all_push (λ x. eqb x 0) ys x.now), refl))
    c.iter.result _ _ _ (slice_gives c.iter.result) refl c.fold.ensures.ran
    ∙ ap (list_all (λ x. eqb x 0)) c.iter.ensures.rest ∙ zeros c.args.self.now.book.now c.args.self.now.n c.args.self.now.long c.args.self.now.few
