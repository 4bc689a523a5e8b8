-- A record matches by two tests: the wish's, and where that holds the place's.
use Prim.Native.Nat.{ℕ}
use mathlib.Core.Path.{◌≡◌, sym, ap, ◌∙◌}
use mathlib.Core.Bool.{true, false, and-false, and-true}
use mathlib.Core.List.{List}
use Rattle.place.specs.Packed.{packed, packed_match_some}
use Rattle.book_rules.specs.Form.{form}
use Rattle.book_rules.specs.Rules.{Rec}
use Rattle.report.specs.Hits.{has_class}
use Rattle.report.specs.Steps.{rec, record_matches}
use Rattle.report.proofs.record_matches.Goals as goal

module _ (class : ℕ) (sent : List ℕ) (r : Rec) where
  unwished : has_class (form.wish r.second) class ≡ false → false ≡ record_matches class sent r
  unfolding record_matches
  unwished h = simp (h, and-false)

  by_place : has_class (form.wish r.second) class ≡ true → packed_match_some (packed r.first) sent ≡ record_matches class sent r
  unfolding record_matches
  by_place h = simp (h, and-true)

pub returns-then-not-has_class : goal.returns-then-not-has_class
returns-then-not-has_class c =
    let a = c.args in
    unwished a.wanted.class a.wanted.sent.now (rec a.first a.second) (sym (c.has_class.ensures ∙ ap (λ (v : ℕ). has_class v a.wanted.class) c.wish_of.ensures.says) ∙ c.if-not-has_class.true)

pub returns : goal.returns
returns c =
    let a = c.args in
    let yes = c.if-not-has_class.false in
    c.packed_match_some.ensures.says
    ∙ ap (λ (p : ℕ). packed_match_some p a.wanted.sent.now) c.pack.ensures.says
    ∙ by_place a.wanted.class a.wanted.sent.now (rec a.first a.second) (sym (c.has_class.ensures ∙ ap (λ (v : ℕ). has_class v a.wanted.class) c.wish_of.ensures.says) ∙ yes)
