-- Nothing is written, or two stores that are the pair of words pasted there.
use Prim.Native.Nat.{ℕ, ◌+◌, ◌≤◌}
use mathlib.Core.Path.{◌≡◌, sym, ap, ◌∙◌}
use mathlib.Core.Bool.{Bool, true, false}
use mathlib.Core.List.{List, [], ◌∷◌}
use native.Mathlib.Omega.{arith}
use lib.ListN.{length, set, length-set}
use Rattle.laws.specs.Lists.{one}
use Rattle.laws.specs.Space.{pasted}
use Rattle.laws.proofs.Pasted.{pasted_nil, pasted_one, pasted_two}
use Rattle.place.specs.FirstWord.{place_of}
use Rattle.book_rules.specs.Form.{form}
use Rattle.book_rules.specs.Rules.{Rec}
use Rattle.report.specs.Hits.{pairs}
use Rattle.report.specs.Steps.{rec, record_matches, hit_words, WroteHits}
use Rattle.report.proofs.Spans.{words_yes, words_no}
use Rattle.report.proofs.put_hit.Goals as goal

module _ (k : Rec → Bool) (r : Rec) (d : List ℕ) (at : ℕ) where
  nothing : k r ≡ false → WroteHits d at (hit_words k (r ∷ [])) d at
  nothing h = rw (words_no k r h) (record { space = sym (pasted_nil d at); next = omega arith })

  two_stores : (x y : ℕ) → at + 2 ≤ length d → set (set d at x) (at + 1) y ≡ pasted d at (x ∷ y ∷ [])
  two_stores x y h =
      pasted_one (set d at x) (at + 1) y (rw length-set (omega arith))
      ∙ ap (λ (l : List ℕ). pasted l (at + 1) (y ∷ [])) (pasted_one d at x (omega arith))
      ∙ pasted_two d at (x ∷ []) (y ∷ []) (omega arith)

  stored : (x y : ℕ) → k r ≡ true → at + 2 ≤ length d → x ≡ place_of r.first → y ≡ form.wish r.second
      → WroteHits d at (hit_words k (r ∷ [])) (set (set d at x) (at + 1) y) (at + 2)
  unfolding pairs
  stored x y h l p q = rw (words_yes k r h) (record { space = two_stores x y l ∙ (λ i. pasted d at (p i ∷ q i ∷ [])); next = omega arith })

pub returns-then-not-record_matches : goal.returns-then-not-record_matches
returns-then-not-record_matches c =
    let a = c.args in
    let h = sym c.record_matches.ensures ∙ c.if-not-record_matches.true in
    nothing (record_matches a.wanted.class a.wanted.sent.now) (rec a.first a.second) a.out.now a.at h

pub bounds-out-at : goal.bounds-out-at
bounds-out-at c = omega (arith, ap one (sym c.record_matches.ensures ∙ c.if-not-record_matches.false))

pub bounds-out-at-2 : goal.bounds-out-at-2
bounds-out-at-2 c = simp length-set (omega (arith, ap one (sym c.record_matches.ensures ∙ c.if-not-record_matches.false)))

pub returns : goal.returns
returns c =
    let a = c.args in
    let k = record_matches a.wanted.class a.wanted.sent.now in
    stored k (rec a.first a.second) a.out.now a.at c.place_of.result c.wish_of.result (sym c.record_matches.ensures ∙ c.if-not-record_matches.false) (omega (arith, ap one (sym c.record_matches.ensures ∙ c.if-not-record_matches.false)))
    c.place_of.ensures.says c.wish_of.ensures.says
