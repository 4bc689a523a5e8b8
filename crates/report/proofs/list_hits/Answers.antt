-- Where there is room all hits are written from word 0 on, and half the index after them is their number.
use Prim.Native.Nat.{ℕ, ◌*◌, ◌/◌}
use mathlib.Core.Path.{◌≡◌, sym, ap, ◌∙◌}
use mathlib.Core.List.{List}
use mathlib.Core.Bool.{Bool, true, false}
use native.Mathlib.Omega.{arith}
use borrow.Author.Tests.{ltb-false, not-true, not-false}
use lib.Dec.{ltb}
use lib.ListN.{length}
use Rattle.laws.specs.Lists.{tally}
use Rattle.laws.specs.Space.{pasted}
use Rattle.book_rules.specs.Rules.{Rec, recs}
use Rattle.std.specs.Prelude.{Ok, Err}
use Rattle.refusals.specs.declared.Refusal.TheVariants.{NoRoom}
use Rattle.report.specs.Steps.{found, hit_subs, recs_in, hit_words, WroteHits, ListsHits}
use Rattle.report.proofs.Spans.{words_length, book_words, book_count}
use Rattle.report.proofs.list_hits.Goals as goal

module _ (k : Rec → Bool) (w out : List ℕ) (rs : List (List ℕ)) (these : recs_in rs ≡ recs w) where
  abbrev too_few : Bool
  too_few = ltb (length out) (2 * tally k (recs_in rs))

  short : too_few ≡ true → ListsHits (hit_subs k w) out (Err NoRoom) out
  short b =
      let c : ltb (length out) (2 * length (hit_subs k w)) ≡ true = sym (ap (λ (x : ℕ). ltb (length out) (2 * x)) (book_count k rs w these)) ∙ b in
      record { says = rw c; lent = rw c }

  all : (r : ℕ) (left : List ℕ) → too_few ≡ false → WroteHits out 0 (hit_words k (recs_in rs)) left r → ListsHits (hit_subs k w) out (Ok (r / 2)) left
  all r left b p =
      let e = p.next in
      let l = words_length k (recs_in rs) in
      let n = book_count k rs w these in
      let m : r / 2 ≡ length (hit_subs k w) = omega arith in
      let c : ltb (length out) (2 * length (hit_subs k w)) ≡ false = sym (ap (λ (x : ℕ). ltb (length out) (2 * x)) n) ∙ b in
      record { says = rw (c, m); lent = p.space ∙ ap (pasted out 0) (book_words k rs w these) ∙ rw c }

pub returns-then-not-has_room : goal.returns-then-not-has_room
returns-then-not-has_room c =
    let a = c.args in
    short (found a.wanted.client a.wanted.class a.wanted.sent.now) a.book.words.now a.out.now c.records-records.result.now c.records-records.ensures.these
    (not-false _ (sym c.has_room.ensures ∙ c.if-not-has_room.true))

pub write_hits-requires : goal.write_hits-requires
write_hits-requires c =
    let a = c.args in
    ltb-false (length a.out.now) (2 * tally (found a.wanted.client a.wanted.class a.wanted.sent.now) (recs_in c.records-records.result.now))
    (not-true _ (sym c.has_room.ensures ∙ c.if-not-has_room.false))

pub returns : goal.returns
returns c =
    let a = c.args in
    all (found a.wanted.client a.wanted.class a.wanted.sent.now) a.book.words.now a.out.now c.records-records.result.now c.records-records.ensures.these c.write_hits.result _
    (not-true _ (sym c.has_room.ensures ∙ c.if-not-has_room.false)) c.write_hits.ensures
