-- What a good book keeps, by name. Counts, records and zeros are then fixed word by word, so a good book is the layout of its records.
use mathlib.Core.Path.{◌≡◌, sym, ap, ◌∙◌}
use mathlib.Core.Bool.{true, ◌&&◌}
use mathlib.Core.List.{List, ◌++◌}
use Prim.Native.Nat.{ℕ, ◌+◌, ◌-◌, ◌*◌, ◌≤◌, ◌<◌}
use native.Mathlib.Omega.{arith}
use borrow.Author.Tests.{leb-true, le-leb, eqb-true, eq-eqb}
use lib.Dec.{leb, eqb}
use lib.ListN.{length, get_or, take, drop, replicate, length-drop, length-replicate, get_or-replicate, take-append-drop}
use lib.Seq.{slice, length-take-le, drop-append-le, get_or-drop, ext_get_or}
use Rattle.laws.specs.Lists.{table}
use Rattle.laws.proofs.Tests.{and_l, and_r}
use Rattle.laws.proofs.All.{all_at}
use Rattle.laws.proofs.Tables.{length_table, table_ext, table_take}
use Rattle.book_rules.specs.Form.{Form}
use Rattle.book_rules.specs.Rules.{Rec, rec_at, recs, total, below, layout, good, counts_right, records_right, rising, unused_zero}
use Rattle.book_rules.proofs.Laid.{words_recs}

pub record Good (f : Form) (w : List ℕ) : Type 0 where
  pub len : length w ≡ 8293
  pub few : total w ≤ 4096
  pub right : records_right f w (total w) ≡ true
  pub order : rising f w (total w) ≡ true
  pub counts : counts_right w (total w) ≡ true
  pub unused : unused_zero w (total w) ≡ true

module _ (f : Form) where
  pub good_says : (w : List ℕ) → good f w ≡ true → Good f w
  unfolding good
  good_says w g =
      let n = total w in
      let u = unused_zero w n in
      let c = counts_right w n && u in
      let o = rising f w n && c in
      let r = records_right f w n && o in
      let g1 = and_r (eqb (length w) 8293) (leb n 4096 && r) g in
      let g2 = and_r (leb n 4096) r g1 in
      let g3 = and_r (records_right f w n) o g2 in
      let g4 = and_r (rising f w n) c g3 in
      record {
        len = eqb-true (length w) 8293 (and_l (eqb (length w) 8293) (leb n 4096 && r) g);
        few = leb-true n 4096 (and_l (leb n 4096) r g1);
        right = and_l (records_right f w n) o g2;
        order = and_l (rising f w n) c g3;
        counts = and_l (counts_right w n) u g4;
        unused = and_r (counts_right w n) u g4;
      }

  pub good_from : (w : List ℕ) → Good f w → good f w ≡ true
  unfolding good
  good_from w g = rw (eq-eqb (length w) 8293 g.len, le-leb (total w) 4096 g.few, g.right, g.order, g.counts, g.unused)

  pub good_layout : (w : List ℕ) → Good f w → w ≡ layout (recs w)
  unfolding recs layout counts_right unused_zero
  good_layout w g =
      let n = total w in
      let len : length w ≡ 8293 = g.len in
      let few : n ≤ 4096 = g.few in
      let s : List Rec = table n (rec_at w) in
      let e : ℕ = 101 + 2 * n in
      let e1 : take 101 w ≡ table 101 (below s) =
      sym (table_take 101 w (omega arith))
      ∙ table_ext 101 (λ i. get_or w i 0) (below s) (λ i l. eqb-true (get_or w i 0) (below s i) (all_at 101 i (λ k. eqb (get_or w k 0) (below s k)) g.counts l)) in
      let e2 : drop 101 w ≡ slice 101 e w ++ drop e w =
      ap (drop 101) (sym (take-append-drop e w)) ∙ drop-append-le 101 (take e w) (drop e w) (rw (length-take-le e w (omega arith)) (omega arith)) in
      let e3 : drop e w ≡ replicate (8192 - 2 * n) 0 =
      ext_get_or 0 (drop e w) (replicate (8192 - 2 * n) 0) (length-drop e w ∙ rw length-replicate (omega arith))
      (λ i l.
      let h : i < 8192 - 2 * n = let k : i < length w - e = rw length-drop at l in omega arith in
      get_or-drop e w i 0
      ∙ eqb-true (get_or w (e + i) 0) 0 (all_at (8192 - 2 * n) i (λ j. eqb (get_or w (101 + 2 * n + j) 0) 0) g.unused h)
      ∙ sym (get_or-replicate (8192 - 2 * n) i 0 0 h)) in
      sym (take-append-drop 101 w) ∙ rw (e1, e2, e3, length_table, words_recs n w (omega arith))
