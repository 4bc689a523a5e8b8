-- Paper 02 §6: with 000000 among the places only the wish is left to decide, so what demand 3 says of the wanted it says of the wished.
use Prim.Native.Nat.{ℕ, ◌+◌, ◌≤◌}
use mathlib.Core.Path.{◌≡◌, refl, ap, ◌∙◌}
use mathlib.Core.Bool.{Bool, true, false, ◌&&◌}
use mathlib.Core.List.{List, [], ◌∷◌}
use native.Mathlib.Omega.{arith}
use borrow.Author.Tests.{eqb-true, ne_eqb}
use lib.Dec.{eqb}
use Rattle.laws.specs.Order.{choose}
use Rattle.laws.specs.Lists.{tally, one}
use Rattle.laws.proofs.Tests.{and_l}
use Rattle.header.specs.Header.{Alert}
use Rattle.event.specs.Class.{class_of}
use Rattle.place.specs.FirstWord.{first_word}
use Rattle.place.proofs.Matching.{national, no_state, has_state, amends, none_by_parts, some_national, some_skipped}
use Rattle.book_rules.specs.Subscription.{Sub, same_sub, how_often}
use Rattle.book_rules.specs.History.{standing}
use Rattle.report.specs.Hits.{has_class, matching, is_of, is_hit}
use Rattle.report.specs.Exact.{After, wanted}
use Rattle.demands.specs.Changes.{stood}
use Rattle.demands.specs.Outside.{OutsideNumber}
use Rattle.demands.specs.OutsideDemands.{alert_of_words}
use Rattle.demands.specs.NationalCode.{NationalPlaces, NationalHeaders, nationwide, wished, AllWished, NationalCode}
use Rattle.demands.proofs.Demand3.{reports}
use Rattle.demands.proofs.OutsideDemands.{outside_reports}

-- ---- places

places : NationalPlaces
places = record {
  national = national;
  no_state = no_state;
  county_alone = λ watched. no_state watched 1 refl (λ e. absurd (omega arith));
  part_alone = λ watched. no_state watched 100000 refl (λ e. absurd (omega arith));
  as_01 = has_state;
  amends = amends;
  nobody_by_01 = λ watched g. none_by_parts watched 0 g refl;
}

-- ---- headers

wish_decides : (class : ℕ) (places : List ℕ) (x : Sub) → nationwide places ≡ true → matching class places x ≡ has_class x.wish class
unfolding matching
wish_decides class places x e = rw (some_national x.place places e)

own_wish : (client : ℕ) (a : Alert) (x : Sub) → nationwide a.places ≡ true → wanted client a x ≡ wished client a x
unfolding is_hit
own_wish client a x e = ap (λ (b : Bool). is_of client x && b) (wish_decides (class_of a.event) a.places x e)

headers : NationalHeaders
headers = record {
  every_place = some_national;
  wish_decides = wish_decides;
  own_wish = own_wish;
  adds_nothing = λ watched place places e n. some_skipped watched place places (no_state watched place e n);
}

-- ---- reports

-- in a list whose first words rise nothing stands twice
above : (k : ℕ) (x : Sub) (list : List Sub) → After k list → first_word x.place ≤ k → how_often x list ≡ 0
unfolding how_often tally
above k x [] a h = refl
above k x (y ∷ list) a h =
    let later = a.0 in
    let other = ne_eqb x.place y.place (λ e. let same : first_word x.place ≡ first_word y.place = ap first_word e in absurd (omega arith)) in
    rw (other, above (first_word y.place) x list a.1 (omega arith))

rise_once : (k : ℕ) (x : Sub) (list : List Sub) → After k list → how_often x list ≤ 1
unfolding how_often tally
rise_once k x [] a = omega arith
rise_once k x (y ∷ list) a = by (same_sub x y) refl (rise_once (first_word y.place) x list a.1)
  where
    by : (b : Bool) → same_sub x y ≡ b → how_often x list ≤ 1 → one b + how_often x list ≤ 1
    by true e h =
        let here = ap first_word (eqb-true x.place y.place (and_l (eqb x.place y.place) (eqb x.client y.client && eqb x.wish y.wish) e)) in
        omega (arith, above (first_word y.place) x list a.1 (omega arith))
    by false e h = omega arith

module _ (client : ℕ) (a : Alert) (six_zeros : nationwide a.places ≡ true) where
  same_test : wanted client a ≡ wished client a
  same_test = λ i x. own_wish client a x six_zeros i

  counted : (list : List Sub) → tally (wanted client a) list ≡ tally (wished client a) list
  counted list = ap (λ (f : Sub → Bool). tally f list) same_test

  all_wished : (list hits : List Sub) → ((x : Sub) → how_often x hits ≡ choose (wanted client a x) (how_often x list) 0) → After 0 hits
      → AllWished list client a hits
  all_wished list hits exactly order = record {
    exactly = λ x. exactly x ∙ ap (λ (b : Bool). choose b (how_often x list) 0) (own_wish client a x six_zeros);
    once = λ x. rise_once 0 x hits order;
    order = order;
  }

pub national_code : OutsideNumber → NationalCode
national_code n = record {
  places = places;
  headers = headers;
  report = λ run book client text a at out r left c p someone reads clock day six_zeros fits.
      let e = counted client a six_zeros (standing run) in
      let k = reports.report_exact run book client text a at out r left c p someone reads clock day (omega arith) in
      record {
        hits = k.lists.hits;
        lists = all_wished client a six_zeros (standing run) k.lists.hits k.lists.exactly k.lists.order;
        says = k.says;
        count = (k.count.0, k.count.1, k.count.2 ∙ e);
        lent = k.lent;
      };
  same_report = λ run book client text fields q words at summary out r left rest c p z k someone clock day six_zeros enough fits.
      let a = alert_of_words words in
      let e = counted client a six_zeros (stood run) in
      let o = (outside_reports n).report_exact run book client text fields q words at summary out r left rest c p z k someone clock day enough (omega arith) in
      record {
        hits = o.listed;
        lists = all_wished client a six_zeros (stood run) o.listed o.exactly o.order;
        number = o.number;
        count = o.count ∙ e;
        summary_written = o.summary_written;
        hit_words = o.hit_words;
      };
}
