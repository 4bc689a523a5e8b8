-- Where reading stops, in both directions, once for each way of putting codecs together.
use Prim.Native.Nat.{ℕ, zero, suc, ◌+◌}
use mathlib.Core.Path.{◌≡◌, refl, ◌∙◌}
use mathlib.Core.List.{List, [], ◌∷◌}
use mathlib.Core.Bool.{Bool, true, false}
use lib.ListN.{get_or, take, drop}
use lib.Dec.{eqb}
use Rattle.laws.specs.Order.{choose}
use Rattle.codec.specs.Kind.{Kind}
use Rattle.codec.specs.Codec.{Out, got, no, and_then, fits, step, is, either, Codec, field, ◌▷◌, get_list}
use Rattle.codec.specs.Law.{Stops, first, second, ListStops, full, bad, later}
use Rattle.codec.proofs.Apart.{got_no}

-- ---- one after the other

module _ {A B : Type 0} (c : Codec A) (d : Codec B) (s : List ℕ) (i n j : ℕ) where
  pub then_stops : (c ▷ d).get s i ≡ no n j → Stops c d s i n j
  then_stops e = go (c.get s i) refl e
    where
      end : (a : A) (r : List ℕ) (l : ℕ) → c.get s i ≡ got a r l → (o : Out B) → d.get r l ≡ o
          → and_then {B = A × B} o (λ b q l. got (a, b) q l) ≡ no n j → Stops c d s i n j
      end a r l h (got b q m) k e = got_no e
      end a r l h (no x y) k e = let ex : x ≡ n = cc in let ey : y ≡ j = cc in second a r l h (k ∙ (λ q. no (ex q) (ey q)))

      go : (o : Out A) → c.get s i ≡ o → and_then {B = A × B} o (λ a r j. and_then (d.get r j) (λ b q l. got (a, b) q l)) ≡ no n j → Stops c d s i n j
      go (got a r l) h e = end a r l h (d.get r l) refl e
      go (no x y) h e = let ex : x ≡ n = cc in let ey : y ≡ j = cc in first (h ∙ (λ q. no (ex q) (ey q)))

  pub stops_then : Stops c d s i n j → (c ▷ d).get s i ≡ no n j
  stops_then (first h) = simp h
  stops_then (second a r l h k) = simp (h, k)

-- ---- a field: at its own first byte, exactly if it does not fit

module _ {A : Type 0} (n : ℕ) (k : Kind A) (mark : ℕ → Bool) (s : List ℕ) (i : ℕ) where
  pub step_stops : (x j : ℕ) → step n k mark s i ≡ no x j → (fits k mark s ≡ false) × (x ≡ n) × (j ≡ i)
  step_stops x j e = go (fits k mark s) refl e
    where
      go : (b : Bool) → fits k mark s ≡ b → choose b (got (k.value (take k.width s)) (drop (k.width + 1) s) (i + (k.width + 1))) (no n i) ≡ no x j
          → (b ≡ false) × (x ≡ n) × (j ≡ i)
      go true h e = got_no e
      go false h e = (refl, cc, cc)

  pub stops_step : fits k mark s ≡ false → step n k mark s i ≡ no n i
  stops_step h = simp h

module _ {A : Type 0} (n : ℕ) (k : Kind A) (m : ℕ) (s : List ℕ) (i : ℕ) where
  pub field_stops : (x j : ℕ) → (field n k m).get s i ≡ no x j → (fits k (is m) s ≡ false) × (x ≡ n) × (j ≡ i)
  field_stops x j e = step_stops n k (is m) s i x j e

  pub stops_field : fits k (is m) s ≡ false → (field n k m).get s i ≡ no n i
  stops_field h = stops_step n k (is m) s i h

-- ---- a list

module _ {A : Type 0} (n : ℕ) (k : Kind A) (a e : ℕ) where
  pub list_stops : (m : ℕ) (s : List ℕ) (i x j : ℕ) → get_list n k a e m s i ≡ no x j → (x ≡ n) × ListStops k a e m s i j
  list_stops zero s i x j h =
      let q : x ≡ n = cc in
      let ej : i ≡ j = cc in
      (q, rw (← ej) full)
  list_stops (suc m) s i x j h = go (fits k (either a e) s) refl (eqb (get_or s w 0) e) refl h (list_stops m (drop (w + 1) s) (i + (w + 1)) x j)
    where
      w : ℕ
      w = k.width

      v : A
      v = k.value (take w s)

      rest : Out (List A)
      rest = get_list n k a e m (drop (w + 1) s) (i + (w + 1))

      deep : (o : Out (List A)) → rest ≡ o → and_then o (λ ps q l. got (v ∷ ps) q l) ≡ no x j → rest ≡ no x j
      deep (got ps q l) z h = got_no h
      deep (no y l) z h = let ey : y ≡ x = cc in let el : l ≡ j = cc in z ∙ (λ q. no (ey q) (el q))

      go : (b : Bool) → fits k (either a e) s ≡ b → (l : Bool) → eqb (get_or s w 0) e ≡ l
          → and_then (choose b (got v (drop (w + 1) s) (i + (w + 1))) (no n i))
          (λ p r j. choose l (got (p ∷ []) r j) (and_then (get_list n k a e m r j) (λ ps q l. got (p ∷ ps) q l))) ≡ no x j
          → (rest ≡ no x j → (x ≡ n) × ListStops k a e m (drop (w + 1) s) (i + (w + 1)) j)
          → (x ≡ n) × ListStops k a e (suc m) s i j
      go false f l g h ih = let q : x ≡ n = cc in let ej : i ≡ j = cc in (q, rw (← ej) (bad f))
      go true f true g h ih = got_no h
      go true f false g h ih = let r = ih (deep rest refl h) in (r.0, later f g r.1)

  pub stops_list : (m : ℕ) (s : List ℕ) (i j : ℕ) → ListStops k a e m s i j → get_list n k a e m s i ≡ no n j
  stops_list zero s i j full = refl
  stops_list (suc m) s i j (bad f) = simp f
  stops_list (suc m) s i j (later f g r) = simp (f, g, stops_list m (drop (k.width + 1) s) (i + (k.width + 1)) j r)
