-- How far the reading of a whole has come: what is left of it is to be read at index i, and what was read goes in front. Code that
-- reads field by field cites one law for each step. Assumes nothing.
use Prim.Native.Nat.{ℕ, ◌+◌, ◌≤◌}
use mathlib.Core.Path.{◌≡◌, refl, sym, ap, ◌∙◌}
use mathlib.Core.List.{List}
use mathlib.Core.Bool.{Bool, true, false}
use native.Mathlib.Omega.{arith}
use lib.ListN.{length, take, drop, length-append, length-drop}
use lib.Seq.{drop-drop, drop_at}
use Rattle.laws.specs.Order.{choose}
use Rattle.codec.specs.Kind.{Kind}
use Rattle.codec.specs.Codec.{Out, got, no, and_then, fits, step, is, Codec, field, ◌▷◌}
use Rattle.codec.specs.Law.{Lawful}
use Rattle.codec.proofs.Apart.{got_no}

-- ---- what is read leaves the text from the next index on

module _ {A : Type 0} (c : Codec A) (law : Lawful c) (t : List ℕ) (i : ℕ) (v : A) (r : List ℕ) (j : ℕ) (e : c.get (drop i t) i ≡ got v r j) where
  pub left_is : r ≡ drop j t
  left_is =
      let l = law.reads (drop i t) i v r j e in
      sym (drop_at (c.text v) r (length (c.text v)) refl)
      ∙ ap (drop (length (c.text v))) (sym l.1)
      ∙ drop-drop (length (c.text v)) i t
      ∙ ap (λ (x : ℕ). drop x t) (sym l.2)

  pub left_inside : i ≤ length t → j ≤ length t
  left_inside h =
      let l = law.reads (drop i t) i v r j e in
      omega (arith, l.2, ap length l.1, length-append (c.text v) r, length-drop i t)

-- ---- a step and a field, by the test that they stand there

module _ {A : Type 0} (n : ℕ) (k : Kind A) (mark : ℕ → Bool) (t : List ℕ) (i : ℕ) where
  pub step_no : fits k mark (drop i t) ≡ false → no n i ≡ step n k mark (drop i t) i
  step_no h = simp h

  pub step_yes : (v : A) → fits k mark (drop i t) ≡ true → k.value (take k.width (drop i t)) ≡ v
      → got v (drop (i + (k.width + 1)) t) (i + (k.width + 1)) ≡ step n k mark (drop i t) i
  step_yes v h e = simp (h, e, drop-drop)

-- and what a step that was taken says
pub step_told : {A : Type 0} (n : ℕ) (k : Kind A) (mark : ℕ → Bool) (s : List ℕ) (i : ℕ) (v : A) (r : List ℕ) (j : ℕ) → step n k mark s i ≡ got v r j
    → (fits k mark s ≡ true) × (k.value (take k.width s) ≡ v) × (drop (k.width + 1) s ≡ r) × (i + (k.width + 1) ≡ j)
step_told n k mark s i v r j e = go (fits k mark s) e
  where
    go : (b : Bool) → choose b (got (k.value (take k.width s)) (drop (k.width + 1) s) (i + (k.width + 1))) (no n i) ≡ got v r j
        → (b ≡ true) × (k.value (take k.width s) ≡ v) × (drop (k.width + 1) s ≡ r) × (i + (k.width + 1) ≡ j)
    go true e = (refl, cc, cc, cc)
    go false e = got_no (sym e)

module _ {A : Type 0} (n : ℕ) (k : Kind A) (m : ℕ) (t : List ℕ) (i : ℕ) where
  pub field_no : fits k (is m) (drop i t) ≡ false → no n i ≡ (field n k m).get (drop i t) i
  field_no h = step_no n k (is m) t i h

  pub field_yes : (v : A) → fits k (is m) (drop i t) ≡ true → k.value (take k.width (drop i t)) ≡ v
      → got v (drop (i + (k.width + 1)) t) (i + (k.width + 1)) ≡ (field n k m).get (drop i t) i
  field_yes v h e = step_yes n k (is m) t i v h e

-- ---- the stages of reading a whole w from index o on

abbrev pub through : {A B : Type 0} → (A → B) → Out A → Out B
through f out = and_then out (λ a r j. got (f a) r j)

pub record At {W A : Type 0} (t : List ℕ) (w : Codec W) (o : ℕ) (d : Codec A) (i : ℕ) (f : A → W) : Type 0 where
  pub inside : i ≤ length t
  pub here : w.get (drop o t) o ≡ through f (d.get (drop i t) i)

pub begin : {W : Type 0} (t : List ℕ) (w : Codec W) (o : ℕ) → o ≤ length t → At t w o w o (λ h. h)
begin {W} t w o h = record { inside = h; here = as_same (w.get (drop o t) o) }
  where
    as_same : (x : Out W) → x ≡ through (λ h. h) x
    as_same (got h r j) = refl
    as_same (no n i) = refl

-- a part, and more after it
module _ {W A B : Type 0} {t : List ℕ} {w : Codec W} {o : ℕ} (c : Codec A) (d : Codec B) {i : ℕ} {f : A × B → W} (a : At t w o (c ▷ d) i f) where
  pub stop : (n j : ℕ) → c.get (drop i t) i ≡ no n j → w.get (drop o t) o ≡ no n j
  stop n j h = a.here ∙ simp h

  pub next : Lawful c → (v : A) (r : List ℕ) (j : ℕ) → c.get (drop i t) i ≡ got v r j → At t w o d j (λ b. f (v, b))
  next law v r j h = record {
    inside = left_inside c law t i v r j h a.inside;
    here = a.here ∙ simp (h, left_is c law t i v r j h) (go (d.get (drop j t) j));
  }
    where
      go : (x : Out B) → through f (and_then x (λ b q l. got (v, b) q l)) ≡ through (λ b. f (v, b)) x
      go (got b q l) = refl
      go (no x y) = refl

-- the last part
module _ {W A : Type 0} {t : List ℕ} {w : Codec W} {o : ℕ} {c : Codec A} {i : ℕ} {f : A → W} (a : At t w o c i f) where
  pub last_stop : (n j : ℕ) → c.get (drop i t) i ≡ no n j → w.get (drop o t) o ≡ no n j
  last_stop n j h = a.here ∙ simp h

  pub last : (v : A) (r : List ℕ) (j : ℕ) → c.get (drop i t) i ≡ got v r j → w.get (drop o t) o ≡ got (f v) r j
  last v r j h = a.here ∙ simp h
