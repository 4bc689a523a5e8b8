-- What a kind and a codec keep: what is read is what is written, each way; how long a text is; and where reading stops.
use Rattle.std.specs.Prelude.{ℕ, zero, suc, ◌+◌, ◌≤◌, ◌≡◌, List, ◌++◌, true, false, length, get_or, drop, eqb}
use Rattle.laws.specs.Order.{Quiet}
use Rattle.codec.specs.Kind.{Kind}
use Rattle.codec.specs.Codec.{got, no, Codec, fits, either}

pub record Law {A : Type 0} (k : Kind A) : Type 0 where
  pub reads : (b : List ℕ) → length b ≡ k.width → k.allowed b ≡ true → (k.ok (k.value b) ≡ true) × (k.put (k.value b) ≡ b)
  pub writes : (v : A) → k.ok v ≡ true → (length (k.put v) ≡ k.width) × (k.allowed (k.put v) ≡ true) × (k.value (k.put v) ≡ v)

-- a value that is read has no fault, and the bytes read are its text; the text of a value with no fault reads to it
pub record Lawful {A : Type 0} (c : Codec A) : Type 0 where
  pub reads : (s : List ℕ) (i : ℕ) (v : A) (r : List ℕ) (j : ℕ) → c.get s i ≡ got v r j
      → Quiet (c.faults v) × (s ≡ c.text v ++ r) × (j ≡ i + length (c.text v))
  pub writes : (v : A) (r : List ℕ) (i : ℕ) → Quiet (c.faults v) → c.get (c.text v ++ r) i ≡ got v r (i + length (c.text v))

-- how long the text of an allowed value is, and within which bounds
pub record Sized {A : Type 0} (c : Codec A) (size : A → ℕ) (lo hi : ℕ) : Type 0 where
  pub sized : (v : A) → Quiet (c.faults v) → (length (c.text v) ≡ size v) × (lo ≤ size v) × (size v ≤ hi)

-- reading s, which stands at index i, stops with the number n at index j: in the first of two parts, or in the second after
-- the first was read
pub data Stops {A B : Type 0} (c : Codec A) (d : Codec B) (s : List ℕ) (i n j : ℕ) : Type 0 where
  first : c.get s i ≡ no n j → Stops c d s i n j
  second : (a : A) (r : List ℕ) (l : ℕ) → c.get s i ≡ got a r l → d.get r l ≡ no n j → Stops c d s i n j

-- reading a list of at most m fields stops at index j: none is left to take; or the next does not stand there; or it does, is
-- not the last, and the rest stops
pub data ListStops {A : Type 0} (k : Kind A) (a e : ℕ) : ℕ → List ℕ → ℕ → ℕ → Type 0 where
  full : {s : List ℕ} {i : ℕ} → ListStops k a e zero s i i
  bad : {m : ℕ} {s : List ℕ} {i : ℕ} → fits k (either a e) s ≡ false → ListStops k a e (suc m) s i i
  later : {m : ℕ} {s : List ℕ} {i j : ℕ} → fits k (either a e) s ≡ true → eqb (get_or s k.width 0) e ≡ false
      → ListStops k a e m (drop (k.width + 1) s) (i + (k.width + 1)) j → ListStops k a e (suc m) s i j
