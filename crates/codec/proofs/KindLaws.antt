-- The law of each kind of field: what is read is what is written, each way.
use Prim.Native.Nat.{ℕ, ◌+◌, ◌^◌, ◌<◌}
use mathlib.Core.Path.{◌≡◌, refl, sym, ap, ◌∙◌}
use mathlib.Core.List.{List, [], ◌∷◌, ◌++◌}
use mathlib.Core.Bool.{Bool, true, ◌&&◌}
use native.Mathlib.Omega.{arith}
use lib.ListN.{length, take, drop, length-append, length-drop, take-append-drop}
use lib.Seq.{take_at, drop_at, length-take-le}
use borrow.Author.Tests.{ltb-true, eqb-true, lt-ltb, eq-eqb}
use Rattle.laws.specs.Lists.{same}
use Rattle.laws.specs.Numbers.{dec_from, dig}
use Rattle.laws.proofs.Tests.{and_l, and_r, and_i}
use Rattle.laws.proofs.Every.{same_refl, same_eq}
use Rattle.laws.proofs.Decimal.{dig_reads, dig_writes}
use Rattle.codec.specs.Kind.{Kind, nothing, bytes, digits, ◌⊗◌, tag, kept, only}
use Rattle.codec.specs.Law.{Law}

pub nothing_law : Law nothing
nothing_law = record { reads = λ b l h. (refl, sym (nil b l)); writes = λ v h. (refl, refl, refl) }
  where
    nil : (b : List ℕ) → length b ≡ 0 → b ≡ []
    nil [] l = refl
    nil (x ∷ xs) l = absurd (omega arith)

pub bytes_law : (w : ℕ) → Law (bytes w)
bytes_law w = record { reads = λ b l h. (eq-eqb (length b) w l, refl); writes = λ v h. (eqb-true (length v) w h, refl, refl) }

pub digits_law : (w : ℕ) → Law (digits w)
digits_law w = record {
  reads = λ b l h. let r : (dec_from 0 b < 10 ^ w) × (dig w (dec_from 0 b) ≡ b) = dig_reads w b l h in (lt-ltb (dec_from 0 b) (10 ^ w) r.0, r.1);
  writes = λ v h. dig_writes w v (ltb-true v (10 ^ w) h);
}

pub pair_law : {A B : Type 0} (j : Kind A) (k : Kind B) → Law j → Law k → Law (j ⊗ k)
pair_law {A} {B} j k lj lk = record { reads = rd; writes = wr }
  where
    rd : (b : List ℕ) → length b ≡ j.width + k.width → j.allowed (take j.width b) && k.allowed (drop j.width b) ≡ true
        → (j.ok (j.value (take j.width b)) && k.ok (k.value (drop j.width b)) ≡ true)
        × (j.put (j.value (take j.width b)) ++ k.put (k.value (drop j.width b)) ≡ b)
    rd b l h =
        let x : List ℕ = take j.width b in
        let y : List ℕ = drop j.width b in
        let rj = lj.reads x (length-take-le j.width b (omega arith)) (and_l (j.allowed x) (k.allowed y) h) in
        let rk = lk.reads y (length-drop j.width b ∙ omega arith) (and_r (j.allowed x) (k.allowed y) h) in
        (and_i (j.ok (j.value x)) (k.ok (k.value y)) rj.0 rk.0, simp (rj.1, rk.1) (take-append-drop j.width b))

    wr : (v : A × B) → j.ok v.0 && k.ok v.1 ≡ true
        → (length (j.put v.0 ++ k.put v.1) ≡ j.width + k.width)
        × (j.allowed (take j.width (j.put v.0 ++ k.put v.1)) && k.allowed (drop j.width (j.put v.0 ++ k.put v.1)) ≡ true)
        × (◌≡◌ {A = A × B} (j.value (take j.width (j.put v.0 ++ k.put v.1)), k.value (drop j.width (j.put v.0 ++ k.put v.1))) v)
    wr v h =
        let x : List ℕ = j.put v.0 in
        let y : List ℕ = k.put v.1 in
        let wj = lj.writes v.0 (and_l (j.ok v.0) (k.ok v.1) h) in
        let wk = lk.writes v.1 (and_r (j.ok v.0) (k.ok v.1) h) in
        let ex : take j.width (x ++ y) ≡ x = take_at x y j.width wj.0 in
        let ey : drop j.width (x ++ y) ≡ y = drop_at x y j.width wj.0 in (
          length-append x y ∙ omega (arith, wj.0, wk.0),
          simp (ex, ey, wj.1, wk.1),
          simp (ex, ey, wj.2, wk.2),
        )

pub tag_law : {A : Type 0} (w : List ℕ) (k : Kind A) → Law k → Law (tag w k)
tag_law {A} w k l = record { reads = rd; writes = wr }
  where
    rd : (b : List ℕ) → length b ≡ length w + k.width → same (take (length w) b) w && k.allowed (drop (length w) b) ≡ true
        → (k.ok (k.value (drop (length w) b)) ≡ true) × (w ++ k.put (k.value (drop (length w) b)) ≡ b)
    rd b e h =
        let y : List ℕ = drop (length w) b in
        let ew : take (length w) b ≡ w = same_eq (take (length w) b) w (and_l (same (take (length w) b) w) (k.allowed y) h) in
        let r = l.reads y (length-drop (length w) b ∙ omega arith) (and_r (same (take (length w) b) w) (k.allowed y) h) in
        (r.0, (λ i. sym ew i ++ r.1 i) ∙ take-append-drop (length w) b)

    wr : (v : A) → k.ok v ≡ true
        → (length (w ++ k.put v) ≡ length w + k.width)
        × (same (take (length w) (w ++ k.put v)) w && k.allowed (drop (length w) (w ++ k.put v)) ≡ true)
        × (k.value (drop (length w) (w ++ k.put v)) ≡ v)
    wr v h =
        let y : List ℕ = k.put v in
        let o = l.writes v h in
        let ex : take (length w) (w ++ y) ≡ w = take_at w y (length w) refl in
        let ey : drop (length w) (w ++ y) ≡ y = drop_at w y (length w) refl in (
          length-append w y ∙ omega (arith, o.0),
          simp (ex, ey, same_refl w, o.1),
          simp (ey, o.2),
        )

pub kept_law : {A B : Type 0} (p : A → Bool) (to : A → B) (from : B → A) (k : Kind A) → Law k
    → ((a : A) → p a ≡ true → from (to a) ≡ a) → ((v : B) → p (from v) ≡ true → to (from v) ≡ v) → Law (kept p to from k)
kept_law {A} {B} p to from k l back forth = record { reads = rd; writes = wr }
  where
    rd : (b : List ℕ) → length b ≡ k.width → k.allowed b && p (k.value b) ≡ true
        → (k.ok (from (to (k.value b))) && p (from (to (k.value b))) ≡ true) × (k.put (from (to (k.value b))) ≡ b)
    rd b e h =
        let hp : p (k.value b) ≡ true = and_r (k.allowed b) (p (k.value b)) h in
        let r = l.reads b e (and_l (k.allowed b) (p (k.value b)) h) in
        let f : from (to (k.value b)) ≡ k.value b = back (k.value b) hp in
        (simp (f, r.0, hp), simp (f, r.1))

    wr : (v : B) → k.ok (from v) && p (from v) ≡ true
        → (length (k.put (from v)) ≡ k.width) × (k.allowed (k.put (from v)) && p (k.value (k.put (from v))) ≡ true)
        × (to (k.value (k.put (from v))) ≡ v)
    wr v h =
        let w = l.writes (from v) (and_l (k.ok (from v)) (p (from v)) h) in
        let hp : p (from v) ≡ true = and_r (k.ok (from v)) (p (from v)) h in
        (w.0, simp (w.1, w.2, hp), ap to w.2 ∙ forth v hp)

pub only_law : {A : Type 0} (p : A → Bool) (k : Kind A) → Law k → Law (only p k)
only_law p k l = kept_law p (λ a. a) (λ a. a) k l (λ a h. refl) (λ v h. refl)
