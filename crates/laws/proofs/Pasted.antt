-- Text is pasted over lent space piece by piece: what is left to write, pasted at its index, gives the whole.
use Prim.Native.Nat.{ℕ, suc, ◌+◌, ◌≤◌, ◌<◌}
use mathlib.Core.Path.{◌≡◌, refl, sym, ap, ◌∙◌}
use mathlib.Core.List.{List, [], ◌∷◌, ◌++◌, append_assoc}
use native.Mathlib.Nat.{add-zero}
use native.Mathlib.Numerals.{add-one}
use native.Mathlib.Omega.{arith}
use lib.ListN.{length, take, drop, set, length-append, length-drop, take-append-drop, length-set}
use lib.Seq.{length-take-le, take_at, drop_at, drop-drop, set_split, take-set-le, drop-set-lt, drop-cons, get_or-set_same}
use borrow.Rule.Slice.PartMut.{put_mid}
use Rattle.laws.specs.Space.{pasted}

pub pasted_nil : (d : List ℕ) (at : ℕ) → pasted d at [] ≡ d
unfolding pasted
pasted_nil d at = rw add-zero (take-append-drop at d)

module _ (d : List ℕ) (at : ℕ) where
  pub pasted_length : (s : List ℕ) → at + length s ≤ length d → length (pasted d at s) ≡ length d
  unfolding pasted
  pasted_length s h =
      length-append (take at d) (s ++ drop (at + length s) d)
      ∙ simp (length-append, length-drop, length-take-le at d (omega arith)) (omega arith)

  pub pasted_one : (x : ℕ) → at < length d → set d at x ≡ pasted d at (x ∷ [])
  unfolding pasted
  pasted_one x h = set_split d at x h ∙ rw add-one

  pub pasted_two : (s r : List ℕ) → at + length s + length r ≤ length d → pasted (pasted d at s) (at + length s) r ≡ pasted d at (s ++ r)
  unfolding pasted
  pasted_two s r h =
      let p : List ℕ = take at d ++ s in
      let lp : length p ≡ at + length s = length-append (take at d) s ∙ omega (arith, length-take-le at d (omega arith)) in
      let e : take at d ++ (s ++ drop (at + length s) d) ≡ p ++ drop (at + length s) d = sym (append_assoc (take at d) s (drop (at + length s) d)) in
      let t : take (at + length s) (take at d ++ (s ++ drop (at + length s) d)) ≡ p =
      ap (take (at + length s)) e ∙ take_at p (drop (at + length s) d) (at + length s) lp in
      let q : drop (at + length s + length r) (take at d ++ (s ++ drop (at + length s) d)) ≡ drop (at + length s + length r) d =
      sym (drop-drop (length r) (at + length s) (take at d ++ (s ++ drop (at + length s) d)))
      ∙ ap (drop (length r)) (ap (drop (at + length s)) e ∙ drop_at p (drop (at + length s) d) (at + length s) lp)
      ∙ drop-drop (length r) (at + length s) d in
      let n : at + length (s ++ r) ≡ at + length s + length r = simp length-append (omega arith) in
      simp (t, q, n, append_assoc)

  -- the last one first
  pub pasted_snoc : (l : List ℕ) (x : ℕ) → at + length l < length d → pasted (set d (at + length l) x) at l ≡ pasted d at (l ++ (x ∷ []))
  unfolding pasted
  pasted_snoc l x h =
      let i : ℕ = at + length l in
      let t : take at (set d i x) ≡ take at d = take-set-le at d i x (omega arith) in
      let q : drop i (set d i x) ≡ x ∷ drop (suc i) d =
      drop-cons (set d i x) i 0 (omega (arith, length-set d i x))
      ∙ simp (get_or-set_same d i x 0 h, drop-set-lt (suc i) d i x (omega arith)) in
      let n : at + length (l ++ (x ∷ [])) ≡ suc i = simp length-append (omega arith) in
      simp (t, q, n, append_assoc)

-- s is left to write at index at of d, which then is the whole; d₀ is what there was
pub record Todo (d₀ whole d : List ℕ) (at : ℕ) (s : List ℕ) : Type 0 where
  pub len : length d ≡ length d₀
  pub room : at + length s ≤ length d
  pub same : pasted d at s ≡ whole

pub todo : (d : List ℕ) (at : ℕ) (s : List ℕ) → at + length s ≤ length d → Todo d (pasted d at s) d at s
todo d at s h = record { len = refl; room = h; same = refl }

-- a part that was written over, as a goal shows it
pub pasted_mid : (d : List ℕ) (at k : ℕ) (s r : List ℕ) → k ≡ length s → r ≡ s → put_mid at k d r ≡ pasted d at s
unfolding pasted
pasted_mid d at k s r n e = rw (n, e) (ap (λ (l : List ℕ). take at d ++ (s ++ l)) (drop-drop (length s) at d))

module _ (d₀ whole d : List ℕ) (at : ℕ) (s : List ℕ) (t : Todo d₀ whole d at s) where
  pub step : (x r d' : List ℕ) (at' : ℕ) → s ≡ x ++ r → d' ≡ pasted d at x → at' ≡ at + length x → Todo d₀ whole d' at' r
  step x r d' at' e p i =
      let l : length s ≡ length x + length r = ap length e ∙ length-append x r in
      let h : at + length x + length r ≤ length d = omega (arith, t.room) in
      let k : length d' ≡ length d = ap length p ∙ pasted_length d at x (omega arith) in
      record {
        len = k ∙ t.len;
        room = omega arith;
        same = (λ q. pasted (p q) (i q) r) ∙ pasted_two d at x r h ∙ ap (pasted d at) (sym e) ∙ t.same;
      }

pub done : (d₀ whole d : List ℕ) (at : ℕ) → Todo d₀ whole d at [] → d ≡ whole
done d₀ whole d at t = sym (pasted_nil d at) ∙ t.same

-- ---- one after the other

pub glue : (d d1 d2 : List ℕ) (at at1 : ℕ) (x y : List ℕ) → at + length x + length y ≤ length d → d1 ≡ pasted d at x → at1 ≡ at + length x
    → d2 ≡ pasted d1 at1 y → d2 ≡ pasted d at (x ++ y)
glue d d1 d2 at at1 x y h p i q = q ∙ (λ e. pasted (p e) (i e) y) ∙ pasted_two d at x y h

-- ---- a part of the space, written over as a whole: as by `copy_from_slice`

pub pasted_part : (d : List ℕ) (at k : ℕ) (s t : List ℕ) → s ≡ t → length t ≡ k → put_mid at k d s ≡ pasted d at t
unfolding pasted
pasted_part d at k s t e l = rw (e, l, ← drop-drop k at d)
