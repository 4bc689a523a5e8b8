-- Each way out of the vote over plain values: which row of the order holds there, and what is left in the space lent.
use mathlib.Core.Path.{◌≡◌, refl, sym, ap, ◌∙◌}
use mathlib.Core.Bool.{Bool, true, false, cond, not}
use mathlib.Core.List.{List}
use Prim.Native.Nat.{ℕ, zero, suc, ◌+◌, ◌-◌, ◌≤◌, ◌<◌}
use native.Mathlib.Omega.{arith}
use borrow.Author.Tests.{ne_eqb, lt-ltb, le-ltb, ltb-true, ltb-false}
use lib.Dec.{eqb, ltb}
use lib.ListN.{length, take, drop, get_or}
use Rattle.laws.specs.Order.{Said, granted, refused_at, choose, in_order}
use Rattle.laws.specs.Space.{pasted, leaves}
use Rattle.laws.proofs.Tables.{length_table}
use Rattle.laws.proofs.Parts.{length_part, part_cons}
use Rattle.laws.proofs.Pasted.{glue}
use Rattle.std.specs.Prelude.{Result, Ok, Err, Some, None, position}
use Rattle.std.specs.List.{zip, position_or_len}
use Rattle.std.proofs.lemmas.Slice.Zip.{length-zip}
use Rattle.laws.specs.Lists.{lowest}
use Rattle.laws.proofs.Clash.{clash}
use Rattle.refusals.specs.Refusals.{said}
use Rattle.refusals.specs.declared.Refusal.{Refusal}
use Rattle.refusals.specs.declared.Refusal.TheVariants.{LongBurst, ClashAt}
use Rattle.burst.specs.Strip.{lead, stripped}
use Rattle.burst.specs.Vote.{voted_length, clash_at, voted_text, too_long, vote_rows, vote_says, vote_leaves}
use Rattle.burst.specs.Promise.{VotePromise}
use Rattle.burst.specs.Steps.{differs, first_difference, voted_bytes, stretch, blended, Agrees, Decides}
use Rattle.burst.proofs.Arranged.{Arranged, clash_is, text_is}

-- ---- what the search finds, from where only two reach

abbrev differ : ℕ × ℕ → Bool
differ x = not (eqb x.0 x.1)

sought : (p q : List ℕ) (m w : ℕ) → m + w ≤ length p → m + w ≤ length q
    → m + position_or_len differ (zip (take w (drop m p)) (take w (drop m q))) ≡ lowest (differs p q) m w
unfolding lowest
sought p q m zero h g = omega arith
sought p q m (suc w) h g =
    rw (part_cons p m w (omega arith), part_cons q m w (omega arith))
    (by (eqb (get_or p m 0) (get_or q m 0)) (sought p q (m + 1) w (omega arith) (omega arith)))
  where
    by : (b : Bool) → m + 1 + position_or_len differ (zip (take w (drop (m + 1) p)) (take w (drop (m + 1) q))) ≡ lowest (differs p q) (m + 1) w
        → m + cond (not (not b)) (1 + position_or_len differ (zip (take w (drop (m + 1) p)) (take w (drop (m + 1) q)))) 0
        ≡ choose (not b) m (lowest (differs p q) (m + 1) w)
    by true e = omega arith
    by false e = omega arith

-- of a search that found an index, and of one that found none
some_at : (b : Bool) (j k : ℕ) → Some k ≡ cond b (Some j) None → (b ≡ true) × (k ≡ j)
some_at true j k e = (refl, cc)
some_at false j k e = clash cc

none_at : (b : Bool) (j : ℕ) → None ≡ cond b (Some j) None → b ≡ false
none_at true j e = clash cc
none_at false j e = refl

module _ (p q : List ℕ) (m n : ℕ) (h : m ≤ n) (r : n ≤ length p) (t : n ≤ length q) where
  long : length (zip (stretch p m n) (stretch q m n)) ≡ n - m
  long =
      length-zip (stretch p m n) (stretch q m n)
      ∙ omega (arith, length_part p m (n - m) (omega arith), length_part q m (n - m) (omega arith))

  pub found : (k : ℕ) → Some k ≡ position differ (zip (stretch p m n) (stretch q m n)) → (m + k < n) × (m + k ≡ first_difference p q m n)
  found k e =
      let z = zip (stretch p m n) (stretch q m n) in
      let f = some_at (ltb (position_or_len differ z) (length z)) (position_or_len differ z) k e in
      let b : position_or_len differ z < length z = ltb-true _ _ f.0 in
      (omega (arith, f.1, long), ap (λ (j : ℕ). m + j) f.1 ∙ sought p q m (n - m) (omega arith) (omega arith))

  pub not_found : None ≡ position differ (zip (stretch p m n) (stretch q m n)) → n ≤ first_difference p q m n
  not_found e =
      let z = zip (stretch p m n) (stretch q m n) in
      let b : length z ≤ position_or_len differ z = ltb-false _ _ (none_at (ltb (position_or_len differ z) (length z)) (position_or_len differ z) e) in
      omega (arith, long, sought p q m (n - m) (omega arith) (omega arith))

-- ---- two bursts searched, three written

module _ (s p q : List ℕ) (n : ℕ) (out : List ℕ) (k : ℕ) (e : k ≡ first_difference p q (length s) n) where
  pub agree_3 : k < n → Agrees s p q n out (Err (ClashAt k)) out
  agree_3 h = record { says = simp (← e, lt-ltb k n h); space = refl }

  pub agree_text : (d d' : List ℕ) → n ≤ k → length s ≤ n → n ≤ length p → n ≤ length out
      → d ≡ pasted out 0 (voted_bytes s p q (length s)) → d' ≡ pasted d (length s) (stretch p (length s) n) → Agrees s p q n out (Ok n) d'
  agree_text d d' h f g r x y =
      let l : length (voted_bytes s p q (length s)) ≡ length s = length_table (length s) _ in
      let t : length (stretch p (length s) n) ≡ n - length s = length_part p (length s) (n - length s) (omega arith) in
      record {
        says = simp (← e, le-ltb k n h);
        space = glue out d d' 0 (length s) (voted_bytes s p q (length s)) (stretch p (length s) n) (omega arith) x (omega arith) y;
      }

-- ---- from the two that reach to the vote on three

same_leaves : (f g : ℕ → List ℕ → List ℕ) (b : Bool) (k n : ℕ) (x : Said ℕ) (out : List ℕ) → x ≡ choose b (refused_at 3 k) (granted n)
    → f n out ≡ g n out → leaves f x out ≡ leaves g x out
same_leaves f g true k n x out e h = rw e
same_leaves f g false k n x out e h = rw e h

module _ (a b c s p q : List ℕ) (n : ℕ) (out : List ℕ) (r : Result ℕ Refusal) (left : List ℕ) where
  pub decides : Agrees s p q n out r left → Arranged a b c s p q n → n ≡ voted_length a b c → 0 < n → n ≤ 252 → n ≤ length out → Decides a b c out r left
  decides g w e pos most room =
      let k : ℕ = first_difference p q (length s) n in
      let at : clash_at a b c n ≡ k = clash_is a b c s p q n w in
      record {
        says =
            g.says
            ∙ sym
            (ap (λ (v : ℕ). in_order (vote_rows false v (clash_at a b c v) (length out)) (granted v)) (sym e)
            ∙ simp (at, ne_eqb n 0 (omega arith), le-ltb 252 n most, le-ltb (length out) n room));
        space =
            g.space
            ∙ same_leaves (λ v d. pasted d 0 (blended s p q v)) (λ v d. pasted d 0 (voted_text a b c v)) (ltb k n) k n (said r) out g.says
            (ap (pasted out 0) (sym (text_is a b c s p q n w)));
      }

-- ---- the whole vote

module _ (a b c out : List ℕ) (i j k : ℕ) (p : i ≡ lead a) (q : j ≡ lead b) (r : k ≡ lead c) where
  pub vote_1 : too_long a b c ≡ true → VotePromise a b c out (record { voted = Err LongBurst; first = i; second = j; third = k }) out
  unfolding vote_says vote_leaves
  vote_1 h = record { says = rw h; first = p; second = q; third = r; space = rw h }

  pub vote_on : (v : Result ℕ Refusal) (left : List ℕ) → too_long a b c ≡ false → Decides (stripped a) (stripped b) (stripped c) out v left
      → VotePromise a b c out (record { voted = v; first = i; second = j; third = k }) left
  unfolding vote_says vote_leaves
  vote_on v left h d = record { says = rw h d.says; first = p; second = q; third = r; space = rw (h, ← d.says) d.space }
