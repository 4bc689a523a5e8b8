-- The law of each codec: what is read is what is written, each way, once for each way of putting them together.
use Prim.Native.Nat.{ℕ, zero, suc, ◌+◌, ◌*◌, ◌≤◌, ◌<◌}
use mathlib.Core.Path.{◌≡◌, refl, sym, ap, ◌∙◌}
use mathlib.Core.List.{List, [], ◌∷◌, ◌++◌, append_assoc}
use mathlib.Core.Bool.{Bool, true, false, ◌&&◌, ◌||◌, or-true}
use native.Mathlib.Nat.{mul-suc}
use native.Mathlib.Numerals.{add-one}
use native.Mathlib.Omega.{arith}
use lib.ListN.{length, get_or, take, drop, length-append}
use lib.Seq.{take_at, drop_at, get_or_at, length-take-le, split_at, append_snoc}
use lib.Dec.{ltb, eqb}
use borrow.Author.Tests.{ltb-true, eqb-true, lt-ltb, eq-eqb}
use Rattle.laws.specs.Order.{choose, Quiet}
use Rattle.laws.specs.Lists.{every}
use Rattle.laws.specs.Numbers.{within}
use Rattle.laws.proofs.Tests.{impossible, and_l, and_r, and_i, within_lo, within_hi, within_i}
use Rattle.laws.proofs.Order.{quiet_groups}
use Rattle.laws.proofs.Quiet.{quiet_left, quiet_right, quiet_one, one_quiet}
use Rattle.codec.specs.Kind.{Kind}
use Rattle.codec.specs.Codec.{Out, got, no, and_then, fits, step, is, either, Codec, field, unless, ◌▷◌, list_of, get_list, text_list}
use Rattle.codec.specs.Law.{Law, Lawful}
use Rattle.codec.proofs.Apart.{got_no}

-- ---- a step

pub record Stepped {A : Type 0} (k : Kind A) (mark : ℕ → Bool) (s : List ℕ) (i : ℕ) (v : A) (r : List ℕ) (j : ℕ) : Type 0 where
  pub long : k.width < length s
  pub front : length (take k.width s) ≡ k.width
  pub fine : k.allowed (take k.width s) ≡ true
  pub marked : mark (get_or s k.width 0) ≡ true
  pub means : k.value (take k.width s) ≡ v
  pub cut : s ≡ take k.width s ++ (get_or s k.width 0 ∷ r)
  pub next : j ≡ i + (k.width + 1)

module _ {A : Type 0} (n : ℕ) (k : Kind A) (mark : ℕ → Bool) where
  pub step_got : (s : List ℕ) (i : ℕ) (v : A) (r : List ℕ) (j : ℕ) → step n k mark s i ≡ got v r j → Stepped k mark s i v r j
  unfolding fits
  step_got s i v r j e = go (ltb w (length s) && rest) refl e
    where
      w : ℕ
      w = k.width

      rest : Bool
      rest = k.allowed (take w s) && mark (get_or s w 0)

      go : (b : Bool) → ltb w (length s) && rest ≡ b → choose b (got (k.value (take w s)) (drop (w + 1) s) (i + (w + 1))) (no n i) ≡ got v r j
          → Stepped k mark s i v r j
      go false h e = got_no (sym e)
      go true h e =
          let lt : w < length s = ltb-true w (length s) (and_l (ltb w (length s)) rest h) in
          let hr : rest ≡ true = and_r (ltb w (length s)) rest h in
          let er : drop (w + 1) s ≡ r = cc in
          record {
            long = lt;
            front = length-take-le w s (omega arith);
            fine = and_l (k.allowed (take w s)) (mark (get_or s w 0)) hr;
            marked = and_r (k.allowed (take w s)) (mark (get_or s w 0)) hr;
            means = cc;
            cut = split_at s w 0 lt ∙ rw (← er, add-one);
            next = cc;
          }

  pub step_at : (p : List ℕ) (x : ℕ) (r : List ℕ) (i : ℕ) → length p ≡ k.width → k.allowed p ≡ true → mark x ≡ true
      → step n k mark (p ++ (x ∷ r)) i ≡ got (k.value p) r (i + (k.width + 1))
  unfolding fits
  step_at p x r i l h m =
      let lt : ltb k.width (length (p ++ (x ∷ r))) ≡ true = lt-ltb k.width (length (p ++ (x ∷ r))) (omega (arith, length-append p (x ∷ r))) in
      let et : take k.width (p ++ (x ∷ r)) ≡ p = take_at p (x ∷ r) k.width l in
      let eg : get_or (p ++ (x ∷ r)) k.width 0 ≡ x = get_or_at p x r 0 k.width l in
      let ed : drop (k.width + 1) (p ++ (x ∷ r)) ≡ r =
      ap (drop (k.width + 1)) (sym (append_snoc p x r)) ∙ drop_at (p ++ (x ∷ [])) r (k.width + 1) (length-append p (x ∷ []) ∙ omega arith) in
      simp (lt, et, eg, ed, h, m)

-- ---- a codec

pub field_law : {A : Type 0} (n : ℕ) (k : Kind A) (m : ℕ) → Law k → Lawful (field n k m)
field_law {A} n k m l = record { reads = rd; writes = wr }
  where
    rd : (s : List ℕ) (i : ℕ) (v : A) (r : List ℕ) (j : ℕ) → step n k (is m) s i ≡ got v r j
        → Quiet (unless n (k.ok v)) × (s ≡ (k.put v ++ (m ∷ [])) ++ r) × (j ≡ i + length (k.put v ++ (m ∷ [])))
    rd s i v r j e =
        let t : Stepped k (is m) s i v r j = step_got n k (is m) s i v r j e in
        let q = l.reads (take k.width s) t.front t.fine in
        let ok : k.ok v ≡ true = sym (ap k.ok t.means) ∙ q.0 in
        let ep : k.put v ≡ take k.width s = sym (ap k.put t.means) ∙ q.1 in
        let em : get_or s k.width 0 ≡ m = eqb-true (get_or s k.width 0) m t.marked in (
          quiet_one ok,
          t.cut ∙ simp (append_assoc, ep, em),
          t.next ∙ simp (ep, length-append, t.front),
        )

    wr : (v : A) (r : List ℕ) (i : ℕ) → Quiet (unless n (k.ok v))
        → step n k (is m) ((k.put v ++ (m ∷ [])) ++ r) i ≡ got v r (i + length (k.put v ++ (m ∷ [])))
    wr v r i e =
        let w = l.writes v (one_quiet e) in
        let el : length (k.put v ++ (m ∷ [])) ≡ k.width + 1 = length-append (k.put v) (m ∷ []) ∙ omega (arith, w.0) in
        ap (λ (s : List ℕ). step n k (is m) s i) (append_snoc (k.put v) m r)
        ∙ step_at n k (is m) (k.put v) m r i w.0 w.1 (eq-eqb m m refl)
        ∙ simp (w.2, el)

pub then_law : {A B : Type 0} (c : Codec A) (d : Codec B) → Lawful c → Lawful d → Lawful (c ▷ d)
then_law {A} {B} c d lc ld = record { reads = rd; writes = wr }
  where
    more : A → List ℕ → ℕ → Out (A × B)
    more a r j = and_then (d.get r j) (λ b q l. got (a, b) q l)

    rd : (s : List ℕ) (i : ℕ) (v : A × B) (r : List ℕ) (j : ℕ) → and_then (c.get s i) (λ a r j. and_then (d.get r j) (λ b q l. got (a, b) q l)) ≡ got v r j
        → Quiet (c.faults v.0 ++ d.faults v.1) × (s ≡ (c.text v.0 ++ d.text v.1) ++ r) × (j ≡ i + length (c.text v.0 ++ d.text v.1))
    rd s i v r j e = go (c.get s i) refl e
      where
        end : (a : A) (q : List ℕ) (l : ℕ) → c.get s i ≡ got a q l → (o : Out B) → d.get q l ≡ o → and_then o (λ b q l. got (a, b) q l) ≡ got v r j
            → Quiet (c.faults v.0 ++ d.faults v.1) × (s ≡ (c.text v.0 ++ d.text v.1) ++ r) × (j ≡ i + length (c.text v.0 ++ d.text v.1))
        end a q l h (no n m) k e = got_no (sym e)
        end a q l h (got b q' l') k e =
            let ev : ◌≡◌ {A = A × B} (a, b) v = cc in
            let ea : a ≡ v.0 = ap (λ (p : A × B). p.0) ev in
            let eb : b ≡ v.1 = ap (λ (p : A × B). p.1) ev in
            let er : q' ≡ r = cc in
            let ej : l' ≡ j = cc in
            let x = lc.reads s i a q l h in
            let y = ld.reads q l b q' l' k in (
              rw (← ea, ← eb) (quiet_groups x.0 y.0),
              x.1 ∙ simp (y.1, append_assoc, ea, eb, er),
              sym ej ∙ simp (← ea, ← eb, length-append) (omega (arith, x.2, y.2)),
            )

        go : (o : Out A) → c.get s i ≡ o → and_then o (λ a r j. and_then (d.get r j) (λ b q l. got (a, b) q l)) ≡ got v r j
            → Quiet (c.faults v.0 ++ d.faults v.1) × (s ≡ (c.text v.0 ++ d.text v.1) ++ r) × (j ≡ i + length (c.text v.0 ++ d.text v.1))
        go (no n m) h e = got_no (sym e)
        go (got a q l) h e = end a q l h (d.get q l) refl e

    wr : (v : A × B) (r : List ℕ) (i : ℕ) → Quiet (c.faults v.0 ++ d.faults v.1)
        → and_then (c.get ((c.text v.0 ++ d.text v.1) ++ r) i) (λ a r j. and_then (d.get r j) (λ b q l. got (a, b) q l))
        ≡ got v r (i + length (c.text v.0 ++ d.text v.1))
    wr v r i e =
        let x = lc.writes v.0 (d.text v.1 ++ r) i (quiet_left (c.faults v.0) (d.faults v.1) e) in
        let y = ld.writes v.1 r (i + length (c.text v.0)) (quiet_right (c.faults v.0) (d.faults v.1) e) in
        let n : i + length (c.text v.0) + length (d.text v.1) ≡ i + length (c.text v.0 ++ d.text v.1) = simp length-append (omega arith) in
        simp (append_assoc, x, y, n)

-- ---- a list of fields

module _ {A : Type 0} (n : ℕ) (k : Kind A) (law : Law k) (a e : ℕ) (apart : eqb a e ≡ false) where
  pub Listed : ℕ → List A → Type 0
  Listed m ps = (1 ≤ length ps) × (length ps ≤ m) × (every k.ok ps ≡ true)

  abbrev mark : ℕ → Bool
  mark = either a e

  mark_a : (x : ℕ) → mark x ≡ true → eqb x e ≡ false → x ≡ a
  mark_a x h f = go (eqb x a) refl (eqb x e) f h
    where
      go : (b : Bool) → eqb x a ≡ b → (d : Bool) → d ≡ false → b || d ≡ true → x ≡ a
      go true q d f h = eqb-true x a q
      go false q d f h = impossible (sym f ∙ h)

  abbrev Read : ℕ → List ℕ → ℕ → List A → List ℕ → ℕ → Type 0
  Read m s i ps r j = Listed m ps × (s ≡ text_list k a e ps ++ r) × (j ≡ i + length (text_list k a e ps))

  -- the last
  last : (m : ℕ) (s : List ℕ) (i : ℕ) (p : A) (q : List ℕ) (l : ℕ) → Stepped k mark s i p q l → eqb (get_or s k.width 0) e ≡ true
      → Read (suc m) s i (p ∷ []) q l
  unfolding Listed
  last m s i p q l t h =
      let x = law.reads (take k.width s) t.front t.fine in
      let ok : k.ok p ≡ true = sym (ap k.ok t.means) ∙ x.0 in
      let ep : k.put p ≡ take k.width s = sym (ap k.put t.means) ∙ x.1 in
      let em : get_or s k.width 0 ≡ e = eqb-true (get_or s k.width 0) e h in (
        (omega arith, omega arith, simp ok),
        t.cut ∙ simp (append_assoc, ep, em),
        t.next ∙ simp (ep, length-append, t.front),
      )

  -- one more in front
  front : (m : ℕ) (s : List ℕ) (i : ℕ) (p : A) (q : List ℕ) (l : ℕ) → Stepped k mark s i p q l → eqb (get_or s k.width 0) e ≡ false
      → (ps : List A) (r : List ℕ) (j : ℕ) → Read m q l ps r j → Read (suc m) s i (p ∷ ps) r j
  unfolding Listed
  front m s i p q l t h [] r j y = absurd (omega (arith, y.0.0))
  front m s i p q l t h (p' ∷ ps) r j y =
      let x = law.reads (take k.width s) t.front t.fine in
      let ok : k.ok p ≡ true = sym (ap k.ok t.means) ∙ x.0 in
      let ep : k.put p ≡ take k.width s = sym (ap k.put t.means) ∙ x.1 in
      let em : get_or s k.width 0 ≡ a = mark_a (get_or s k.width 0) t.marked h in (
        (omega arith, omega (arith, y.0.1), simp (ok, y.0.2)),
        t.cut ∙ simp (append_assoc, ep, em, y.1),
        simp (ep, length-append) (omega (arith, t.next, t.front, y.2)),
      )

  get_reads : (m : ℕ) (s : List ℕ) (i : ℕ) (ps : List A) (r : List ℕ) (j : ℕ) → get_list n k a e m s i ≡ got ps r j → Read m s i ps r j
  get_reads zero s i ps r j h = got_no (sym h)
  get_reads (suc m) s i ps r j h = go (step n k mark s i) refl h (λ q l ps r j. get_reads m q l ps r j)
    where
      Tail : A → List ℕ → ℕ → Out (List A)
      Tail p q l = and_then (get_list n k a e m q l) (λ ps q l. got (p ∷ ps) q l)

      deep : (p : A) (q : List ℕ) (l : ℕ) → Stepped k mark s i p q l → eqb (get_or s k.width 0) e ≡ false
          → (o : Out (List A)) → get_list n k a e m q l ≡ o → and_then o (λ ps q l. got (p ∷ ps) q l) ≡ got ps r j
          → ((q : List ℕ) (l : ℕ) (ps : List A) (r : List ℕ) (j : ℕ) → get_list n k a e m q l ≡ got ps r j → Read m q l ps r j)
          → Read (suc m) s i ps r j
      deep p q l t f (no x y) z h ih = got_no (sym h)
      deep p q l t f (got ps' r' j') z h ih =
          let e1 : p ∷ ps' ≡ ps = cc in
          let e2 : r' ≡ r = cc in
          let e3 : j' ≡ j = cc in
          rw (← e1, ← e2, ← e3) (front m s i p q l t f ps' r' j' (ih q l ps' r' j' z))

      case : (p : A) (q : List ℕ) (l : ℕ) → Stepped k mark s i p q l → (b : Bool) → eqb (get_or s k.width 0) e ≡ b
          → choose b (got (p ∷ []) q l) (Tail p q l) ≡ got ps r j
          → ((q : List ℕ) (l : ℕ) (ps : List A) (r : List ℕ) (j : ℕ) → get_list n k a e m q l ≡ got ps r j → Read m q l ps r j)
          → Read (suc m) s i ps r j
      case p q l t true f h ih =
          let e1 : p ∷ [] ≡ ps = cc in
          let e2 : q ≡ r = cc in
          let e3 : l ≡ j = cc in
          rw (← e1, ← e2, ← e3) (last m s i p q l t f)
      case p q l t false f h ih = deep p q l t f (get_list n k a e m q l) refl h ih

      go : (o : Out A) → step n k mark s i ≡ o
          → and_then o (λ p r j. choose (eqb (get_or s k.width 0) e) (got (p ∷ []) r j) (and_then (get_list n k a e m r j) (λ ps q l. got (p ∷ ps) q l)))
          ≡ got ps r j
          → ((q : List ℕ) (l : ℕ) (ps : List A) (r : List ℕ) (j : ℕ) → get_list n k a e m q l ≡ got ps r j → Read m q l ps r j)
          → Read (suc m) s i ps r j
      go (no x y) z h ih = got_no (sym h)
      go (got p q l) z h ih = case p q l (step_got n k mark s i p q l z) (eqb (get_or s k.width 0) e) refl h ih

  get_writes : (m : ℕ) (ps : List A) (r : List ℕ) (i : ℕ) → Listed m ps
      → get_list n k a e m (text_list k a e ps ++ r) i ≡ got ps r (i + length (text_list k a e ps))
  unfolding Listed
  get_writes zero [] r i h = absurd (omega (arith, h.0))
  get_writes zero (p ∷ ps) r i h = absurd (omega (arith, h.1))
  get_writes (suc m) [] r i h = absurd (omega (arith, h.0))
  get_writes (suc m) (p ∷ []) r i h =
      let w = law.writes p (and_l (k.ok p) true h.2) in
      let mk : mark e ≡ true = simp (eq-eqb e e refl) (or-true (eqb e a)) in
      let st = step_at n k mark (k.put p) e r i w.0 w.1 mk in
      let eg : get_or (k.put p ++ (e ∷ r)) k.width 0 ≡ e = get_or_at (k.put p) e r 0 k.width w.0 in
      let el : length (k.put p ++ (e ∷ [])) ≡ k.width + 1 = length-append (k.put p) (e ∷ []) ∙ omega (arith, w.0) in
      rw (append_assoc, st) (simp (eg, eq-eqb e e refl, w.2, el))
  get_writes (suc m) (p ∷ (p' ∷ ps)) r i h =
      let w = law.writes p (and_l (k.ok p) (every k.ok (p' ∷ ps)) h.2) in
      let x : List ℕ = text_list k a e (p' ∷ ps) in
      let mk : mark a ≡ true = simp (eq-eqb a a refl) in
      let st = step_at n k mark (k.put p) a (x ++ r) i w.0 w.1 mk in
      let eg : get_or (k.put p ++ (a ∷ (x ++ r))) k.width 0 ≡ a = get_or_at (k.put p) a (x ++ r) 0 k.width w.0 in
      let el : length (k.put p ++ (a ∷ x)) ≡ k.width + 1 + length x = length-append (k.put p) (a ∷ x) ∙ omega (arith, w.0) in
      let ih = get_writes m (p' ∷ ps) r (i + (k.width + 1)) (omega arith, omega (arith, h.1), and_r (k.ok p) (every k.ok (p' ∷ ps)) h.2) in
      let en : i + (k.width + 1) + length x ≡ i + (k.width + 1 + length x) = omega arith in
      rw (append_assoc, st) (simp (eg, apart, w.2, ih, el, en))

  pub list_law : (m : ℕ) → Lawful (list_of m n k a e)
  unfolding Listed
  list_law m = record {
    reads = λ s i ps r j h.
        let x = get_reads m s i ps r j h in
        (quiet_one (and_i (within 1 m (length ps)) (every k.ok ps) (within_i 1 m (length ps) x.0.0 x.0.1) x.0.2), x.1, x.2);
    writes = λ ps r i h.
        let o : within 1 m (length ps) && every k.ok ps ≡ true = one_quiet h in
        let wi : within 1 m (length ps) ≡ true = and_l (within 1 m (length ps)) (every k.ok ps) o in
        get_writes m ps r i (within_lo 1 m (length ps) wi, within_hi 1 m (length ps) wi, and_r (within 1 m (length ps)) (every k.ok ps) o);
  }

  pub list_length : (ps : List A) → 1 ≤ length ps → every k.ok ps ≡ true → length (text_list k a e ps) ≡ (k.width + 1) * length ps
  list_length [] l h = absurd (omega arith)
  list_length (p ∷ []) l h = length-append (k.put p) (e ∷ []) ∙ omega (arith, (law.writes p (and_l (k.ok p) true h)).0)
  list_length (p ∷ (p' ∷ ps)) l h =
      length-append (k.put p) (a ∷ text_list k a e (p' ∷ ps))
      ∙ simp
      (list_length (p' ∷ ps) (omega arith) (and_r (k.ok p) (every k.ok (p' ∷ ps)) h), (law.writes p (and_l (k.ok p) (every k.ok (p' ∷ ps)) h)).0)
      (omega (arith, mul-suc (k.width + 1) (suc (length ps))))
