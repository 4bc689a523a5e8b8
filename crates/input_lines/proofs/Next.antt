-- The next line of a text is what stands before its first byte 10: so the first of its pieces is the line that the code finds.
use Prim.Native.Nat.{ℕ, ◌+◌, ◌-◌, ◌≤◌, ◌<◌}
use mathlib.Core.Path.{◌≡◌, refl, sym, ap, ◌∙◌}
use mathlib.Core.List.{List, [], ◌∷◌}
use mathlib.Core.Bool.{Bool, true, false, ◌&&◌}
use native.Mathlib.Omega.{arith}
use lib.ListN.{length, take, drop, length-drop}
use lib.Seq.{length-take-le}
use lib.Dec.{ltb, leb}
use borrow.Author.Tests.{lt-ltb, le-leb, ltb-true, ltb-false}
use Rattle.std.specs.Prelude.{Some, None}
use Rattle.laws.specs.Order.{Said, granted, refused, choose}
use Rattle.laws.proofs.Clash.{clash}
use Rattle.input_lines.specs.Lines.{pieces, LineForm, is_line}
use Rattle.input_lines.specs.Next.{first_of, next_of}
use Rattle.input_lines.specs.Steps.{to_end, line_of}
use Rattle.input_lines.proofs.Ends.{end_le, Found}
use Rattle.input_lines.proofs.Pieces.{pieces_some, pieces_line, pieces_open}

-- by where the line ends
abbrev pub next_by : {A : Type 0} → LineForm A → ℕ → List ℕ → Said (A × ℕ)
next_by f at s =
    choose (ltb (to_end s) (length s) && is_line f (take (to_end s) s))
    (granted (f.value (take (to_end s) s), at + to_end s + 1))
    (refused 23)

first_line : {A : Type 0} (f : LineForm A) (at : ℕ) (l : List ℕ) (ls : List (List ℕ)) → 0 < length ls
    → first_of f at (l ∷ ls) ≡ choose (is_line f l) (granted (f.value l, at + length l + 1)) (refused 23)
unfolding first_of
first_line f at l [] h = absurd (omega arith)
first_line f at l (m ∷ ls) h = refl

first_open : {A : Type 0} (f : LineForm A) (at : ℕ) (l : List ℕ) → first_of f at (l ∷ []) ≡ refused 23
unfolding first_of
first_open f at l = refl

first_by : {A : Type 0} (f : LineForm A) (at : ℕ) (s : List ℕ) → first_of f at (pieces s) ≡ next_by f at s
first_by f at s = go (ltb (to_end s) (length s)) refl
  where
    l : List ℕ
    l = take (to_end s) s

    go : (b : Bool) → ltb (to_end s) (length s) ≡ b → first_of f at (pieces s) ≡ choose (b && is_line f l) (granted (f.value l, at + to_end s + 1)) (refused 23)
    go true e =
        ap (first_of f at) (pieces_line s (ltb-true (to_end s) (length s) e))
        ∙ first_line f at l (pieces (drop (to_end s + 1) s)) (pieces_some (drop (to_end s + 1) s))
        ∙ ap (λ (n : ℕ). choose (is_line f l) (granted (f.value l, at + n + 1)) (refused 23)) (length-take-le (to_end s) s (end_le s))
    go false e = ap (first_of f at) (pieces_open s (ltb-false (to_end s) (length s) e)) ∙ first_open f at s

pub next_of_is : {A : Type 0} (f : LineForm A) (t : List ℕ) (at : ℕ) → next_of f t at ≡ next_by f at (drop at t)
unfolding next_of
next_of_is f t at = first_by f at (drop at t)

-- ---- the line that the code finds, and none

-- what the line says is what the next line says
pub next_as : {A : Type 0} (f : LineForm A) (t : List ℕ) (at e : ℕ) → Found t at e
    → choose (f.allowed (take (e - at) (drop at t))) (granted (f.value (take (e - at) (drop at t)), e + 1)) (refused 23) ≡ next_of f t at
unfolding is_line
next_as f t at e w =
    let n : length (take (e - at) (drop at t)) ≡ e - at = length-take-le (e - at) (drop at t) (omega (arith, w.inside, length-drop at t)) in
    let a : ltb (e - at) (length (drop at t)) ≡ true = lt-ltb (e - at) (length (drop at t)) (omega (arith, w.inside, w.low, length-drop at t)) in
    let b : leb (length (take (e - at) (drop at t))) 300 ≡ true = le-leb (length (take (e - at) (drop at t))) 300 (omega (arith, w.short)) in
    let j : at + (e - at) + 1 ≡ e + 1 = omega (arith, w.low) in
    sym (next_of_is f t at ∙ rw w.end (simp (a, b, j)))

pub broken : {A : Type 0} (f : LineForm A) (t : List ℕ) (at : ℕ) → line_of t at ≡ None → refused 23 ≡ next_of f t at
unfolding line_of is_line
broken {A} f t at p = go (ltb n (length s)) refl (leb n 300) refl p ∙ sym (next_of_is f t at)
  where
    s : List ℕ
    s = drop at t

    n : ℕ
    n = to_end s

    go : (a : Bool) → ltb n (length s) ≡ a → (b : Bool) → leb n 300 ≡ b → choose (a && b) (Some (at + n)) None ≡ None
        → ◌≡◌ {A = Said (A × ℕ)} (refused 23)
        (choose (ltb n (length s) && (leb (length (take n s)) 300 && f.allowed (take n s))) (granted (f.value (take n s), at + n + 1)) (refused 23))
    go true p true q r = clash cc
    go true p false q r = simp (p, ap (λ (m : ℕ). leb m 300) (length-take-le n s (end_le s)) ∙ q)
    go false p b q r = simp p

-- ---- a line that was taken: it says v, and j is the index after its byte 10

pub record Took {A : Type 0} (f : LineForm A) (t : List ℕ) (at : ℕ) (v : A) (j : ℕ) : Type 0 where
  pub inside : to_end (drop at t) < length (drop at t)
  pub line : is_line f (take (to_end (drop at t)) (drop at t)) ≡ true
  pub value : f.value (take (to_end (drop at t)) (drop at t)) ≡ v
  pub next : at + to_end (drop at t) + 1 ≡ j

module _ {A : Type 0} (f : LineForm A) (t : List ℕ) (at : ℕ) where
  pub took_says : (v : A) (j : ℕ) → next_of f t at ≡ granted (v, j) → Took f t at v j
  took_says v j p = go (ltb n (length s)) refl (is_line f (take n s)) refl (sym (next_of_is f t at) ∙ p)
    where
      s : List ℕ
      s = drop at t

      n : ℕ
      n = to_end s

      go : (a : Bool) → ltb n (length s) ≡ a → (b : Bool) → is_line f (take n s) ≡ b
          → ◌≡◌ {A = Said (A × ℕ)} (choose (a && b) (granted (f.value (take n s), at + n + 1)) (refused 23)) (granted (v, j)) → Took f t at v j
      go true p true q r =
          let z : ◌≡◌ {A = A × ℕ} (f.value (take n s), at + n + 1) (v, j) = cc in
          record { inside = ltb-true n (length s) p; line = q; value = ap (λ (x : A × ℕ). x.0) z; next = ap (λ (x : A × ℕ). x.1) z }
      go true p false q r = clash cc
      go false p b q r = clash cc

  -- it goes on, and stays inside the text
  pub took_in : (v : A) (j : ℕ) → next_of f t at ≡ granted (v, j) → (at < j) × (j ≤ length t)
  took_in v j p = let k = took_says v j p in (omega (arith, k.next), omega (arith, k.next, k.inside, length-drop at t))

-- ---- it is taken or malformed

pub data NextLine {A : Type 0} (f : LineForm A) (t : List ℕ) (at : ℕ) : Type 0 where
  taken : (v : A) (j : ℕ) → next_of f t at ≡ granted (v, j) → NextLine f t at
  malformed : next_of f t at ≡ refused 23 → NextLine f t at

pub next_line : {A : Type 0} (f : LineForm A) (t : List ℕ) (at : ℕ) → NextLine f t at
next_line {A} f t at = go (ltb n (length s) && is_line f (take n s)) (next_of_is f t at)
  where
    s : List ℕ
    s = drop at t

    n : ℕ
    n = to_end s

    go : (b : Bool) → next_of f t at ≡ choose b (granted (f.value (take n s), at + n + 1)) (refused 23) → NextLine f t at
    go true e = taken (f.value (take n s)) (at + n + 1) e
    go false e = malformed e
