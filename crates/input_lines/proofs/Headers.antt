-- A header stands from behind its word up to the byte 10 of its line: the line is the word and then the header, byte for byte.
use Prim.Native.Nat.{ℕ, ◌+◌, ◌-◌, ◌≤◌, ◌<◌}
use mathlib.Core.Path.{◌≡◌, refl, sym, ap, ◌∙◌}
use mathlib.Core.Logic.{◌⊎◌, inl, inr}
use mathlib.Core.List.{List}
use mathlib.Core.Bool.{true, false}
use native.Mathlib.Omega.{arith}
use lib.ListN.{length, take, drop, length-drop}
use lib.Seq.{take_all, length-take-le}
use lib.Dec.{leb, eqb}
use Rattle.std.specs.Prelude.{None}
use Rattle.std.specs.List.{starts_with}
use Rattle.laws.specs.Order.{Said, granted, refused, refused_at, next}
use Rattle.laws.specs.Lists.{same}
use Rattle.laws.proofs.Clash.{clash}
use Rattle.laws.proofs.Tests.{and_r, le_or_lt}
use Rattle.laws.proofs.Every.{same_eq}
use Rattle.laws.proofs.Prefixes.{starts_same}
use Rattle.laws.proofs.Parts.{part_tail}
use Rattle.input_lines.specs.Lines.{is_line}
use Rattle.input_lines.specs.Forms.{header_word, header_line}
use Rattle.input_lines.specs.Next.{next_of, stands_at, header_at}
use Rattle.input_lines.specs.Steps.{to_end, line_of}
use Rattle.input_lines.proofs.Ends.{Found, end_le}
use Rattle.input_lines.proofs.Next.{next_as, broken, Took, took_says}

-- ---- from what the next line says

module _ (t : List ℕ) (at : ℕ) where
  no_header : next_of header_line t at ≡ refused 23 → refused 23 ≡ header_at t at
  unfolding header_at
  no_header e = simp e

  pub header_broken : line_of t at ≡ None → refused 23 ≡ header_at t at
  header_broken e = no_header (sym (broken header_line t at e))

  module _ (e : ℕ) (w : Found t at e) where
    abbrev line : List ℕ
    line = take (e - at) (drop at t)

    pub header_other : starts_with eqb line header_word ≡ false → refused 23 ≡ header_at t at
    unfolding header_line
    header_other h = no_header (sym (next_as header_line t at e w) ∙ simp (sym (starts_same line header_word) ∙ h))

    pub header_good : starts_with eqb line header_word ≡ true → ◌≡◌ {A = Said (ℕ × (ℕ × ℕ))} (granted (at + 7, (e, e + 1))) (header_at t at)
    unfolding header_line header_at
    header_good h =
        let z : e + 1 - 1 ≡ e = omega arith in
        let a = sym (starts_same line header_word) ∙ h in
        let p : ◌≡◌ {A = Said (List ℕ × ℕ)} (granted (drop 7 line, e + 1)) (next_of header_line t at) = sym (simp a) ∙ next_as header_line t at e w in
        sym (ap (λ (s : Said (List ℕ × ℕ)). next s (λ l. granted (stands_at at l))) (sym p) ∙ ap (λ (m : ℕ). granted (at + 7, (m, e + 1))) z)

-- ---- what a header that was found says

pub record Stands (t : List ℕ) (at from to j : ℕ) : Type 0 where
  pub low : from ≤ to
  pub inside : to < length t
  pub next : to + 1 ≡ j
  -- the header of the line is the part of the text from index from to index to
  pub says : next_of header_line t at ≡ granted (take (to - from) (drop from t), j)

header_value : (t : List ℕ) (at : ℕ) (h : List ℕ) (i : ℕ) → Took header_line t at h i → drop 7 (take (to_end (drop at t)) (drop at t)) ≡ h
unfolding header_line
header_value t at h i k = k.value

-- the line holds at least its word
word_fits : (l : List ℕ) → is_line header_line l ≡ true → (n : ℕ) → length l ≡ n → 7 ≤ n
unfolding is_line header_line
word_fits l h n e =
    let s : take 7 l ≡ header_word = same_eq (take 7 l) header_word (and_r (leb (length l) 300) (same (take 7 l) header_word) h) in
    by (le_or_lt (length l) 7) s
  where
    by : (length l < 7) ⊎ (7 ≤ length l) → take 7 l ≡ header_word → 7 ≤ n
    by (inl k) s = absurd (omega (arith, ap length (sym (take_all 7 l (omega arith)) ∙ s)))
    by (inr k) s = omega arith

pub header_stands : (t : List ℕ) (at from to j : ℕ) → header_at t at ≡ granted (from, (to, j)) → Stands t at from to j
unfolding header_at
header_stands t at from to j p = go (next_of header_line t at) refl p
  where
    go : (s : Said (List ℕ × ℕ)) → next_of header_line t at ≡ s → next s (λ l. granted (stands_at at l)) ≡ granted (from, (to, j)) → Stands t at from to j
    go (granted (h, i)) e r =
        let z : ◌≡◌ {A = ℕ × (ℕ × ℕ)} (at + 7, (i - 1, i)) (from, (to, j)) = cc in
        let k = took_says header_line t at h i e in
        let n : ℕ = to_end (drop at t) in
        let m : 7 ≤ n = word_fits (take n (drop at t)) k.line n (length-take-le n (drop at t) (end_le (drop at t))) in
        let ef : at + 7 ≡ from = ap (λ (x : ℕ × (ℕ × ℕ)). x.0) z in
        let et : i - 1 ≡ to = ap (λ (x : ℕ × (ℕ × ℕ)). x.1.0) z in
        let ei : i ≡ j = ap (λ (x : ℕ × (ℕ × ℕ)). x.1.1) z in
        let w : 7 + (to - from) ≡ n = omega (arith, k.next) in
        let v : h ≡ take (to - from) (drop from t) =
        sym (header_value t at h i k)
        ∙ ap (λ (m : ℕ). drop 7 (take m (drop at t))) (sym w)
        ∙ part_tail t at 7 (to - from)
        ∙ ap (λ (m : ℕ). take (to - from) (drop m t)) ef in
        record {
          low = omega (arith, k.next);
          inside = omega (arith, k.next, k.inside, length-drop at t);
          next = omega (arith, k.next);
          says = e ∙ (λ q. granted (v q, ei q));
        }
    go (refused n) e r = clash cc
    go (refused_at n i) e r = clash cc

-- no header: the next line is malformed
pub header_none : (t : List ℕ) (at : ℕ) → header_at t at ≡ refused 23 → next_of header_line t at ≡ refused 23
unfolding header_at
header_none t at p = go (next_of header_line t at) p
  where
    go : (s : Said (List ℕ × ℕ)) → next s (λ l. granted (stands_at at l)) ≡ refused 23 → s ≡ refused 23
    go (granted l) r = clash cc
    go (refused n) r = let z : n ≡ 23 = cc in ap refused z
    go (refused_at n i) r = clash cc
