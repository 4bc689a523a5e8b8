-- Digits that are read are those that are written, each way; written from the right, the k highest are left to write.
use Prim.Native.Nat.{ℕ, zero, suc, ◌+◌, ◌-◌, ◌*◌, ◌/◌, ◌%◌, ◌^◌, ◌≤◌, ◌<◌}
use mathlib.Core.Path.{◌≡◌, refl, sym, ap, ◌∙◌}
use mathlib.Core.List.{List, [], ◌∷◌, ◌++◌}
use mathlib.Core.Bool.{true, ◌&&◌}
use native.Mathlib.Nat.{pow-suc}
use native.Mathlib.Omega.{arith}
use lib.ListN.{length, get_or, take, set, length-append, length-set}
use lib.Seq.{take-suc, take_all, length-take-le}
use Rattle.laws.specs.Lists.{every}
use Rattle.laws.specs.Numbers.{digit, dec_from, dig}
use Rattle.laws.specs.Space.{pasted}
use Rattle.laws.proofs.Tests.{and_l, and_r, within_lo, within_hi, within_i}
use Rattle.laws.proofs.Every.{every_append}
use Rattle.laws.proofs.Pasted.{pasted_nil, pasted_snoc}

pub dec_snoc : (xs : List ℕ) (a x : ℕ) → dec_from a (xs ++ (x ∷ [])) ≡ dec_from a xs * 10 + (x - 48)
dec_snoc [] a x = refl
dec_snoc (y ∷ ys) a x = dec_snoc ys (a * 10 + (y - 48)) x

pub dig_reads : (w : ℕ) (b : List ℕ) → length b ≡ w → every digit b ≡ true → (dec_from 0 b < 10 ^ w) × (dig w (dec_from 0 b) ≡ b)
dig_reads zero [] l h = (omega arith, refl)
dig_reads zero (x ∷ xs) l h = absurd (omega arith)
dig_reads (suc w) b l h =
    let x : ℕ = get_or b w 0 in
    let e : b ≡ take w b ++ (x ∷ []) = sym (take_all (suc w) b (omega arith)) ∙ take-suc b w 0 (omega arith) in
    let t : length (take w b) ≡ w = length-take-le w b (omega arith) in
    let d : every digit (take w b) && (digit x && true) ≡ true = sym (every_append digit (take w b) (x ∷ [])) ∙ sym (ap (every digit) e) ∙ h in
    let dx : digit x ≡ true = and_l (digit x) true (and_r (every digit (take w b)) (digit x && true) d) in
    let lo : 48 ≤ x = within_lo 48 57 x dx in
    let hi : x ≤ 57 = within_hi 48 57 x dx in
    let ih : (dec_from 0 (take w b) < 10 ^ w) × (dig w (dec_from 0 (take w b)) ≡ take w b) =
    dig_reads w (take w b) t (and_l (every digit (take w b)) (digit x && true) d) in
    let v : dec_from 0 b ≡ dec_from 0 (take w b) * 10 + (x - 48) = ap (dec_from 0) e ∙ dec_snoc (take w b) 0 x in
    let q : dec_from 0 b / 10 ≡ dec_from 0 (take w b) = omega arith in
    let m : 48 + dec_from 0 b % 10 ≡ x = omega arith in
    (omega (arith, pow-suc 10 w), simp (q, m, ih.1) (sym e))

pub dig_writes : (w n : ℕ) → n < 10 ^ w → (length (dig w n) ≡ w) × (every digit (dig w n) ≡ true) × (dec_from 0 (dig w n) ≡ n)
dig_writes zero n h = (refl, refl, omega arith)
dig_writes (suc w) n h =
    let ih : (length (dig w (n / 10)) ≡ w) × (every digit (dig w (n / 10)) ≡ true) × (dec_from 0 (dig w (n / 10)) ≡ n / 10) =
    dig_writes w (n / 10) (omega (arith, pow-suc 10 w)) in
    let dx : digit (48 + n % 10) ≡ true = within_i 48 57 (48 + n % 10) (omega arith) (omega arith) in (
      length-append (dig w (n / 10)) ((48 + n % 10) ∷ []) ∙ omega arith,
      every_append digit (dig w (n / 10)) ((48 + n % 10) ∷ []) ∙ simp (ih.1, dx),
      dec_snoc (dig w (n / 10)) 0 (48 + n % 10) ∙ omega arith,
    )

-- ---- digits, from the right

pub length_dig : (w n : ℕ) → length (dig w n) ≡ w
length_dig zero n = refl
length_dig (suc w) n = length-append (dig w (n / 10)) ((48 + n % 10) ∷ []) ∙ omega (arith, length_dig w (n / 10))

pub record Digits (d₀ d : List ℕ) (at w n k v : ℕ) : Type 0 where
  pub low : k ≤ w
  pub len : length d ≡ length d₀
  pub same : pasted d at (dig k v) ≡ pasted d₀ at (dig w n)

pub digit_turn : (d₀ d : List ℕ) (at w n k v : ℕ) → 0 < k → at + w ≤ length d₀ → Digits d₀ d at w n k v
    → Digits d₀ (set d (at + (k - 1)) (48 + v % 10)) at w n (k - 1) (v / 10)
digit_turn d₀ d at w n k v h r g =
    let e : k ≡ suc (k - 1) = omega arith in
    let l : length (dig (k - 1) (v / 10)) ≡ k - 1 = length_dig (k - 1) (v / 10) in
    record {
      low = omega (arith, g.low);
      len = length-set d (at + (k - 1)) (48 + v % 10) ∙ g.len;
      same =
          ap (λ (m : ℕ). pasted (set d (at + m) (48 + v % 10)) at (dig (k - 1) (v / 10))) (sym l)
          ∙ pasted_snoc d at (dig (k - 1) (v / 10)) (48 + v % 10) (omega (arith, g.low, g.len))
          ∙ sym (ap (λ (m : ℕ). pasted d at (dig m v)) e)
          ∙ g.same;
    }

pub digits_done : (d₀ d : List ℕ) (at w n k v : ℕ) → k ≤ 0 → Digits d₀ d at w n k v → d ≡ pasted d₀ at (dig w n)
digits_done d₀ d at w n k v h g =
    let e : k ≡ 0 = omega arith in
    sym (pasted_nil d at) ∙ sym (ap (λ (m : ℕ). pasted d at (dig m v)) e) ∙ g.same
