-- Values that pass the tests of the code have few enough digits, so the table allows exactly those.
use Prim.Native.Nat.{ℕ, ◌/◌, ◌%◌, ◌≤◌}
use mathlib.Core.Path.{◌≡◌, refl, sym, ap, ◌∙◌}
use mathlib.Core.List.{List}
use mathlib.Core.Bool.{Bool, true, false, ◌&&◌, and-false}
use native.Mathlib.Omega.{arith}
use lib.ListN.{length}
use lib.Dec.{ltb, leb}
use borrow.Author.Tests.{eq-eqb, lt-ltb, leb-true}
use Rattle.laws.specs.Numbers.{within}
use Rattle.laws.proofs.Tests.{and_l, and_r, within_lo, within_hi}
use Rattle.codec.specs.Kind.{bytes, only}
use Rattle.header.specs.Header.{is_duration_of, is_issue, issue, is_duration}
use Rattle.header.proofs.Round.{hours}

pub bytes_ok : (p : List ℕ → Bool) (w : ℕ) (b : List ℕ) → w ≡ length b → (only p (bytes w)).ok b ≡ p b
bytes_ok p w b l = simp (eq-eqb (length b) w (sym l))

pub duration_ok : (m : ℕ) → is_duration m ≡ is_duration_of (m / 60, m % 60)
unfolding is_duration
duration_ok m = go (is_duration_of (m / 60, m % 60)) refl
  where
    go : (b : Bool) → is_duration_of (m / 60, m % 60) ≡ b
        → (ltb (m / 60) 100 && ltb (m % 60) 100) && is_duration_of (m / 60, m % 60) ≡ is_duration_of (m / 60, m % 60)
    go true e =
        let h : m / 60 ≤ 99 = hours (m / 60) (m % 60) e in
        simp (lt-ltb (m / 60) 100 (omega arith), lt-ltb (m % 60) 100 (omega arith))
    go false e = ap (λ (b : Bool). (ltb (m / 60) 100 && ltb (m % 60) 100) && b) e ∙ and-false (ltb (m / 60) 100 && ltb (m % 60) 100) ∙ sym e

-- day, hour and minute of an issue
pub record Issued (d h m : ℕ) : Type 0 where
  pub first : 1 ≤ d
  pub last : d ≤ 366
  pub hour : h ≤ 23
  pub minute : m ≤ 59

pub issued : (d h m : ℕ) → is_issue d h m ≡ true → Issued d h m
issued d h m e =
    let r : leb h 23 && leb m 59 ≡ true = and_r (within 1 366 d) (leb h 23 && leb m 59) e in
    let w : within 1 366 d ≡ true = and_l (within 1 366 d) (leb h 23 && leb m 59) e in
    record {
      first = within_lo 1 366 d w;
      last = within_hi 1 366 d w;
      hour = leb-true h 23 (and_l (leb h 23) (leb m 59) r);
      minute = leb-true m 59 (and_r (leb h 23) (leb m 59) r);
    }

pub issue_ok : (d h m : ℕ) → issue.ok (d, (h, m)) ≡ is_issue d h m
issue_ok d h m = go (is_issue d h m) refl
  where
    go : (b : Bool) → is_issue d h m ≡ b → (ltb d 1000 && (ltb h 100 && ltb m 100)) && is_issue d h m ≡ is_issue d h m
    go true e =
        let i = issued d h m e in
        simp (lt-ltb d 1000 (omega (arith, i.last)), lt-ltb h 100 (omega (arith, i.hour)), lt-ltb m 100 (omega (arith, i.minute)))
    go false e = ap (λ (b : Bool). (ltb d 1000 && (ltb h 100 && ltb m 100)) && b) e ∙ and-false (ltb d 1000 && (ltb h 100 && ltb m 100)) ∙ sym e
