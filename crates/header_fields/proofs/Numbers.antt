-- A duration and an issue by the numbers that their digits make.
use Prim.Native.Nat.{ℕ, ◌+◌, ◌*◌}
use mathlib.Core.Path.{◌≡◌, sym, ◌∙◌}
use mathlib.Core.List.{List}
use mathlib.Core.Bool.{false, ◌&&◌, and-false}
use native.Mathlib.Omega.{arith}
use lib.ListN.{take, drop}
use Rattle.std.specs.Prelude.{Some}
use Rattle.laws.specs.Lists.{every}
use Rattle.laws.specs.Numbers.{digit, dec_from}
use Rattle.laws.proofs.Parts.{part_head, part_tail}
use Rattle.codec.specs.Promise.{number_at}
use Rattle.codec.proofs.Numbers.{number_is}
use Rattle.header.specs.Header.{is_duration_of, is_issue, duration, issue}

-- ---- hours and minutes

module _ (t : List ℕ) (at : ℕ) where
  duration_parts : duration.allowed (take 4 (drop at t))
      ≡ (every digit (take 2 (drop at t)) && every digit (take 2 (drop (at + 2) t)))
      && is_duration_of (dec_from 0 (take 2 (drop at t)), dec_from 0 (take 2 (drop (at + 2) t)))
  duration_parts = simp (part_head t at 4 2 (omega arith), part_tail t at 2 2)

  pub no_hours : every digit (take 2 (drop at t)) ≡ false → duration.allowed (take 4 (drop at t)) ≡ false
  no_hours f = duration_parts ∙ simp f

  pub no_minutes : every digit (take 2 (drop (at + 2) t)) ≡ false → duration.allowed (take 4 (drop at t)) ≡ false
  no_minutes f = duration_parts ∙ simp (f, and-false)

-- the two numbers are read: which bytes are allowed is what the test of the two says, and what they mean
pub record Duration (t : List ℕ) (at h m : ℕ) : Type 0 where
  pub test : duration.allowed (take 4 (drop at t)) ≡ is_duration_of (h, m)
  pub mean : duration.value (take 4 (drop at t)) ≡ h * 60 + m

pub a_duration : (t : List ℕ) (at h m : ℕ) → Some h ≡ number_at t at 2 → Some m ≡ number_at t (at + 2) 2 → Duration t at h m
a_duration t at h m eh em =
    let x = number_is _ _ _ _ (sym eh) in
    let y = number_is _ _ _ _ (sym em) in
    record {
      test = duration_parts t at ∙ simp (x.0, x.1, y.0, y.1);
      mean = simp (part_head t at 4 2 (omega arith), part_tail t at 2 2, x.1, y.1);
    }

-- ---- day, hour and minute

on : (at : ℕ) → at + 3 + 2 ≡ at + 5
on at = omega arith

module _ (t : List ℕ) (at : ℕ) where
  issue_parts : issue.allowed (take 7 (drop at t))
      ≡ (every digit (take 3 (drop at t)) && (every digit (take 2 (drop (at + 3) t)) && every digit (take 2 (drop (at + 5) t))))
      && is_issue (dec_from 0 (take 3 (drop at t))) (dec_from 0 (take 2 (drop (at + 3) t))) (dec_from 0 (take 2 (drop (at + 5) t)))
  issue_parts = simp (part_head t at 7 3 (omega arith), part_tail t at 3 4, part_head t (at + 3) 4 2 (omega arith), part_tail t (at + 3) 2 2, on at)

  pub no_day : every digit (take 3 (drop at t)) ≡ false → issue.allowed (take 7 (drop at t)) ≡ false
  no_day f = issue_parts ∙ simp f

  pub no_hour : every digit (take 2 (drop (at + 3) t)) ≡ false → issue.allowed (take 7 (drop at t)) ≡ false
  no_hour f = issue_parts ∙ simp (f, and-false)

  pub no_minute : every digit (take 2 (drop (at + 5) t)) ≡ false → issue.allowed (take 7 (drop at t)) ≡ false
  no_minute f = issue_parts ∙ simp (f, and-false)

pub record Moment (t : List ℕ) (at d h m : ℕ) : Type 0 where
  pub test : issue.allowed (take 7 (drop at t)) ≡ is_issue d h m
  pub mean : issue.value (take 7 (drop at t)) ≡ (d, (h, m))

pub a_moment : (t : List ℕ) (at d h m : ℕ)
    → Some d ≡ number_at t at 3 → Some h ≡ number_at t (at + 3) 2 → Some m ≡ number_at t (at + 5) 2 → Moment t at d h m
a_moment t at d h m ed eh em =
    let x = number_is _ _ _ _ (sym ed) in
    let y = number_is _ _ _ _ (sym eh) in
    let z = number_is _ _ _ _ (sym em) in
    record {
      test = issue_parts t at ∙ simp (x.0, x.1, y.0, y.1, z.0, z.1);
      mean = simp (
        part_head t at 7 3 (omega arith),
        part_tail t at 3 4,
        part_head t (at + 3) 4 2 (omega arith),
        part_tail t (at + 3) 2 2,
        on at,
        x.1,
        y.1,
        z.1,
      );
    }
