-- What a number that was read says of its digits.
use Prim.Native.Nat.{ℕ, ◌+◌, ◌≤◌, ◌<◌}
use mathlib.Core.Path.{◌≡◌, refl, sym}
use mathlib.Core.List.{List}
use mathlib.Core.Bool.{Bool, true, false, ◌&&◌, and-false}
use lib.ListN.{length, take, drop}
use lib.Dec.{leb}
use borrow.Author.Tests.{le-leb, lt-leb, leb-true}
use Rattle.std.specs.Prelude.{Some, None}
use Rattle.laws.specs.Order.{choose}
use Rattle.laws.specs.Lists.{every}
use Rattle.laws.specs.Numbers.{digit, decimal}
use Rattle.codec.specs.Kind.{digits}
use Rattle.codec.specs.Promise.{number_at}
use Rattle.codec.proofs.Apart.{is_none}

module _ (t : List ℕ) (at w : ℕ) where
  abbrev part : List ℕ
  part = take w (drop at t)

  pub number_is : (n : ℕ) → number_at t at w ≡ Some n → ((digits w).allowed part ≡ true) × ((digits w).value part ≡ n)
  unfolding number_at
  number_is n e = go (leb w 9) (leb (at + w) (length t)) (every digit part) e
    where
      go : (a b d : Bool) → choose (a && (b && d)) (Some (decimal part)) None ≡ Some n → (d ≡ true) × (decimal part ≡ n)
      go true true true e = (refl, cc)
      go true true false e = is_none (sym e)
      go true false d e = is_none (sym e)
      go false b d e = is_none (sym e)

  pub number_inside : {n : ℕ} → number_at t at w ≡ Some n → at + w ≤ length t
  unfolding number_at
  number_inside {n} e = go (leb w 9) (leb (at + w) (length t)) refl (every digit part) e
    where
      go : (a b : Bool) → leb (at + w) (length t) ≡ b → (d : Bool) → choose (a && (b && d)) (Some (decimal part)) None ≡ Some n → at + w ≤ length t
      go true true h d e = leb-true (at + w) (length t) h
      go true false h d e = is_none (sym e)
      go false b h d e = is_none (sym e)

  pub number_none : w ≤ 9 → at + w ≤ length t → number_at t at w ≡ None → (digits w).allowed part ≡ false
  unfolding number_at
  number_none h k e = go (every digit part) (simp (le-leb w 9 h, le-leb (at + w) (length t) k) at e)
    where
      go : (d : Bool) → choose d (Some (decimal part)) None ≡ None → d ≡ false
      go true e = is_none e
      go false e = refl

  -- the same by the tests that code makes
  pub too_wide : 9 < w → None ≡ number_at t at w
  unfolding number_at
  too_wide h = simp (lt-leb w 9 h)

  pub too_short : length t < at + w → None ≡ number_at t at w
  unfolding number_at
  too_short h = simp (lt-leb (at + w) (length t) h, and-false)

  pub not_digits : every digit part ≡ false → None ≡ number_at t at w
  unfolding number_at
  not_digits h = simp (h, and-false)

  pub a_number : (n : ℕ) → w ≤ 9 → at + w ≤ length t → every digit part ≡ true → decimal part ≡ n → Some n ≡ number_at t at w
  unfolding number_at
  a_number n h k d e = simp (le-leb w 9 h, le-leb (at + w) (length t) k, d, e)
