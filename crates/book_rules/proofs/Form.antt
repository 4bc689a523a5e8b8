-- The form client × 64 + wish keeps what a form has to, since a wish is below 64; what is not bad is in range.
use Prim.Native.Nat.{ℕ, ◌+◌, ◌*◌, ◌/◌, ◌%◌, ◌≤◌}
use mathlib.Core.Path.{◌≡◌}
use mathlib.Core.Bool.{false}
use native.Mathlib.Omega.{arith}
use Rattle.laws.specs.Numbers.{within}
use Rattle.laws.proofs.Tests.{and_l, and_r, and_i, not_not, within_lo, within_hi, within_i}
use Rattle.book_rules.specs.Form.{FormLaws, bad_client, bad_wish, form, client_and_wish}

pub client_some : (client : ℕ) → bad_client client ≡ false → 1 ≤ client
unfolding bad_client
client_some c e = within_lo 1 9999 c (not_not (within 1 9999 c) e)

pub client_fits : (client : ℕ) → bad_client client ≡ false → client ≤ 9999
unfolding bad_client
client_fits c e = within_hi 1 9999 c (not_not (within 1 9999 c) e)

pub client_fine : (client : ℕ) → 1 ≤ client → client ≤ 9999 → bad_client client ≡ false
unfolding bad_client
client_fine c a b = rw (within_i 1 9999 c a b)

pub wish_some : (wish : ℕ) → bad_wish wish ≡ false → 1 ≤ wish
unfolding bad_wish
wish_some v e = within_lo 1 63 v (not_not (within 1 63 v) e)

pub wish_fits : (wish : ℕ) → bad_wish wish ≡ false → wish ≤ 63
unfolding bad_wish
wish_fits v e = within_hi 1 63 v (not_not (within 1 63 v) e)

pub wish_fine : (wish : ℕ) → 1 ≤ wish → wish ≤ 63 → bad_wish wish ≡ false
unfolding bad_wish
wish_fine v a b = rw (within_i 1 63 v a b)

-- ---- client × 64 + wish

high : (c v : ℕ) → v ≤ 63 → (c * 64 + v) / 64 ≡ c
high c v h = omega arith

low : (c v : ℕ) → v ≤ 63 → (c * 64 + v) % 64 ≡ v
low c v h = omega arith

pub form_laws : FormLaws form
unfolding form client_and_wish
form_laws = record {
  who_made = high;
  wish_made = low;
  made_fine = λ c v a b d e. rw (high c v e, low c v e) (and_i (within 1 9999 c) (within 1 63 v) (within_i 1 9999 c a b) (within_i 1 63 v d e));
  fine_made = λ m e. omega arith;
  fine_who = λ m e.
      let k = and_l (within 1 9999 (m / 64)) (within 1 63 (m % 64)) e in
      (within_lo 1 9999 (m / 64) k, within_hi 1 9999 (m / 64) k);
  fine_wish = λ m e.
      let k = and_r (within 1 9999 (m / 64)) (within 1 63 (m % 64)) e in
      (within_lo 1 63 (m % 64) k, within_hi 1 63 (m % 64) k);
}
