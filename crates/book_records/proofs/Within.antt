-- What the library's range of numbers says it contains is what lies within its ends.
use Rattle.std.proofs.Common.{ℕ, false, ◌≡◌, Some, leb, ◌&&◌, arith}
use Rattle.std.specs.Ordering.{nat_cmp, is_some_and, is_le}
use Rattle.std.specs.declared.ops.RangeInclusive.{RangeInclusive}
use Rattle.std.specs.Range.{range_inclusive_start, range_inclusive_end, range_inclusive_exhausted, range_inclusive_contains}
use Rattle.std.proofs.lemmas.Bool.Decides.{nat_tests}
use Rattle.laws.specs.Numbers.{within}

le_of : (a x : ℕ) → is_some_and is_le (Some (nat_cmp a x)) ≡ leb a x
le_of a x = grind (arith, nat_tests)

pub contains_within : (s : RangeInclusive ℕ) (a e x : ℕ) → range_inclusive_start s ≡ a → range_inclusive_end s ≡ e → range_inclusive_exhausted s ≡ false
    → range_inclusive_contains (λ y z. Some (nat_cmp y z)) s x ≡ within a e x
contains_within s a e x p q r = rw (p, q, r) (λ i. le_of a x i && le_of x e i)
