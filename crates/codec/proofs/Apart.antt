-- What was read is not a stop, and a number is not none: a test tells them apart.
use Prim.Native.Nat.{ℕ}
use mathlib.Core.Path.{◌≡◌, sym, ap}
use mathlib.Core.Bool.{Bool, true, false}
use mathlib.Core.List.{List}
use Rattle.std.specs.Prelude.{Some, None}
use Rattle.laws.proofs.Tests.{impossible}
use Rattle.codec.specs.Codec.{Out, got, no}

is_got : {A : Type 0} → Out A → Bool
is_got (got a s i) = true
is_got (no n i) = false

pub got_no : {A X : Type 0} {a : A} {s : List ℕ} {i n j : ℕ} → got a s i ≡ no n j → X
unfolding is_got
got_no e = impossible (sym (ap is_got e))

pub is_none : {A X : Type 0} {a : A} → Some a ≡ None → X
is_none e = cc
