-- Writing into lent space: where there is room the bytes stand there, else all is as it was; and one part after the other.
use Prim.Native.Nat.{ℕ, ◌+◌, ◌≤◌, ◌<◌}
use mathlib.Core.Path.{◌≡◌, refl, ◌∙◌}
use mathlib.Core.Bool.{Bool, true, false}
use mathlib.Core.List.{List, ◌++◌}
use native.Mathlib.Omega.{arith}
use lib.ListN.{length, length-append}
use lib.Dec.{ltb}
use borrow.Author.Tests.{lt-ltb, le-ltb}
use Rattle.laws.specs.Space.{pasted}
use Rattle.laws.proofs.Pasted.{Todo, step}
use Rattle.codec.specs.Promise.{put_says, PutPromise}

pub put_no : (d : List ℕ) (at : ℕ) (s : List ℕ) → length d < at + length s → PutPromise d at s false d
unfolding put_says
put_no d at s h =
    let e : ltb (length d) (at + length s) ≡ true = lt-ltb (length d) (at + length s) h in
    record { says = simp e; space = simp e }

module _ {d : List ℕ} {at : ℕ} {s d' : List ℕ} where
  pub put_yes : at + length s ≤ length d → d' ≡ pasted d at s → PutPromise d at s true d'
  unfolding put_says
  put_yes h p =
      let e : ltb (length d) (at + length s) ≡ false = le-ltb (length d) (at + length s) h in
      record { says = simp e; space = simp e p }

  -- what a caller learns that knows of the room
  pub put_fits : {r : Bool} → PutPromise d at s r d' → at + length s ≤ length d → d' ≡ pasted d at s
  unfolding put_says
  put_fits p h =
      let e : ltb (length d) (at + length s) ≡ false = le-ltb (length d) (at + length s) h in
      p.space ∙ simp e

-- ---- one part after the other: x is put and r is left to put; or x is the last

module _ {d₀ whole d : List ℕ} {at : ℕ} (x r : List ℕ) (t : Todo d₀ whole d at (x ++ r)) where
  pub room_first : at + length x ≤ length d
  room_first = omega (arith, t.room, length-append x r)

  pub put_next : {d' : List ℕ} {b : Bool} → PutPromise d at x b d' → (at' : ℕ) → at' ≡ at + length x → Todo d₀ whole d' at' r
  put_next p at' i = step d₀ whole d at (x ++ r) t x r _ at' refl (put_fits p room_first) i

pub put_last : {d₀ whole d : List ℕ} {at : ℕ} {x : List ℕ} → Todo d₀ whole d at x → {d' : List ℕ} {b : Bool} → PutPromise d at x b d' → d' ≡ whole
put_last t p = put_fits p t.room ∙ t.same
