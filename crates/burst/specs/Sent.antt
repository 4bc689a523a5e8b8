-- Paper 01, "From bursts to one text": the premise of the vote's consequence.
use Rattle.std.specs.Prelude.{ℕ, ◌≤◌, ◌<◌, ◌≡◌, ◌⊎◌, List, length, get_or}
use Rattle.burst.specs.Strip.{stripped}
use Rattle.burst.specs.Bits.{bit}
use Rattle.burst.specs.Vote.{voted_length}

-- what a slice of u8 holds: each entry is a byte
abbrev pub Bytes : List ℕ → Type 0
Bytes l = (i : ℕ) → get_or l i 0 < 256

-- at least two of three
abbrev pub Two : Type 0 → Type 0 → Type 0 → Type 0
Two P Q R = (P × Q) ⊎ ((P × R) ⊎ (Q × R))

-- a stripped burst reaches position i, and there it has bit k of the text h right
abbrev pub Right : List ℕ → ℕ → ℕ → List ℕ → Type 0
Right h i k burst = (i < length burst) × (bit (get_or burst i 0) k ≡ bit (get_or h i 0) k)

-- the four are bytes
pub record OfBytes (h a b c : List ℕ) : Type 0 where
  pub of_h : Bytes h
  pub of_a : Bytes a
  pub of_b : Bytes b
  pub of_c : Bytes c

-- a text h of 1 to 252 bytes was sent, the space lent holds it, no received burst is over 268 bytes, the middle length
-- is that of h, and at each bit of h at least two bursts that reach so far have it right
pub record Sent (h a b c : List ℕ) (room : ℕ) : Type 0 where
  pub some : 1 ≤ length h
  pub short : length h ≤ 252
  pub holds : length h ≤ room
  pub short_a : length a ≤ 268
  pub short_b : length b ≤ 268
  pub short_c : length c ≤ 268
  pub middle : voted_length (stripped a) (stripped b) (stripped c) ≡ length h
  pub right : (i k : ℕ) → i < length h → k < 8 → Two (Right h i k (stripped a)) (Right h i k (stripped b)) (Right h i k (stripped c))
