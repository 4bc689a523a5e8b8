-- Paper 02 §8, "Dirty preambles": what it says of the stripping and of the vote, in its order.
use Rattle.std.specs.Prelude.{ℕ, ◌+◌, ◌-◌, ◌≤◌, ◌<◌, min, ◌≡◌, true, false, List, [], ◌∷◌, ◌++◌, length, drop, replicate, get_or, eqb}
use Rattle.std.specs.Borrow.{Bor}
use Rattle.laws.specs.Order.{granted}
use Rattle.laws.specs.Lists.{every, some}
use Rattle.laws.specs.Space.{pasted}
use Rattle.burst.specs.Strip.{preamble, lead, stripped}
use Rattle.burst.specs.Meaning.{near_ab, Drops, whole_run}
use Rattle.burst.specs.Vote.{voted_length}
use Rattle.burst.specs.Sent.{OfBytes, Right, Two}
use Rattle.burst.specs.Promise.{LeadingPromise, StripPromise, VotePromise, said_vote}
use Rattle.burst.specs.declared.VoteAnswer.{VoteAnswer}

-- the three numbers of an answer are these
pub record Carries (r : VoteAnswer) (x y z : ℕ) : Type 0 where
  pub first : r.first ≡ x
  pub second : r.second ≡ y
  pub third : r.third ≡ z

-- up to 16 bytes, each of which counts as preamble
pub record Preamble (p : List ℕ) : Type 0 where
  pub each : every preamble p ≡ true
  pub most : length p ≤ 16

-- a preamble and what follows it: where it has fewer than 16 bytes, the next does not count (past the end stands 0, which does not)
pub record Before (p rest : List ℕ) : Type 0 where
  pub preamble_bytes : Preamble p
  pub ends : length p < 16 → preamble (get_or rest 0 0) ≡ false

pub record DirtyPreambles : Type 0 where
  -- which bytes count: AB, and AB with one of its bits turned. These are nine
  pub near : (x : ℕ) → x < 256 → preamble x ≡ some (eqb x) near_ab
  pub nine : near_ab ≡ 0xAB ∷ 0xAA ∷ 0xA9 ∷ 0xAF ∷ 0xA3 ∷ 0xBB ∷ 0x8B ∷ 0xEB ∷ 0x2B ∷ []
  -- how many go: all that lead, up to 16; and `Drops` holds of no other number
  pub drops : (burst : List ℕ) → Drops burst (lead burst)
  pub drops_only : (burst : List ℕ) (n : ℕ) → Drops burst n → n ≡ lead burst
  -- the stripping says how many: in a call of its own, and by the length of the part that it hands back
  pub strip_says : (burst part : Bor (List ℕ)) (n : ℕ) → StripPromise burst part → LeadingPromise burst.now n
      → (n ≤ 16) × (n + length part.now ≡ length burst.now)
  -- every answer of the vote, a refusal too, has the three numbers
  pub carries : (a b c out : List ℕ) (r : VoteAnswer) (left : List ℕ) → VotePromise a b c out r left
      → Carries r (lead a) (lead b) (lead c) × (r.first ≤ 16) × (r.second ≤ 16) × (r.third ≤ 16)
  -- twenty leading AB bytes leave four; n of them leave n less at most 16
  pub twenty_leave_four : (rest : List ℕ) → stripped (replicate 20 0xAB ++ rest) ≡ replicate 4 0xAB ++ rest
  pub from_16 : (n : ℕ) (rest : List ℕ) → 16 ≤ n → stripped (replicate n 0xAB ++ rest) ≡ replicate (n - 16) 0xAB ++ rest
  pub only_ab : (n : ℕ) → (lead (replicate n 0xAB) ≡ min n 16) × (stripped (replicate n 0xAB) ≡ replicate (n - min n 16) 0xAB)
  -- paper 01's rule, which dropped the whole run of AB bytes: the part is the same where at most 16 of them lead and, if fewer, the next
  -- byte does not count; and nowhere else
  pub as_01 : (burst : List ℕ) → whole_run burst ≤ 16 → (whole_run burst < 16 → preamble (get_or burst (whole_run burst) 0) ≡ false)
      → stripped burst ≡ drop (whole_run burst) burst
  pub as_01_only : (burst : List ℕ) → stripped burst ≡ drop (whole_run burst) burst
      → (whole_run burst ≤ 16) × (whole_run burst < 16 → preamble (get_or burst (whole_run burst) 0) ≡ false)
  -- a preamble, clean or dirty, is dropped whole, and what follows is left: whatever follows 16 bytes, and a text that begins with Z (5A)
  -- after fewer too
  pub dropped_whole : (p rest : List ℕ) → Before p rest → (lead (p ++ rest) ≡ length p) × (stripped (p ++ rest) ≡ rest)
  pub after_16 : (p rest : List ℕ) → Preamble p → length p ≡ 16 → stripped (p ++ rest) ≡ rest
  pub text_kept : (p text : List ℕ) → Preamble p → stripped (p ++ (0x5A ∷ text)) ≡ 0x5A ∷ text
  -- so behind three preambles paper 01's consequence is about the texts as they came through, x, y and z, and the numbers are the
  -- lengths of the preambles
  pub gives : (h p q s x y z out : List ℕ) (r : VoteAnswer) (left : List ℕ) → Before p x → Before q y → Before s z
      → OfBytes h (p ++ x) (q ++ y) (s ++ z) → 1 ≤ length h → length h ≤ 252 → length h ≤ length out
      → length (p ++ x) ≤ 268 → length (q ++ y) ≤ 268 → length (s ++ z) ≤ 268 → voted_length x y z ≡ length h
      → ((i k : ℕ) → i < length h → k < 8 → Two (Right h i k x) (Right h i k y) (Right h i k z))
      → VotePromise (p ++ x) (q ++ y) (s ++ z) out r left
      → (said_vote r ≡ granted (length h)) × (left ≡ pasted out 0 h) × Carries r (length p) (length q) (length s)
