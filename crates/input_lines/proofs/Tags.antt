-- A word and a number after it are the head and the tail of one part of the line, so the two tests of the code are the tests of its kind.
use Prim.Native.Nat.{ℕ, ◌+◌, ◌≤◌}
use mathlib.Core.Path.{◌≡◌, refl, ap, ◌∙◌}
use mathlib.Core.List.{List}
use mathlib.Core.Bool.{Bool, true, false, ◌&&◌}
use native.Mathlib.Omega.{arith}
use lib.ListN.{length, take, drop}
use lib.Dec.{eqb}
use Rattle.std.specs.Prelude.{Some, None, slice_range}
use Rattle.std.specs.List.{starts_with}
use Rattle.laws.specs.Order.{choose}
use Rattle.laws.specs.Lists.{every, same}
use Rattle.laws.specs.Numbers.{digit, decimal}
use Rattle.laws.proofs.Clash.{clash}
use Rattle.laws.proofs.Prefixes.{starts_same}
use Rattle.laws.proofs.Parts.{part_head, part_tail}
use Rattle.codec.specs.Kind.{digits, tag}
use Rattle.codec.specs.Promise.{number_at}
use Rattle.codec.proofs.Numbers.{number_is, number_none}
use Rattle.input_lines.specs.Steps.{tagged_of}
use Rattle.input_lines.proofs.Ends.{rest_is}

-- a word at the front of what is left
pub word_is : (word l : List ℕ) (at : ℕ) → starts_with eqb (slice_range l at (length l)) word ≡ same (take (length word) (drop at l)) word
word_is word l at = starts_same (slice_range l at (length l)) word ∙ ap (λ (r : List ℕ). same (take (length word) r) word) (rest_is l at)

module _ (word : List ℕ) (w : ℕ) (l : List ℕ) (at : ℕ) where
  pub tag_no : same (take (length word) (drop at l)) word ≡ false → None ≡ tagged_of word w l at
  unfolding tagged_of
  tag_no h = simp h

  pub tag_yes : same (take (length word) (drop at l)) word ≡ true → number_at l (at + length word) w ≡ tagged_of word w l at
  unfolding tagged_of
  tag_yes h = simp h

  -- what it says of the bytes there
  abbrev part : List ℕ
  part = take (length word + w) (drop at l)

  head : take (length word) part ≡ take (length word) (drop at l)
  head = part_head l at (length word + w) (length word) (omega arith)

  tail : drop (length word) part ≡ take w (drop (at + length word) l)
  tail = part_tail l at (length word) w

  pub tag_is : (n : ℕ) → tagged_of word w l at ≡ Some n → ((tag word (digits w)).allowed part ≡ true) × ((tag word (digits w)).value part ≡ n)
  unfolding tagged_of
  tag_is n e =
      let r = go (same (take (length word) (drop at l)) word) e in
      ((λ q. same (head q) word && every digit (tail q)) ∙ r.0, ap decimal tail ∙ r.1)
    where
      go : (t : Bool) → choose t (number_at l (at + length word) w) None ≡ Some n
          → (t && every digit (take w (drop (at + length word) l)) ≡ true) × (decimal (take w (drop (at + length word) l)) ≡ n)
      go true e = number_is l (at + length word) w n e
      go false e = clash cc

  pub tag_none : w ≤ 9 → at + length word + w ≤ length l → tagged_of word w l at ≡ None → (tag word (digits w)).allowed part ≡ false
  unfolding tagged_of
  tag_none h k e = (λ q. same (head q) word && every digit (tail q)) ∙ go (same (take (length word) (drop at l)) word) e
    where
      go : (t : Bool) → choose t (number_at l (at + length word) w) None ≡ None → t && every digit (take w (drop (at + length word) l)) ≡ false
      go true e = number_none l (at + length word) w h k e
      go false e = refl
