-- Paper 01, "From bursts to one text": the voting rule; and "Numbers and what they leave": the vote's 1, 2, 4, 13, 3.
use Rattle.std.specs.Prelude.{ℕ, min, max, Bool, false, not, ◌||◌, List, [], ◌∷◌, ◌++◌, length, take, drop, eqb, ltb}
use Rattle.laws.specs.Order.{Said, granted, refused, refused_at, Row, ◌when◌, in_order}
use Rattle.laws.specs.Lists.{table, lowest}
use Rattle.laws.specs.Space.{pasted, leaves}
use Rattle.burst.specs.Strip.{stripped}
use Rattle.burst.specs.Bits.{voted_byte}

-- three lengths put in order: the middle one
abbrev pub middle : ℕ → ℕ → ℕ → ℕ
middle x y z = max (min x y) (min (max x y) z)

-- the bytes at position i of those bursts that reach so far: none to three
abbrev pub heard : List ℕ → List ℕ → List ℕ → ℕ → List ℕ
heard a b c i = take 1 (drop i a) ++ take 1 (drop i b) ++ take 1 (drop i c)

-- where only two reach, the two bytes must be equal
unfoldable pub clash : List ℕ → Bool
clash [] = false
clash (x ∷ []) = false
clash (x ∷ y ∷ []) = not (eqb x y)
clash (x ∷ y ∷ z ∷ l) = false

-- the byte that is voted: of three by bits, of two, which are equal, either
unfoldable pub settled : List ℕ → ℕ
settled [] = 0
settled (x ∷ []) = x
settled (x ∷ y ∷ []) = x
settled (x ∷ y ∷ z ∷ l) = voted_byte x y z

-- of three stripped bursts: the voted length, the lowest of n positions at which two bytes clash (or n), and a text of n bytes
abbrev pub voted_length : List ℕ → List ℕ → List ℕ → ℕ
voted_length a b c = middle (length a) (length b) (length c)

abbrev pub clash_at : List ℕ → List ℕ → List ℕ → ℕ → ℕ
clash_at a b c n = lowest (λ i. clash (heard a b c i)) 0 n

abbrev pub voted_text : List ℕ → List ℕ → List ℕ → ℕ → List ℕ
voted_text a b c n = table n (λ i. settled (heard a b c i))

-- of three received bursts: one is over 268 bytes
unfoldable pub too_long : List ℕ → List ℕ → List ℕ → Bool
too_long a b c = ltb 268 (length a) || (ltb 268 (length b) || ltb 268 (length c))

-- the order of the numbers: whether a burst is too long, the voted length n, the lowest clash k, and the room lent
abbrev pub vote_rows : Bool → ℕ → ℕ → ℕ → List (Row (Said ℕ))
vote_rows long n k room =
    refused 1 when long
    ∷ refused 2 when eqb n 0
    ∷ refused_at 4 252 when ltb 252 n
    ∷ refused 13 when ltb room n
    ∷ refused_at 3 k when ltb k n
    ∷ []

-- what the vote says of three received bursts and the room lent
unfoldable pub vote_says : List ℕ → List ℕ → List ℕ → ℕ → Said ℕ
vote_says a b c room =
    let n = voted_length (stripped a) (stripped b) (stripped c) in
    let k = clash_at (stripped a) (stripped b) (stripped c) n in
    in_order (vote_rows (too_long a b c) n k room) (granted n)

-- what it leaves in the space lent: the voted text over the front where it was granted
unfoldable pub vote_leaves : List ℕ → List ℕ → List ℕ → List ℕ → List ℕ
vote_leaves a b c out =
    leaves (λ n d. pasted d 0 (voted_text (stripped a) (stripped b) (stripped c) n)) (vote_says a b c (length out)) out
