-- What the answer to a read means, and what was read of an input.
use Rattle.std.specs.Prelude.{ℕ, ◌≡◌, ◌+◌, ◌<◌, ◌≤◌, eqb, List, [], ◌∷◌, length, take, Option, Result, Ok, Err, IfSome, IfOk}
use Rattle.std.specs.Io.KnownBytes.{Consumes}
use Rattle.std.specs.declared.ops.ControlFlow.{ControlFlow}
use Rattle.std.specs.declared.ops.ControlFlow.TheVariants.{Continue, Break}
use Rattle.laws.specs.Order.{choose}
use Rattle.laws.specs.Space.{pasted}

-- after n bytes: so many more; 0 at the end of the input, which then is whole; a read that failed is no end, and its error is handed on
abbrev pub after_read : {E : Type 0} → ℕ → Result ℕ E → ControlFlow (Result ℕ E) ℕ
after_read n (Ok k) = choose (eqb k 0) (Break (Ok n)) (Continue k)
after_read n (Err e) = Break (Err e)

-- one read: what it answered, and what it left of the space that it was lent
pub record OneRead (E : Type 0) : Type 0 where
  pub got : Result ℕ E
  pub left : List ℕ

-- what an answer makes of the whole, where more is what comes of reading on
abbrev pub reads_on : {E : Type 0} → ControlFlow (Result ℕ E) ℕ → (ℕ → Result ℕ E × List ℕ) → List ℕ → Result ℕ E × List ℕ
reads_on (Break r) more space = (r, space)
reads_on (Continue k) more space = more k

-- after n bytes, what comes of these reads, each lent what is behind the bytes that were read: the answer, and what the space then holds
unfoldable pub read_in_turn : {E : Type 0} → List (OneRead E) → ℕ → List ℕ → Result ℕ E × List ℕ
read_in_turn [] n space = (Ok n, space)
read_in_turn (r ∷ rs) n space = reads_on (after_read n r.got) (λ k. read_in_turn rs (n + k) (pasted space n r.left)) (pasted space n r.left)

-- an input that was read whole lies within the space
abbrev pub Within : {E : Type 0} → ℕ → Result ℕ E → Type 0
Within room r = IfOk r (λ n. n ≤ room)

-- an input that was read whole: its first bytes stand in the space, as many as there is room for
abbrev pub Holds : {E : Type 0} → Option (List ℕ) → List ℕ → Result ℕ E → Type 0
Holds input space r = IfOk r (λ n. IfSome input (λ xs. take n space ≡ take (length space) xs))

-- what stands at the space's front is gone from the input: all that was read whole; where a read failed, less than the space holds
abbrev pub Gone : {E : Type 0} → Option (List ℕ) → Option (List ℕ) → List ℕ → Result ℕ E → Type 0
Gone input rest space (Ok n) = Consumes input rest (take n space)
Gone input rest space (Err e) = (n : ℕ) × (n < length space) × Consumes input rest (take n space)
