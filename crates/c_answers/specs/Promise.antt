-- What the calls that make an answer promise.
use Rattle.std.specs.Prelude.{ℕ, ◌+◌, ◌*◌, ◌≡◌, Bool, Result, Ok, Err}
use Rattle.laws.specs.Lists.{one}
use Rattle.laws.specs.Order.{Said}
use Rattle.refusals.specs.Refusals.{said}
use Rattle.refusals.specs.declared.Refusal.{Refusal}
use Rattle.c_answers.specs.Answer.{half, capped, in_halves, bare}

pub record CapPromise (v r : ℕ) : Type 0 where
  pub says : r ≡ capped v

pub record AnswerPromise (number sizeOrIndex r : ℕ) : Type 0 where
  pub says : r ≡ number + capped sizeOrIndex * half

-- of a value or an error, by what it says
pub record HalvesPromise {A : Type 0} (said_of : A → Said ℕ) (v : A) (r : ℕ) : Type 0 where
  pub says : r ≡ in_halves (said_of v)

-- what a result says, by what its value says and what its error says
abbrev pub said_by : {T E : Type 0} → (T → Said ℕ) → (E → Said ℕ) → Result T E → Said ℕ
said_by value error (Ok v) = value v
said_by value error (Err e) = error e

-- of any result; the four below are its instances for the results of the project's calls
pub record ToldPromise {T E : Type 0} (value : T → Said ℕ) (error : E → Said ℕ) (s : Result T E) (r : ℕ) : Type 0 where
  pub says : r ≡ in_halves (said_by value error s)

-- a vote, a printed text and a written text name a length; an edit names nothing
pub record VotedPromise (v : Result ℕ Refusal) (r : ℕ) : Type 0 where
  pub says : r ≡ in_halves (said v)

pub record PrintedPromise (p : Result ℕ Refusal) (r : ℕ) : Type 0 where
  pub says : r ≡ in_halves (said p)

pub record WrotePromise (w : Result ℕ Refusal) (r : ℕ) : Type 0 where
  pub says : r ≡ in_halves (said w)

pub record EditedPromise (e : Result (Unit {0}) Refusal) (r : ℕ) : Type 0 where
  pub says : r ≡ in_halves (bare (said e))

-- 1 for yes, 0 for no
pub record YesPromise (b : Bool) (r : ℕ) : Type 0 where
  pub says : r ≡ one b
