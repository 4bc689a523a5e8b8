-- What the calls on events promise, for any three bytes.
use Rattle.std.specs.Prelude.{ℕ, Bool, ◌≡◌}
use Rattle.event.specs.Events.{code, is_listed}
use Rattle.event.specs.Class.{class_of}
use Rattle.event.specs.declared.ListedClass.{ListedClass}

pub record ListedPromise (a b c : ℕ) (r : Bool) : Type 0 where
  pub says : r ≡ is_listed (code a b c)

pub record ClassPromise (a b c r : ℕ) : Type 0 where
  pub says : r ≡ class_of (code a b c)

pub record ListedClassPromise (a b c : ℕ) (r : ListedClass) : Type 0 where
  pub listed : r.listed ≡ is_listed (code a b c)
  pub class : r.class ≡ class_of (code a b c)
