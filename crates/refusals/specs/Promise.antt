-- What the calls on a refusal promise.
use Rattle.std.specs.Prelude.{ℕ, ◌≡◌, Option, None, Some}
use Rattle.laws.specs.Order.{Said, granted, refused, refused_at}
use Rattle.refusals.specs.Refusals.{says, number_of}
use Rattle.refusals.specs.declared.Refusal.{Refusal}

abbrev pub index_in : {A : Type 0} → Said A → Option ℕ
index_in (granted a) = None
index_in (refused n) = None
index_in (refused_at n i) = Some i

pub record NumberPromise (e : Refusal) (r : ℕ) : Type 0 where
  pub says : r ≡ number_of (says {A = ℕ} e)

pub record IndexPromise (e : Refusal) (r : Option ℕ) : Type 0 where
  pub says : r ≡ index_in (says {A = ℕ} e)
