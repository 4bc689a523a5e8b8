-- What the calls promise of a text and an index in it, or past it.
use Rattle.std.specs.Prelude.{ℕ, ◌≡◌, Bool, List, drop, Option, Result}
use Rattle.refusals.specs.Refusals.{said}
use Rattle.refusals.specs.declared.Refusal.{Refusal}
use Rattle.codec.specs.Kind.{Kind}
use Rattle.codec.specs.Codec.{fits, is, either, step, field}
use Rattle.header.specs.Header.{dash, plus, place, duration, issue}
use Rattle.header_fields.specs.Says.{told, minutes_says, issue_says}
use Rattle.header_fields.specs.declared.Issue.{Issue}

-- whether the field and `-` stand there
pub record StandsPromise {A : Type 0} (k : Kind A) (text : List ℕ) (at : ℕ) (r : Bool) : Type 0 where
  pub says : r ≡ fits k (is dash) (drop at text)

-- a place, with either mark
pub record PlaceAtPromise (text : List ℕ) (at : ℕ) (r : Result (ℕ × ℕ) Refusal) : Type 0 where
  pub says : said r ≡ told (step 8 place (either dash plus) (drop at text) at)

pub record MinutesAtPromise (text : List ℕ) (at : ℕ) (r : Option ℕ) : Type 0 where
  pub says : minutes_says text at r ≡ (field 9 duration dash).get (drop at text) at

pub record IssueAtPromise (text : List ℕ) (at : ℕ) (r : Option Issue) : Type 0 where
  pub says : issue_says text at r ≡ (field 10 issue dash).get (drop at text) at
