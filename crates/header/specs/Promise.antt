-- What the calls promise.
use Rattle.std.specs.Prelude.{ℕ, ◌≡◌, Bool, List, length, Result}
use Rattle.laws.specs.Space.{pasted, leaves}
use Rattle.refusals.specs.Refusals.{said}
use Rattle.refusals.specs.declared.Refusal.{Refusal}
use Rattle.header.specs.Header.{is_origin, is_event, is_sender, is_duration_of, is_issue, is_duration, text_of}
use Rattle.header.specs.Reading.{read_says}
use Rattle.header.specs.Writing.{write_says}
use Rattle.header.specs.Answers.{said_read, fields_read, fields_for, alert_in}
use Rattle.header.specs.declared.Fields.{Fields}

pub record ReadPromise (text : List ℕ) (r : Result Fields Refusal) : Type 0 where
  pub says : said_read r ≡ read_says text
  pub fields : fields_read r ≡ fields_for (read_says text)

-- of fields f and lent space that holds d at first and d' at last
pub record WritePromise (f : Fields) (d d' : List ℕ) (r : Result ℕ Refusal) : Type 0 where
  pub says : said r ≡ write_says (alert_in f) (length d)
  pub space : d' ≡ leaves (λ n out. pasted out 0 (text_of (alert_in f))) (write_says (alert_in f) (length d)) d

pub record IsIssuePromise (day hour minute : ℕ) (r : Bool) : Type 0 where
  pub says : r ≡ is_issue day hour minute

pub record IsDurationPromise (minutes : ℕ) (r : Bool) : Type 0 where
  pub says : r ≡ is_duration minutes

-- what one field allows: its bytes, or hours and minutes as they are written
pub record IsOriginPromise (b : List ℕ) (r : Bool) : Type 0 where
  pub says : r ≡ is_origin b

pub record IsEventPromise (b : List ℕ) (r : Bool) : Type 0 where
  pub says : r ≡ is_event b

pub record IsSenderPromise (b : List ℕ) (r : Bool) : Type 0 where
  pub says : r ≡ is_sender b

pub record IsDurationOfPromise (hours minutes : ℕ) (r : Bool) : Type 0 where
  pub says : r ≡ is_duration_of (hours, minutes)
