-- What the private steps do.
use Rattle.std.specs.Prelude.{ℕ, List, ◌≡◌, length, Result}
use Rattle.laws.specs.Order.{Said, granted, refused, in_order, next}
use Rattle.laws.specs.Space.{pasted, leaves}
use Rattle.refusals.specs.Refusals.{said}
use Rattle.refusals.specs.declared.Refusal.{Refusal}
use Rattle.header.specs.Header.{text_of}
use Rattle.header.specs.Answers.{fields_of, alert_in}
use Rattle.header.specs.declared.Fields.{Fields}
use Rattle.report.specs.Report.{Full}
use Rattle.report.specs.Promise.{writes_hits}
use Rattle.c_words.specs.Words.{words_of, fields_in, summary_words}
use Rattle.c_words.specs.Says.{enough, fields_say, how_many, text_says, how_many_hits}

-- fields that were read, given as words
abbrev pub given_says : Fields → ℕ → Said ℕ
given_says f words = in_order (enough 50 words) (granted f.count)

pub record Gives (f : Fields) (d : List ℕ) (r : Result ℕ Refusal) (left : List ℕ) : Type 0 where
  pub says : said r ≡ given_says f (length d)
  pub space : left ≡ leaves (λ n out. pasted out 0 (words_of f)) (given_says f (length d)) d

-- a text read, and the fields written, before the answer is put in halves
pub record ReadsFields (text d : List ℕ) (r : Result ℕ Refusal) (left : List ℕ) : Type 0 where
  pub says : said r ≡ how_many (fields_say text (length d))
  pub space : left ≡ leaves (λ a out. pasted out 0 (words_of (fields_of a))) (fields_say text (length d)) d

pub record WritesFields (w d : List ℕ) (r : Result ℕ Refusal) (left : List ℕ) : Type 0 where
  pub says : said r ≡ text_says w (length d)
  pub space : left ≡ leaves (λ n out. pasted out 0 (text_of (alert_in (fields_in w)))) (text_says w (length d)) d

-- a report where no summary can be given: what comes before 13, or 13
abbrev pub without_summary : Said Full → Said ℕ
without_summary s = next s (λ g. refused 13)

-- a report with room for its summary, in lent space d and hit space h
pub record ReportsWords (s : Said Full) (d h : List ℕ) (r : Result ℕ Refusal) (left rest : List ℕ) : Type 0 where
  pub says : said r ≡ how_many_hits s
  pub summary : left ≡ leaves (λ g out. pasted out 0 (summary_words g.summary)) s d
  pub hits : rest ≡ leaves writes_hits s h
