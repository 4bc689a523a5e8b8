-- What reading, writing and reporting over words promise: the number that they answer, and every lent word or byte afterwards.
use Rattle.std.specs.Prelude.{ℕ, List, ◌≡◌, length}
use Rattle.laws.specs.Space.{pasted, leaves}
use Rattle.header.specs.Header.{text_of}
use Rattle.header.specs.Answers.{fields_of, alert_in}
use Rattle.clock.specs.declared.Clock.{Clock}
use Rattle.report.specs.Promise.{writes_hits}
use Rattle.c_answers.specs.Answer.{in_halves}
use Rattle.c_words.specs.Words.{words_of, fields_in, summary_words}
use Rattle.c_words.specs.Says.{fields_say, how_many, text_says, summary_says, how_many_hits}

-- ---- header texts

-- lent words that hold d at first and left at last
pub record ReadWordsPromise (text d : List ℕ) (r : ℕ) (left : List ℕ) : Type 0 where
  pub says : r ≡ in_halves (how_many (fields_say text (length d)))
  pub space : left ≡ leaves (λ a out. pasted out 0 (words_of (fields_of a))) (fields_say text (length d)) d

-- fields w, and lent bytes that hold d at first and left at last
pub record WriteWordsPromise (w d : List ℕ) (r : ℕ) (left : List ℕ) : Type 0 where
  pub says : r ≡ in_halves (text_says w (length d))
  pub space : left ≡ leaves (λ n out. pasted out 0 (text_of (alert_in (fields_in w)))) (text_says w (length d)) d

-- ---- the report: lent words for the summary, which hold d, and for the hits, which hold h

pub record ReportWordsPromise (book : List ℕ) (client : ℕ) (text : List ℕ) (at : Clock) (d h : List ℕ) (r : ℕ) (left rest : List ℕ) : Type 0 where
  pub says : r ≡ in_halves (how_many_hits (summary_says book client text at (length d) (length h)))
  pub summary : left ≡ leaves (λ g out. pasted out 0 (summary_words g.summary)) (summary_says book client text at (length d) (length h)) d
  pub hits : rest ≡ leaves writes_hits (summary_says book client text at (length d) (length h)) h
