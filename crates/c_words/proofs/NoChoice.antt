-- Two answers that meet a promise are equal, with what they leave; and a refusal leaves lent space as it was.
use Prim.Native.Nat.{ℕ, ◌<◌}
use mathlib.Core.List.{List}
use mathlib.Core.Path.{◌≡◌, refl, sym, ◌∙◌}
use lib.ListN.{length}
use Rattle.laws.specs.Space.{pasted}
use Rattle.header.specs.Header.{text_of}
use Rattle.header.specs.Answers.{fields_of, alert_in}
use Rattle.clock.specs.declared.Clock.{Clock}
use Rattle.report.specs.Promise.{writes_hits}
use Rattle.c_answers.specs.Answer.{number_in}
use Rattle.c_answers.proofs.Keeps.{keeps, keeps_of}
use Rattle.c_words.specs.Words.{words_of, fields_in, summary_words}
use Rattle.c_words.specs.Says.{fields_say, text_says, summary_says}
use Rattle.c_words.specs.Promise.{ReadWordsPromise, WriteWordsPromise, ReportWordsPromise}

pub read_no_choice : (text d : List ℕ) (r q : ℕ) (left kept : List ℕ) → ReadWordsPromise text d r left → ReadWordsPromise text d q kept
    → (r ≡ q) × (left ≡ kept)
read_no_choice text d r q left kept a b = (a.says ∙ sym b.says, a.space ∙ sym b.space)

pub write_no_choice : (w d : List ℕ) (r q : ℕ) (left kept : List ℕ) → WriteWordsPromise w d r left → WriteWordsPromise w d q kept → (r ≡ q) × (left ≡ kept)
write_no_choice w d r q left kept a b = (a.says ∙ sym b.says, a.space ∙ sym b.space)

pub report_no_choice : (book : List ℕ) (client : ℕ) (text : List ℕ) (at : Clock) (d h : List ℕ) (r q : ℕ) (left rest kept held : List ℕ)
    → ReportWordsPromise book client text at d h r left rest → ReportWordsPromise book client text at d h q kept held → (r ≡ q) × (left ≡ kept) × (rest ≡ held)
report_no_choice book client text at d h r q left rest kept held a b = (a.says ∙ sym b.says, a.summary ∙ sym b.summary, a.hits ∙ sym b.hits)

pub read_refusal_writes_nothing : (text d : List ℕ) (r : ℕ) (left : List ℕ) → ReadWordsPromise text d r left → 0 < number_in r → left ≡ d
read_refusal_writes_nothing text d r left p =
    keeps_of (λ a. length a.places) (λ a out. pasted out 0 (words_of (fields_of a))) (fields_say text (length d)) d left r p.says p.space

pub write_refusal_writes_nothing : (w d : List ℕ) (r : ℕ) (left : List ℕ) → WriteWordsPromise w d r left → 0 < number_in r → left ≡ d
write_refusal_writes_nothing w d r left p =
    keeps (λ n out. pasted out 0 (text_of (alert_in (fields_in w)))) (text_says w (length d)) (text_says w (length d)) d left r refl p.says p.space

pub report_refusal_writes_nothing : (book : List ℕ) (client : ℕ) (text : List ℕ) (at : Clock) (d h : List ℕ) (r : ℕ) (left rest : List ℕ)
    → ReportWordsPromise book client text at d h r left rest → 0 < number_in r → (left ≡ d) × (rest ≡ h)
report_refusal_writes_nothing book client text at d h r left rest p low =
    let said = summary_says book client text at (length d) (length h) in (
      keeps_of (λ g. length g.hits) (λ g out. pasted out 0 (summary_words g.summary)) said d left r p.says p.summary low,
      keeps_of (λ g. length g.hits) writes_hits said h rest r p.says p.hits low,
    )
