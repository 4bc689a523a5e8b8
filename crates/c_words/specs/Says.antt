-- What reading, writing and reporting over words say: what the crates below say, and 13 for too few words.
use Rattle.std.specs.Prelude.{ℕ, List, [], ◌∷◌, length, ltb}
use Rattle.laws.specs.Order.{Said, granted, refused, Row, ◌when◌, in_order, next}
use Rattle.header.specs.Header.{Alert}
use Rattle.header.specs.Reading.{read_says}
use Rattle.header.specs.Writing.{write_says}
use Rattle.header.specs.Answers.{alert_in}
use Rattle.clock.specs.declared.Clock.{Clock}
use Rattle.report.specs.Report.{Full, report_says}
use Rattle.c_words.specs.Words.{fields_in}

-- 13: so many words lent where so many are needed
abbrev pub enough : {A : Type 0} → ℕ → ℕ → List (Row (Said A))
enough needed words = refused 13 when ltb words needed ∷ []

-- a text read into fields: 4 to 12, then 13
unfoldable pub fields_say : List ℕ → ℕ → Said Alert
fields_say text words = next (read_says text) (λ a. in_order (enough 50 words) (granted a))

-- how many places a text that was read has
abbrev pub how_many : Said Alert → Said ℕ
how_many s = next s (λ a. granted (length a.places))

-- a text written from fields: 13 where there are no fields to judge, 6 to 11, then 13 for the room
unfoldable pub text_says : List ℕ → ℕ → Said ℕ
text_says w room = in_order (enough 50 (length w)) (write_says (alert_in (fields_in w)) room)

-- a report: 16, 17, the header's, 15, 14, then 13 for the hits or for the summary
unfoldable pub summary_says : List ℕ → ℕ → List ℕ → Clock → ℕ → ℕ → Said Full
summary_says book client text at words room = next (report_says book client text at room) (λ g. in_order (enough 16 words) (granted g))

-- how many hits a report has
abbrev pub how_many_hits : Said Full → Said ℕ
how_many_hits s = next s (λ g. granted (length g.hits))
