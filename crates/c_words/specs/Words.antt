-- Fields and summaries as words, in the order that they are lent from outside.
use Rattle.std.specs.Prelude.{ℕ, List, [], ◌∷◌, ◌++◌, map, take, drop, get_or, ltb}
use Rattle.laws.specs.Order.{choose}
use Rattle.laws.specs.Lists.{one}
use Rattle.header.specs.declared.Fields.{Fields}
use Rattle.clock.specs.declared.Stamp.{Stamp}
use Rattle.clock.specs.declared.Phase.{Phase}
use Rattle.clock.specs.declared.Phase.TheVariants.{Early, Live, Expired}
use Rattle.report.specs.declared.Summary.{Summary}
use Rattle.c_answers.specs.Answer.{capped}

-- ---- the 50 words of a header's fields: origin 3, event 3, count, minutes, day, hour, minute, sender 8, places 31

abbrev pub numbers_of : Fields → List ℕ
numbers_of f = f.count ∷ f.duration ∷ f.day ∷ f.hour ∷ f.minute ∷ []

unfoldable pub front_words : Fields → List ℕ
front_words f = (f.origin ++ f.event) ++ numbers_of f

unfoldable pub back_words : Fields → List ℕ
back_words f = f.sender ++ f.places

unfoldable pub words_of : Fields → List ℕ
words_of f = front_words f ++ back_words f

-- and the fields of 50 words. A word over 255 where a byte is meant is taken as the byte 0, which none of the three fields allows
abbrev pub byte_of : ℕ → ℕ
byte_of w = choose (ltb w 256) w 0

abbrev pub bytes_at : ℕ → ℕ → List ℕ → List ℕ
bytes_at n at w = map byte_of (take n (drop at w))

unfoldable pub places_in : List ℕ → List ℕ
places_in w = take 31 (drop 19 w)

unfoldable pub fields_in : List ℕ → Fields
fields_in w = record {
  origin = bytes_at 3 0 w;
  event = bytes_at 3 3 w;
  places = places_in w;
  count = get_or w 6 0;
  duration = get_or w 7 0;
  day = get_or w 8 0;
  hour = get_or w 9 0;
  minute = get_or w 10 0;
  sender = bytes_at 8 11 w;
}

-- ---- the 16 words of a summary: month, day, hour, minute of the issue and of the end; event 3; listed; class; phase; hits; 0

abbrev pub stamp_words : Stamp → List ℕ
stamp_words s = s.month ∷ s.day ∷ s.hour ∷ s.minute ∷ []

-- 0 early, 1 live, 2 expired
abbrev pub phase_word : Phase → ℕ
phase_word Early = 0
phase_word Live = 1
phase_word Expired = 2

abbrev pub rest_words : Summary → List ℕ
rest_words s = one s.listed ∷ s.class ∷ phase_word s.times.phase ∷ capped s.hits ∷ 0 ∷ []

unfoldable pub summary_words : Summary → List ℕ
summary_words s = ((stamp_words s.times.issued ++ stamp_words s.times.until) ++ s.event) ++ rest_words s
