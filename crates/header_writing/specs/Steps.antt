-- What the private functions of the writer answer, in the terms of the table.
use Rattle.std.specs.Prelude.{ℕ, List, ◌++◌, Bool, ◌&&◌, length, take}
use Rattle.laws.specs.Lists.{every}
use Rattle.laws.specs.Numbers.{within}
use Rattle.codec.specs.Codec.{field, text_list}
use Rattle.header.specs.Header.{dash, plus, start, origin, event, place, duration, issue, sender}
use Rattle.header.specs.declared.Fields.{Fields}

abbrev pub codes_ok : List ℕ → Bool
codes_ok ps = within 1 31 (length ps) && every place.ok ps

unfoldable pub places_text : List ℕ → List ℕ
places_text = text_list place dash plus

unfoldable pub duration_text : ℕ → List ℕ
duration_text m = (field 9 duration dash).text m

unfoldable pub issue_text : ℕ → ℕ → ℕ → List ℕ
issue_text d h m = (field 10 issue dash).text (d, (h, m))

unfoldable pub opening_text : Fields → List ℕ
opening_text f = (field 5 start dash).text tt ++ ((field 6 origin dash).text f.origin ++ (field 7 event dash).text f.event)

unfoldable pub closing_text : Fields → List ℕ
closing_text f = duration_text f.duration ++ (issue_text f.day f.hour f.minute ++ (field 11 sender dash).text f.sender)

unfoldable pub all_text : Fields → List ℕ
all_text f = opening_text f ++ (places_text (take f.count f.places) ++ closing_text f)
