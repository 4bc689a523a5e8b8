-- Paper 01, "The report program": what it prints.
use Rattle.std.specs.Prelude.{ℕ, List, [], ◌∷◌, ◌++◌, Bool, true, false, length}
use Prim.Native.String.{String}
use Rattle.laws.specs.Numbers.{plain}
use Rattle.laws.specs.Text.{ascii}
use Rattle.codec.specs.Kind.{Kind, digits, ◌⊗◌, tag}
use Rattle.clock.specs.declared.Stamp.{Stamp}
use Rattle.clock.specs.declared.Phase.{Phase}
use Rattle.clock.specs.declared.Phase.TheVariants.{Early, Live, Expired}
use Rattle.clock.specs.declared.Times.{Times}

-- a line: a word, and what it says
abbrev pub line : String → List ℕ → List ℕ
line word says = ascii word ++ says

-- the text of some lines: every line ends with byte 10
unfoldable pub ended : List (List ℕ) → List ℕ
ended [] = []
ended (l ∷ ls) = l ++ (10 ∷ ended ls)

-- ---- values

-- `06-07 18:29`: month-day, time
abbrev pub stamp : Kind (ℕ × (ℕ × (ℕ × ℕ)))
stamp = digits 2 ⊗ tag (ascii "-") (digits 2) ⊗ tag (ascii " ") (digits 2) ⊗ tag (ascii ":") (digits 2)

abbrev pub stamp_text : Stamp → List ℕ
stamp_text s = stamp.put (s.month, (s.day, (s.hour, s.minute)))

-- `039051 01`: place and wish
abbrev pub hit : Kind (ℕ × ℕ)
hit = digits 6 ⊗ tag (ascii " ") (digits 2)

abbrev pub yes_no : Bool → List ℕ
yes_no true = ascii "yes"
yes_no false = ascii "no"

abbrev pub phase_text : Phase → List ℕ
phase_text Early = ascii "early"
phase_text Live = ascii "live"
phase_text Expired = ascii "expired"

-- ---- lines

abbrev pub hit_line : ℕ → ℕ → List ℕ
hit_line place wish = line "hit=" (hit.put (place, wish))

-- each hit's place and wish, of words that are pairs of them: a last word that has no second is no hit
unfoldable pub hit_lines : List ℕ → List (List ℕ)
hit_lines [] = []
hit_lines (place ∷ []) = []
hit_lines (place ∷ (wish ∷ hits)) = hit_line place wish ∷ hit_lines hits

-- the client, issue and end, event, whether listed, class, phase, number of hits (plain decimal), and each hit
unfoldable pub page_lines : ℕ → Times → List ℕ → Bool → ℕ → List ℕ → List (List ℕ)
page_lines client times event listed class hits =
    line "client=" ((digits 4).put client)
    ∷ line "issued=" (stamp_text times.issued)
    ∷ line "until=" (stamp_text times.until)
    ∷ line "event=" event
    ∷ line "listed=" (yes_no listed)
    ∷ line "class=" ((digits 1).put class)
    ∷ line "state=" (phase_text times.phase)
    ∷ line "hits=" (plain (length (hit_lines hits)))
    ∷ hit_lines hits

-- any refusal prints only `refused=N`, N in plain decimal
abbrev pub refused_line : ℕ → List ℕ
refused_line number = line "refused=" (plain number)

-- ---- texts

unfoldable pub page_text : ℕ → Times → List ℕ → Bool → ℕ → List ℕ → List ℕ
page_text client times event listed class hits = ended (page_lines client times event listed class hits)

unfoldable pub refused_text : ℕ → List ℕ
refused_text number = ended (refused_line number ∷ [])

-- the most bytes that a page of at most 4,096 hits and an event of three letters takes
abbrev pub page_room : ℕ
page_room = 57446
