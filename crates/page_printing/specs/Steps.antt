-- Steps of the code: parts of the page, and putting them one after the other.
use Rattle.std.specs.Prelude.{ℕ, ◌+◌, ◌*◌, ◌/◌, ◌≡◌, List, [], ◌∷◌, Bool, length}
use Rattle.laws.specs.Numbers.{dig}
use Rattle.laws.specs.Space.{pasted}
use Rattle.codec.specs.Kind.{digits}
use Rattle.clock.specs.declared.Stamp.{Stamp}
use Rattle.clock.specs.declared.Phase.{Phase}
use Rattle.page_printing.specs.Page.{line, stamp_text, yes_no, phase_text, hit_lines}

-- s was put at index `at` of d, which then holds d'; r is the index after it
pub record Puts (d : List ℕ) (at : ℕ) (s d' : List ℕ) (r : ℕ) : Type 0 where
  pub space : d' ≡ pasted d at s
  pub next : r ≡ at + length s

abbrev pub head_lines : ℕ → Stamp → Stamp → List (List ℕ)
head_lines client issued until =
    line "client=" ((digits 4).put client)
    ∷ line "issued=" (stamp_text issued)
    ∷ line "until=" (stamp_text until)
    ∷ []

abbrev pub what_lines : List ℕ → Bool → ℕ → Phase → List (List ℕ)
what_lines event listed class phase =
    line "event=" event
    ∷ line "listed=" (yes_no listed)
    ∷ line "class=" ((digits 1).put class)
    ∷ line "state=" (phase_text phase)
    ∷ []

-- the number of hits, in w digits, and each hit
abbrev pub found_lines : ℕ → List ℕ → List (List ℕ)
found_lines w hits = line "hits=" (dig w (length hits / 2)) ∷ hit_lines hits

-- how many bytes a page has whose number of hits has w digits, whose event has so many bytes, and which lists n hits
abbrev pub page_length : Bool → Phase → ℕ → ℕ → ℕ → ℕ
page_length listed phase w event n = 85 + length (yes_no listed) + length (phase_text phase) + w + event + 14 * n
