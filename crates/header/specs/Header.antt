-- Paper 01, "The header text": ZCZC-ORG-EEE-PSSCCC-..-PSSCCC+TTTT-JJJHHMM-LLLLLLLL-
use Rattle.std.specs.Prelude.{ℕ, ◌+◌, ◌*◌, ◌/◌, ◌%◌, List, [], ◌∷◌, Bool, ◌&&◌, ◌||◌, not, leb, eqb}
use Rattle.laws.specs.Order.{Quiet}
use Rattle.laws.specs.Lists.{every, some}
use Rattle.laws.specs.Numbers.{within}
use Rattle.laws.specs.Text.{ascii, one_of}
use Rattle.codec.specs.Kind.{Kind, nothing, bytes, digits, ◌⊗◌, tag, kept, only}
use Rattle.codec.specs.Codec.{Codec, field, ◌▷◌, list_of}

-- ---- what is allowed

-- the marks `-` and `+`
abbrev pub dash : ℕ
dash = 45

abbrev pub plus : ℕ
plus = 43

-- EAS, CIV, WXR or PEP
abbrev pub is_origin : List ℕ → Bool
is_origin = one_of ("EAS" ∷ "CIV" ∷ "WXR" ∷ "PEP" ∷ [])

-- letters A to Z
abbrev pub is_event : List ℕ → Bool
is_event = every (within 65 90)

-- 0015, 0030, 0045, or HH00 and HH30 with HH 01 to 99: the hours and the minutes as they are written
abbrev pub is_duration_of : ℕ × ℕ → Bool
is_duration_of (hours, minutes) =
    (eqb hours 0 && some (eqb minutes) (15 ∷ 30 ∷ 45 ∷ []))
    || (within 1 99 hours && some (eqb minutes) (0 ∷ 30 ∷ []))

-- day 001 to 366, hour 00 to 23, minute 00 to 59
abbrev pub is_issue : ℕ → ℕ → ℕ → Bool
is_issue day hour minute = within 1 366 day && (leb hour 23 && leb minute 59)

-- bytes from 32 to 126, none of them `-` or `+`
abbrev pub is_sender_byte : ℕ → Bool
is_sender_byte x = within 32 126 x && (not (eqb x dash) && not (eqb x plus))

abbrev pub is_sender : List ℕ → Bool
is_sender = every is_sender_byte

-- ---- the fields

abbrev pub start : Kind (Unit {0})
start = tag (ascii "ZCZC") nothing

abbrev pub origin : Kind (List ℕ)
origin = only is_origin (bytes 3)

abbrev pub event : Kind (List ℕ)
event = only is_event (bytes 3)

abbrev pub place : Kind ℕ
place = digits 6

-- kept in minutes
abbrev pub in_minutes : ℕ × ℕ → ℕ
in_minutes (hours, minutes) = hours * 60 + minutes

abbrev pub in_hours : ℕ → ℕ × ℕ
in_hours m = (m / 60, m % 60)

abbrev pub duration : Kind ℕ
duration = kept is_duration_of in_minutes in_hours (digits 2 ⊗ digits 2)

abbrev pub is_moment : ℕ × (ℕ × ℕ) → Bool
is_moment (day, (hour, minute)) = is_issue day hour minute

abbrev pub issue : Kind (ℕ × (ℕ × ℕ))
issue = only is_moment (digits 3 ⊗ (digits 2 ⊗ digits 2))

abbrev pub sender : Kind (List ℕ)
sender = only is_sender (bytes 8)

-- minutes that a text can say
unfoldable pub is_duration : ℕ → Bool
is_duration minutes = duration.ok minutes

-- ---- the table: field, mark, and the number if not

-- start, origin, event, places, minutes, and day, hour, minute of the issue
abbrev pub Front : Type 0
Front = Unit {0} × (List ℕ × (List ℕ × (List ℕ × (ℕ × (ℕ × (ℕ × ℕ))))))

unfoldable pub front : Codec Front
front =
    field 5 start dash
    ▷ field 6 origin dash
    ▷ field 7 event dash
    ▷ list_of 31 8 place dash plus
    ▷ field 9 duration dash
    ▷ field 10 issue dash

unfoldable pub header : Codec (Front × List ℕ)
header = front ▷ field 11 sender dash

-- ---- what a header says

pub record Alert : Type 0 where
  pub origin : List ℕ
  pub event : List ℕ
  pub places : List ℕ
  pub minutes : ℕ
  pub day : ℕ
  pub hour : ℕ
  pub minute : ℕ
  pub sender : List ℕ

abbrev pub alert_of : Front × List ℕ → Alert
alert_of ((u, (o, (e, (ps, (m, (d, (h, n))))))), s) = record {
  origin = o;
  event = e;
  places = ps;
  minutes = m;
  day = d;
  hour = h;
  minute = n;
  sender = s;
}

abbrev pub parts_of : Alert → Front × List ℕ
parts_of a = ((tt, (a.origin, (a.event, (a.places, (a.minutes, (a.day, (a.hour, a.minute))))))), a.sender)

-- its text, and whether every field of it is allowed
unfoldable pub text_of : Alert → List ℕ
text_of a = header.text (parts_of a)

unfoldable pub WellFormed : Alert → Type 0
WellFormed a = Quiet (header.faults (parts_of a))
