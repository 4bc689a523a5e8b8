-- The answers of the calls, in the paper's numbers and values.
use Rattle.std.specs.Prelude.{ℕ, ◌-◌, List, ◌++◌, length, take, replicate, Result, Ok, Err}
use Rattle.laws.specs.Order.{Said, granted, refused, refused_at}
use Rattle.refusals.specs.Refusals.{says}
use Rattle.header.specs.Header.{Alert}
use Rattle.header.specs.declared.Fields.{Fields}
use Rattle.refusals.specs.declared.Refusal.{Refusal}

-- ---- the fields that a call is handed or hands back: 31 places, of which `count` stand

-- the places that stand; a count over 31 is a list that is too long
abbrev pub counted : List ℕ → ℕ → List ℕ
counted places count = take count (places ++ replicate count 0)

abbrev pub alert_in : Fields → Alert
alert_in f = record {
  origin = f.origin;
  event = f.event;
  places = counted f.places f.count;
  minutes = f.duration;
  day = f.day;
  hour = f.hour;
  minute = f.minute;
  sender = f.sender;
}

-- the fields of an alert, with zeros behind its places; all zeros where there is none
abbrev pub fields_of : Alert → Fields
fields_of a = record {
  origin = a.origin;
  event = a.event;
  places = a.places ++ replicate (31 - length a.places) 0;
  count = length a.places;
  duration = a.minutes;
  day = a.day;
  hour = a.hour;
  minute = a.minute;
  sender = a.sender;
}

abbrev pub no_fields : Fields
no_fields = record {
  origin = replicate 3 0;
  event = replicate 3 0;
  places = replicate 31 0;
  count = 0;
  duration = 0;
  day = 0;
  hour = 0;
  minute = 0;
  sender = replicate 8 0;
}

abbrev pub fields_for : Said Alert → Fields
fields_for (granted a) = fields_of a
fields_for (refused n) = no_fields
fields_for (refused_at n i) = no_fields

-- ---- what the answer says

-- the answer of `read`
abbrev pub said_read : Result Fields Refusal → Said Alert
said_read (Ok f) = granted (alert_in f)
said_read (Err e) = says e

-- the fields that it hands back; all zeros where there are none
abbrev pub fields_read : Result Fields Refusal → Fields
fields_read (Ok f) = f
fields_read (Err e) = no_fields
