-- What a line says, as its form has it: the values in their order, and the index after the line.
use Rattle.std.specs.Prelude.{ℕ, Result, Ok, Err}
use Rattle.laws.specs.Order.{Said, granted}
use Rattle.refusals.specs.Refusals.{says}
use Rattle.refusals.specs.declared.Refusal.{Refusal}
use Rattle.clock.specs.declared.Clock.{Clock}
use Rattle.input_lines.specs.declared.HeaderLine.{HeaderLine}
use Rattle.input_lines.specs.declared.SubLine.{SubLine}

abbrev pub now_parts : Clock → ℕ × (ℕ × (ℕ × ℕ))
now_parts l = (l.year, (l.day, (l.hour, l.minute)))

abbrev pub sub_parts : SubLine → ℕ × (ℕ × ℕ)
sub_parts l = (l.place, (l.client, l.wish))

-- where a header stands, and the index after its line
abbrev pub header_parts : HeaderLine × ℕ → ℕ × (ℕ × ℕ)
header_parts (l, after) = (l.from, (l.to, after))

abbrev pub with_index : {A B : Type 0} → (A → B) → A × ℕ → B × ℕ
with_index f (a, after) = (f a, after)

-- what a result says, its value by f
abbrev pub said_as : {A B : Type 0} → (A → B) → Result A Refusal → Said B
said_as f (Ok a) = granted (f a)
said_as f (Err e) = says e
