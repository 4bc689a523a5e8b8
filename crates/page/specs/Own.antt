-- Demand 3, of printed pages: inputs by their lines. The first three stand as they are; then come `sub=` lines, each well formed and
-- granted, and nothing after the last of them.
use Rattle.std.specs.Prelude.{ℕ, true, ◌≡◌, List, [], ◌∷◌, ◌++◌, map}
use Rattle.laws.specs.Order.{granted}
use Rattle.laws.specs.Lists.{every}
use Rattle.input_lines.specs.Lines.{pieces, is_line}
use Rattle.input_lines.specs.Forms.{sub_line}
use Rattle.input_lines.specs.LineByLine.{each_done}
use Rattle.book_rules.specs.Rules.{empty}
use Rattle.book_rules.specs.Subscription.{Sub, sub}
use Rattle.page.specs.Input.{adds_line}

-- the subscription of a `sub=` line
abbrev pub sub_in : ℕ × (ℕ × ℕ) → Sub
sub_in (place, (client, wish)) = sub place client wish

abbrev pub subs_in : List (List ℕ) → List Sub
subs_in lines = map (λ line. sub_in (sub_line.value line)) lines

pub record GrantedInput (text now client header : List ℕ) (subs : List (List ℕ)) : Type 0 where
  pub lines : pieces text ≡ now ∷ client ∷ header ∷ (subs ++ ([] ∷ []))
  pub formed : every (is_line sub_line) subs ≡ true
  pub book : List ℕ
  pub granted_all : each_done adds_line empty (map sub_line.value subs) ≡ granted book
