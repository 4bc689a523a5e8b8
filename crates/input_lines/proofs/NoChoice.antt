-- The promises leave no choice: an answer can be told from what it says, so two that meet one promise are equal. No call is lent space.
use Prim.Native.Nat.{ℕ}
use mathlib.Core.Path.{◌≡◌, refl, sym, ap, ◌∙◌}
use mathlib.Core.List.{List}
use Rattle.std.specs.Prelude.{Result, Ok, Err}
use Rattle.refusals.specs.declared.Refusal.{Refusal}
use Rattle.refusals.proofs.Apart.{says_one}
use Rattle.refusals.proofs.Said.{never_granted}
use Rattle.refusals.proofs.NoChoice.{said_one}
use Rattle.input_lines.specs.Answers.{now_parts, sub_parts, header_parts, with_index, said_as}
use Rattle.input_lines.specs.Promise.{NowLinePromise, ClientLinePromise, HeaderLinePromise, SubLinePromise}
use Rattle.clock.specs.declared.Clock.{Clock}
use Rattle.input_lines.specs.declared.HeaderLine.{HeaderLine}
use Rattle.input_lines.specs.declared.SubLine.{SubLine}

-- two results that say the same by f are one, where f is undone by g
said_as_one : {A B : Type 0} (f : A → B) (g : B → A) → ((a : A) → g (f a) ≡ a) → (r q : Result A Refusal) → said_as f r ≡ said_as f q → r ≡ q
said_as_one f g back (Ok a) (Ok b) e = let z : f a ≡ f b = cc in ap Ok (sym (back a) ∙ ap g z ∙ back b)
said_as_one f g back (Ok a) (Err y) e = never_granted y (sym e)
said_as_one f g back (Err x) (Ok b) e = never_granted x e
said_as_one {B = B} f g back (Err x) (Err y) e = ap Err (says_one {A = B} x y e)

abbrev now_back : (ℕ × (ℕ × (ℕ × ℕ))) × ℕ → Clock × ℕ
now_back ((y, (d, (h, m))), j) = (record { year = y; day = d; hour = h; minute = m }, j)

abbrev header_back : ℕ × (ℕ × ℕ) → HeaderLine × ℕ
header_back (from, (to, j)) = (record { from = from; to = to }, j)

abbrev sub_back : (ℕ × (ℕ × ℕ)) × ℕ → SubLine × ℕ
sub_back ((p, (c, w)), j) = (record { place = p; client = c; wish = w }, j)

pub now_line_no_choice : {input : List ℕ} {at : ℕ} {r q : Result (Clock × ℕ) Refusal} → NowLinePromise input at r → NowLinePromise input at q → r ≡ q
now_line_no_choice {r = r} {q = q} a b = said_as_one (with_index now_parts) now_back (λ a. refl) r q (a.says ∙ sym b.says)

pub client_line_no_choice : {input : List ℕ} {at : ℕ} {r q : Result (ℕ × ℕ) Refusal} → ClientLinePromise input at r → ClientLinePromise input at q → r ≡ q
client_line_no_choice {r = r} {q = q} a b = said_one r q (a.says ∙ sym b.says)

pub header_line_no_choice : {input : List ℕ} {at : ℕ} {r q : Result (HeaderLine × ℕ) Refusal}
    → HeaderLinePromise input at r → HeaderLinePromise input at q → r ≡ q
header_line_no_choice {r = r} {q = q} a b = said_as_one header_parts header_back (λ a. refl) r q (a.says ∙ sym b.says)

pub sub_line_no_choice : {input : List ℕ} {at : ℕ} {r q : Result (SubLine × ℕ) Refusal} → SubLinePromise input at r → SubLinePromise input at q → r ≡ q
sub_line_no_choice {r = r} {q = q} a b = said_as_one (with_index sub_parts) sub_back (λ a. refl) r q (a.says ∙ sym b.says)
