-- The first three lines of an input, one after the other: a malformed one ends it with 23, and each that is read leaves the rest to say.
use mathlib.Core.Path.{◌≡◌, refl, sym, ap, ◌∙◌}
use mathlib.Core.List.{List}
use Prim.Native.Nat.{ℕ, ◌-◌}
use lib.ListN.{take, drop}
use Rattle.laws.specs.Order.{Said, granted, refused, next}
use Rattle.std.specs.Prelude.{Result, Ok, Err}
use Rattle.std.specs.Result.{IsErr, IsErrAnd}
use Rattle.refusals.specs.Refusals.{says}
use Rattle.refusals.specs.declared.Refusal.{Refusal}
use Rattle.refusals.proofs.Said.{never_granted, says_moved}
use Rattle.input_lines.specs.Lines.{pieces, LineForm}
use Rattle.input_lines.specs.Forms.{now_line, client_line, header_line, sub_line}
use Rattle.input_lines.specs.LineByLine.{one_line, each_line}
use Rattle.input_lines.specs.Next.{next_of, stands_at, header_at}
use Rattle.input_lines.proofs.LineByLine.{one_took, one_bad}
use Rattle.input_lines.proofs.Headers.{header_stands}
use Rattle.input_lines.proofs.Next.{NextLine, taken, malformed, next_line}
use Rattle.book_rules.specs.Rules.{empty}
use Rattle.page.specs.Input.{clock_of, adds_line, report_shows, lines_say, input_says, Shown}
use Rattle.page.specs.Steps.{ThreeOf}
use Rattle.page.specs.declared.Three.{Three}

-- what is asked after each line
abbrev after_header : ℕ × (ℕ × (ℕ × ℕ)) → ℕ → List ℕ → List (List ℕ) → Said Shown
after_header clock client header lines = next (each_line sub_line adds_line empty lines) (λ book. report_shows book client header (clock_of clock))

abbrev after_client : ℕ × (ℕ × (ℕ × ℕ)) → ℕ → List (List ℕ) → Said Shown
after_client clock client lines = one_line header_line lines (after_header clock client)

abbrev after_now : ℕ × (ℕ × (ℕ × ℕ)) → List (List ℕ) → Said Shown
after_now clock lines = one_line client_line lines (after_client clock)

-- a refusal of the next line is 23
pub bad : {A B : Type 0} (f : LineForm A) (t : List ℕ) (at : ℕ) (e : Refusal) → says e ≡ next_of f t at
    → (next_of f t at ≡ refused 23) × (◌≡◌ {A = Said B} (says e) (refused 23))
bad {A} {B} f t at e p = go (next_line f t at)
  where
    go : NextLine f t at → (next_of f t at ≡ refused 23) × (◌≡◌ {A = Said B} (says e) (refused 23))
    go (taken v j q) = never_granted e (p ∙ q)
    go (malformed q) = (q, sym (says_moved e (refused 23) (p ∙ q)))

-- a refusal that `?` hands on
pub three_err : (t : List ℕ) (e : Refusal) (r : Result Three Refusal) → IsErr r × IsErrAnd r (λ y. y ≡ e) → says e ≡ input_says t → ThreeOf t r
three_err t e (Ok l) h p = absurd h.1
three_err t e (Err y) h p = ap says h.1 ∙ p

header_bad : (t : List ℕ) (at : ℕ) (e : Refusal) → says e ≡ header_at t at → says e ≡ next_of header_line t at
unfolding header_at
header_bad t at e p = go (next_line header_line t at)
  where
    go : NextLine header_line t at → says e ≡ next_of header_line t at
    go (taken v j q) = never_granted e (p ∙ ap (λ (s : Said (List ℕ × ℕ)). next s (λ line. granted (stands_at at line))) q)
    go (malformed q) = sym (says_moved e (refused 23) (p ∙ ap (λ (s : Said (List ℕ × ℕ)). next s (λ line. granted (stands_at at line))) q)) ∙ sym q

module _ (t : List ℕ) where
  whole : input_says t ≡ one_line now_line (pieces (drop 0 t)) after_now
  unfolding input_says lines_say
  whole = refl

  pub front_1 : (e : Refusal) → says e ≡ next_of now_line t 0 → says e ≡ input_says t
  front_1 e p = let b = bad now_line t 0 e p in b.1 ∙ sym (whole ∙ one_bad now_line t 0 after_now b.0)

  module _ (v : ℕ × (ℕ × (ℕ × ℕ))) (j : ℕ) (first : next_of now_line t 0 ≡ granted (v, j)) where
    one : input_says t ≡ one_line client_line (pieces (drop j t)) (after_client v)
    one = whole ∙ one_took now_line t 0 after_now v j first

    pub front_2 : (e : Refusal) → says e ≡ next_of client_line t j → says e ≡ input_says t
    front_2 e p = let b = bad client_line t j e p in b.1 ∙ sym (one ∙ one_bad client_line t j (after_client v) b.0)

    module _ (client k : ℕ) (second : next_of client_line t j ≡ granted (client, k)) where
      two : input_says t ≡ one_line header_line (pieces (drop k t)) (after_header v client)
      two = one ∙ one_took client_line t j (after_client v) client k second

      pub front_3 : (e : Refusal) → says e ≡ header_at t k → says e ≡ input_says t
      front_3 e p =
          let b = bad header_line t k e (header_bad t k e p) in
          b.1 ∙ sym (two ∙ one_bad header_line t k (after_header v client) b.0)

      pub front_4 : (from to l : ℕ) → header_at t k ≡ granted (from, (to, l))
          → ThreeOf t (Ok (record { at = clock_of v; client = client; from = from; to = to }))
      front_4 from to l e =
          let s = header_stands t k from to l e in
          let header : List ℕ = take (to - from) (drop from t) in
          let three : input_says t ≡ after_header v client header (pieces (drop l t)) =
          two ∙ one_took header_line t k (after_header v client) header l s.says in
          (ap (λ (m : ℕ). after_header v client header (pieces (drop m t))) s.next ∙ sym three, (s.low, s.inside))
