-- The page of an input: by its first three lines, then by its book, then by its report; or a refusal's number.
use mathlib.Core.Path.{◌≡◌, refl, sym, ap, ◌∙◌}
use mathlib.Core.Bool.{true}
use mathlib.Core.List.{List}
use Prim.Native.Nat.{ℕ, ◌+◌, ◌-◌, ◌*◌}
use lib.ListN.{take, drop}
use Rattle.std.specs.Prelude.{Result, Ok, Err}
use Rattle.laws.specs.Order.{Said, granted, refused, refused_at, is_refusal, next}
use Rattle.refusals.specs.Refusals.{says, number_of}
use Rattle.refusals.specs.declared.Refusal.{Refusal}
use Rattle.refusals.proofs.Said.{says_refused, says_moved, next_refused}
use Rattle.input_lines.specs.Lines.{pieces}
use Rattle.input_lines.specs.Forms.{sub_line}
use Rattle.input_lines.specs.LineByLine.{each_line}
use Rattle.book_rules.specs.Rules.{empty}
use Rattle.report.specs.declared.Summary.{Summary}
use Rattle.page_printing.specs.Page.{page_text, refused_text}
use Rattle.page_printing.specs.Promise.{PrintPromise}
use Rattle.page_printing.proofs.Writing.{print_as}
use Rattle.page.specs.Input.{adds_line, Shown, report_shows, input_says}
use Rattle.page.specs.Page.{printed, page_of}
use Rattle.page.specs.Promise.{PagePromise}
use Rattle.page.specs.Steps.{three_say, booked}
use Rattle.page.specs.declared.Three.{Three}
use Rattle.page.proofs.Finishes.{Reported}

-- any refusal prints its number alone
shows_refused : (s : Said Shown) → is_refusal s ≡ true → refused_text (number_of (next {B = ℕ} s (λ a. refused 0))) ≡ printed s
shows_refused (granted a) h = cc
shows_refused (refused n) h = refl
shows_refused (refused_at n i) h = refl

module _ (o : Said Shown) {out : List ℕ} {r : Result ℕ Refusal} {d : List ℕ} where
  pub prints_refused : (e : Refusal) → o ≡ says e → (n : ℕ) → n ≡ number_of (says {A = ℕ} e)
      → PrintPromise (refused_text n) out r d → PrintPromise (printed o) out r d
  prints_refused e h n q =
      print_as (
      ap refused_text (q ∙ sym (ap number_of (says_moved e (says {A = Shown} e) refl)))
      ∙ shows_refused (says e) (says_refused Shown e)
      ∙ ap printed (sym h)
      )

  pub prints_shown : (client : ℕ) (s : Summary) (left : List ℕ) → Reported o client s left
      → PrintPromise (page_text client s.times s.event s.listed s.class (take (2 * s.hits) left)) out r d → PrintPromise (printed o) out r d
  prints_shown client s left h =
      let e = sym h.2 in
      print_as ((λ i. page_text client (e i).times (e i).event (e i).listed (e i).class (h.4 i)) ∙ ap printed (sym h.1))

  pub prints_page : (t : List ℕ) → o ≡ input_says t → PrintPromise (printed o) out r d → PagePromise t out r d
  unfolding page_of
  prints_page t e p = let q = print_as (ap printed e) p in record { says = q.says; lent = q.space }

-- the book after the `sub=` lines, or the refusal
module _ (t : List ℕ) (l : Three) (book : List ℕ) where
  abbrev lines : Said (List ℕ)
  lines = each_line sub_line adds_line empty (pieces (drop (l.to + 1) t))

  abbrev reports : List ℕ → Said Shown
  reports w = report_shows w l.client (take (l.to - l.from) (drop l.from t)) l.at

  pub no_book : (e : Refusal) → booked (Err e) book ≡ lines → three_say t l ≡ says e
  no_book e b = ap (λ (o : Said (List ℕ)). next o reports) (sym b ∙ next_refused e (λ u. granted book)) ∙ next_refused e reports

  pub with_book : booked (Ok tt) book ≡ lines → reports book ≡ three_say t l
  with_book b = ap (λ (o : Said (List ℕ)). next o reports) b
