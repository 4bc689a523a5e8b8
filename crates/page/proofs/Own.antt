-- Two inputs that agree on one client's subscriptions print that client the same page: their books give the same report.
use mathlib.Core.Path.{◌≡◌, refl, sym, ap, ◌∙◌}
use mathlib.Core.Bool.{Bool}
use mathlib.Core.List.{List, [], ◌∷◌, ◌++◌, map}
use Prim.Native.Nat.{ℕ}
use Rattle.laws.specs.Order.{Said, granted, refused, next, choose}
use Rattle.laws.proofs.Next.{next_next, next_said_by}
use Rattle.input_lines.specs.Lines.{is_line}
use Rattle.input_lines.specs.Forms.{now_line, client_line, header_line, sub_line}
use Rattle.input_lines.specs.LineByLine.{one_line, each_line, each_done}
use Rattle.input_lines.proofs.LineByLine.{each_lines}
use Rattle.book_rules.specs.Form.{form}
use Rattle.book_rules.specs.Rules.{empty}
use Rattle.book_rules.specs.Edits.{add_says, added}
use Rattle.book_rules.specs.Subscription.{Sub}
use Rattle.book_rules.specs.Load.{items, add_all, load_says}
use Rattle.book_rules.specs.Afresh.{Afresh}
use Rattle.book_history.proofs.Proved.{form_book_and_history}
use Rattle.report.specs.Hits.{is_of}
use Rattle.report.specs.Report.{Full, report_says}
use Rattle.report.specs.Own.{Agree, Covers}
use Rattle.report.proofs.Own.{same_report, own_client}
use Rattle.page.specs.Input.{clock_of, adds_line, hit_room, Shown, report_shows, lines_say, input_says}
use Rattle.page.specs.Page.{printed, page_of}
use Rattle.page.specs.Own.{subs_in, GrantedInput}
use Rattle.page.proofs.Gathering.{load_empty}

-- ---- the book of some `sub=` lines

abbrev flat : List Sub → List ℕ
flat [] = []
flat (x ∷ xs) = x.place ∷ x.client ∷ x.wish ∷ flat xs

items_flat : (xs : List Sub) → items (flat xs) ≡ xs
items_flat [] = refl
items_flat (x ∷ xs) = ap (λ (s : List Sub). x ∷ s) (items_flat xs)

-- what is granted in order from an empty book is the book of it
pub added_book : (xs : List Sub) (b : List ℕ) → add_all form empty xs ≡ granted b → Afresh form xs b
added_book xs b e =
    let q : load_says form empty (flat xs) ≡ granted b = load_empty (flat xs) ∙ ap (add_all form empty) (items_flat xs) ∙ e in
    let k = ((form_book_and_history.load_is_building empty (flat xs)).granted_only b q).1 in
    rw items_flat at k

done_adds : (w : List ℕ) (ls : List (List ℕ)) → each_done adds_line w (map sub_line.value ls) ≡ add_all form w (subs_in ls)
unfolding each_done add_all
done_adds w [] = refl
done_adds w (l ∷ ls) = go (sub_line.value l) (λ b. done_adds b ls)
  where
    go : (v : ℕ × (ℕ × ℕ)) → ((b : List ℕ) → each_done adds_line b (map sub_line.value ls) ≡ add_all form b (subs_in ls))
        → next (adds_line w v) (λ s. each_done adds_line s (map sub_line.value ls))
        ≡ next (add_says form w v.0 v.1.0 v.1.1) (λ u. add_all form (added form v.0 v.1.0 v.1.1 w) (subs_in ls))
    go (p, (c, v)) k =
        let book : List ℕ = added form p c v w in
        next_next (add_says form w p c v) (λ u. granted book) (λ s. each_done adds_line s (map sub_line.value ls))
        ∙ next_said_by (add_says form w p c v) (λ u. each_done adds_line book (map sub_line.value ls)) (λ u. add_all form book (subs_in ls)) (λ u e. k book)

-- ---- what such an input says

header_line_said : {B : Type 0} (h : List ℕ) (ls : List (List ℕ)) (rest : List ℕ → List (List ℕ) → Said B)
    → one_line header_line (h ∷ (ls ++ ([] ∷ []))) rest ≡ choose (is_line header_line h) (rest (header_line.value h) (ls ++ ([] ∷ []))) (refused 23)
unfolding one_line
header_line_said h [] rest = refl
header_line_said h (l ∷ ls) rest = refl

-- by the first three lines: each in good form, or 23
module _ (now client header : List ℕ) where
  abbrev reported : List ℕ → Said Shown
  reported book = report_shows book (client_line.value client) (header_line.value header) (clock_of (now_line.value now))

  abbrev formed : Said Shown → Said Shown
  formed s = choose (is_line now_line now) (choose (is_line client_line client) (choose (is_line header_line header) s (refused 23)) (refused 23)) (refused 23)

module _ (text now client header : List ℕ) (ls : List (List ℕ)) (i : GrantedInput text now client header ls) where
  lines_book : each_line sub_line adds_line empty (ls ++ ([] ∷ [])) ≡ granted i.book
  lines_book = each_lines sub_line adds_line empty ls i.formed ∙ i.granted_all

  pub its_book : Afresh form (subs_in ls) i.book
  its_book = added_book (subs_in ls) i.book (sym (done_adds empty ls) ∙ i.granted_all)

  pub input_is : input_says text ≡ formed now client header (reported now client header i.book)
  unfolding input_says lines_say one_line
  input_is =
      ap lines_say i.lines
      ∙ ap (λ (s : Said Shown). choose (is_line now_line now) (choose (is_line client_line client) s (refused 23)) (refused 23)) (header_line_said header ls _)
      ∙ ap (λ (o : Said (List ℕ)). formed now client header (next o (reported now client header))) lines_book

-- the same first three lines, further lines all well formed and granted, and agreement on what passes a test that this client's pass
pub page_own : (own : Sub → Bool) (t u now client header : List ℕ) (ls ks : List (List ℕ)) → Covers own (client_line.value client)
    → GrantedInput t now client header ls → GrantedInput u now client header ks → Agree own (subs_in ls) (subs_in ks) → page_of t ≡ page_of u
unfolding page_of report_shows
page_own own t u now client header ls ks covers i k agree =
    let who = client_line.value client in
    let clock = clock_of (now_line.value now) in
    let text = header_line.value header in
    let a = its_book t now client header ls i in
    let b = its_book u now client header ks k in
    let e : report_says i.book who text clock hit_room ≡ report_says k.book who text clock hit_room =
    same_report own who covers (subs_in ls) (subs_in ks) i.book k.book a b agree text clock hit_room in
    ap printed
    (input_is t now client header ls i
    ∙ ap (λ (s : Said Full). formed now client header (next s (λ g. granted (who, g)))) e
    ∙ sym (input_is u now client header ks k))

-- demand 3, of printed pages: whatever other clients hold
pub page_own_only : (t u now client header : List ℕ) (ls ks : List (List ℕ)) → GrantedInput t now client header ls → GrantedInput u now client header ks
    → Agree (is_of (client_line.value client)) (subs_in ls) (subs_in ks) → page_of t ≡ page_of u
page_own_only t u now client header ls ks =
    let who = client_line.value client in
    page_own (is_of who) t u now client header ls ks (own_client who)
