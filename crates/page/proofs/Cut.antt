-- The page of an input is that of its first 98,304 bytes: at most 4,096 additions are granted, a `sub=` line has 19 bytes, and any other
-- line that is read at most 301.
use mathlib.Core.Path.{◌≡◌, sym, ap, ◌∙◌}
use mathlib.Core.List.{List, [], ◌∷◌}
use Prim.Native.Nat.{ℕ, zero, suc, ◌+◌, ◌-◌, ◌*◌, ◌≤◌}
use native.Mathlib.Omega.{arith}
use lib.ListN.{length, take, drop}
use Rattle.laws.specs.Order.{Said, granted, next}
use Rattle.laws.specs.Space.{leaves}
use Rattle.laws.proofs.Next.{next_first}
use Rattle.input_lines.specs.Lines.{pieces}
use Rattle.input_lines.specs.Forms.{now_line, client_line, header_line, sub_line}
use Rattle.input_lines.specs.LineByLine.{each_line}
use Rattle.input_lines.proofs.Cut.{one_cut, each_turn, took_short, took_sub}
use Rattle.book_rules.specs.Form.{form}
use Rattle.book_rules.specs.Rules.{empty}
use Rattle.book_rules.specs.Edits.{add_says, added}
use Rattle.book_rules.specs.Subscription.{Sub, sub}
use Rattle.book_rules.specs.Afresh.{Afresh}
use Rattle.book_rules.specs.History.{answer, edited, number, effect, adds}
use Rattle.book_rules.proofs.Form.{form_laws}
use Rattle.book_history.proofs.Run.{afresh_answers, afresh_edited}
use Rattle.book_history.proofs.Afresh.{afresh_valid, empty_afresh}
use Rattle.page.specs.Input.{adds_line, report_shows, clock_of, lines_say, input_says}
use Rattle.page.specs.Page.{printed, page_of}

-- a granted adds leaves the book of one subscription more
one_more : (list : List Sub) (b : List ℕ) → Afresh form list b → (p c v : ℕ) (s : List ℕ) → adds_line b (p, (c, v)) ≡ granted s
    → Afresh form (sub p c v ∷ list) s
unfolding answer edited
one_more list b a p c v s e =
    let f = next_first (add_says form b p c v) (λ u. granted (added form p c v b)) s e in
    let q : added form p c v b ≡ s = cc in
    let g : add_says form b p c v ≡ granted tt = f.given in
    let n : number list (adds p c v) ≡ granted tt = sym (afresh_answers form form_laws list b a (adds p c v)) ∙ g in
    let w : leaves (λ u. added form p c v) (add_says form b p c v) b ≡ s =
    ap (λ (o : Said (Unit {0})). leaves (λ u. added form p c v) o b) g ∙ q in
    let l : leaves (λ u. effect (adds p c v)) (number list (adds p c v)) list ≡ sub p c v ∷ list =
    ap (λ (o : Said (Unit {0})). leaves (λ u. effect (adds p c v)) o list) n in
    rw (← w, ← l) (afresh_edited form form_laws list b a (adds p c v))

subs_cut : (k : ℕ) (list : List Sub) (b : List ℕ) → Afresh form list b → (n : ℕ) (t : List ℕ) → length list + k ≡ 4096 → 19 * k + 301 ≤ n
    → each_line sub_line adds_line b (pieces (take n t)) ≡ each_line sub_line adds_line b (pieces t)
subs_cut zero list b a n t e l =
    each_turn sub_line adds_line n b t (omega arith)
    (λ v j s p q.
    let m = (afresh_valid form form_laws (sub v.0 v.1.0 v.1.1 ∷ list) s (one_more list b a v.0 v.1.0 v.1.1 s q)).few in
    absurd (omega arith))
subs_cut (suc k) list b a n t e l =
    each_turn sub_line adds_line n b t (omega arith)
    (λ v j s p q.
    let w : j ≡ 19 = took_sub t v j p in
    subs_cut k (sub v.0 v.1.0 v.1.1 ∷ list) s (one_more list b a v.0 v.1.0 v.1.1 s q) (n - j) (drop j t) (omega arith) (omega arith))

said_cut : (n : ℕ) (t : List ℕ) → 79028 ≤ n → lines_say (pieces (take n t)) ≡ lines_say (pieces t)
unfolding lines_say
said_cut n t l =
    one_cut now_line n t _ (omega arith) (λ v j e.
    one_cut client_line (n - j) (drop j t) _ (omega (arith, took_short now_line t v j e)) (λ c i f.
    one_cut header_line (n - j - i) (drop i (drop j t)) _ (omega (arith, took_short now_line t v j e, took_short client_line (drop j t) c i f)) (λ h k g.
    ap (λ (x : Said (List ℕ)). next x (λ b. report_shows b c h (clock_of v)))
    (subs_cut 4096 [] empty (empty_afresh form form_laws) (n - j - i - k) (drop k (drop i (drop j t))) (omega arith)
    (omega (arith, took_short now_line t v j e, took_short client_line (drop j t) c i f, took_short header_line (drop i (drop j t)) h k g))))))

pub page_cut : (t : List ℕ) → page_of (take 98304 t) ≡ page_of t
unfolding page_of input_says
page_cut t = ap printed (said_cut 98304 t (omega arith))
