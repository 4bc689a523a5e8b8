-- The program's numbers: no call below gives 23, and a line that is not of its form gives nothing else.
use Prim.Native.Nat.{ℕ, ◌≤◌, ◌<◌}
use mathlib.Core.Path.{◌≡◌, refl, sym, ap, ◌∙◌}
use mathlib.Core.Logic.{◌⊎◌, inl, inr, ⊎_elim}
use mathlib.Core.Bool.{Bool, true, false, ◌&&◌, ◌||◌, not}
use mathlib.Core.List.{List, [], ◌∷◌, ◌++◌, map}
use native.Mathlib.Omega.{arith}
use lib.ListN.{length, get_or, length-append}
use lib.Dec.{leb, eqb}
use borrow.Author.Tests.{leb-false, lt-leb, eqb-false, eqb-true, ne_eqb}
use Rattle.laws.specs.Order.{Said, granted, refused, refused_at, passes, next, choose}
use Rattle.laws.proofs.Clash.{clash}
use Rattle.laws.proofs.Order.{passes_next, passes_more}
use Rattle.laws.specs.Lists.{every, all, same}
use Rattle.laws.specs.Numbers.{size, size_by}
use Rattle.laws.proofs.All.{all_at}
use Rattle.laws.proofs.Every.{same_refl}
use Rattle.laws.proofs.Tests.{and_l, and_r, impossible, le_or_lt, within_hi}
use Rattle.input_lines.specs.Lines.{pieces, LineForm, is_line}
use Rattle.input_lines.specs.Forms.{now_line, client_line, header_line, sub_line}
use Rattle.input_lines.specs.LineByLine.{one_line, each_line, each_done}
use Rattle.input_lines.proofs.Pieces.{pieces_some}
use Rattle.book_rules.specs.Form.{form}
use Rattle.book_rules.specs.Rules.{empty}
use Rattle.book_rules.specs.Edits.{add_says, added}
use Rattle.clock.specs.declared.Clock.{Clock}
use Rattle.report.specs.Report.{report_says}
use Rattle.page_printing.specs.Page.{ended, page_lines, page_text, refused_text}
use Rattle.page.specs.Input.{clock_of, adds_line, hit_room, Shown, report_shows, lines_say, input_says}
use Rattle.page.specs.Page.{shown_text, printed, page_of}
use Rattle.page.proofs.Room.{page_printed}
use Rattle.demands.specs.Forms.{is_number}
use Rattle.demands.specs.Malformed.{Bad, NoLine, no_form, missing, NoSub, no_sub, no_end, Malformed, at_now, at_client, at_header, at_sub}
use Rattle.demands.specs.Program.{PageIs, shows, refuses, ProgramNumbers}
use Rattle.demands.proofs.Numbered.{is_low, low_number}

-- ---- one line: what is not 23 by its form comes from the rest

bad_line : {A : Type 0} (f : LineForm A) (l : List ℕ) → is_line f l ≡ false → Bad f l
unfolding is_line
bad_line f l e = by (leb (length l) 300) refl e
  where
    by : (b : Bool) → leb (length l) 300 ≡ b → b && f.allowed l ≡ false → Bad f l
    by true h q = inl q
    by false h q = inr (leb-false (length l) 300 h)

no_line : {A : Type 0} (f : LineForm A) (l : List ℕ) → Bad f l → is_line f l ≡ false
unfolding is_line
no_line f l (inl e) = by (leb (length l) 300)
  where
    by : (b : Bool) → b && f.allowed l ≡ false
    by true = e
    by false = refl
no_line f l (inr h) = simp (lt-leb (length l) 300 h)

module _ {A B : Type 0} (f : LineForm A) (rest : A → List (List ℕ) → Said B) where
  one_none : (ls : List (List ℕ)) → NoLine f ls → one_line f ls rest ≡ refused 23
  unfolding one_line
  one_none [] p = elim p [ ]
  one_none (l ∷ (m ∷ ls)) (no_form b) = simp (no_line f l b)
  one_none (l ∷ []) missing = refl

  one_some : (l : List ℕ) (ls : List (List ℕ)) → 0 < length ls → is_line f l ≡ true → one_line f (l ∷ ls) rest ≡ rest (f.value l) ls
  unfolding one_line
  one_some l [] h e = absurd (omega arith)
  one_some l (m ∷ ls) h e = simp e

  -- 23: no such line, or the rest says so
  record Passed (l : List ℕ) (ls : List (List ℕ)) : Type 0 where
    is : is_line f l ≡ true
    some : 0 < length ls
    says : rest (f.value l) ls ≡ refused 23

  one_23 : (l : List ℕ) (ls : List (List ℕ)) → one_line f (l ∷ ls) rest ≡ refused 23 → NoLine f (l ∷ ls) ⊎ Passed l ls
  unfolding one_line
  one_23 l [] e = inl missing
  one_23 l (m ∷ ls) e = by (is_line f l) refl e
    where
      by : (b : Bool) → is_line f l ≡ b → choose b (rest (f.value l) (m ∷ ls)) (refused 23) ≡ refused 23 → NoLine f (l ∷ (m ∷ ls)) ⊎ Passed l (m ∷ ls)
      by true q r = inr (record { is = q; some = omega arith; says = r })
      by false q r = inl (no_form (bad_line f l q))

no_line_some : {A : Type 0} {f : LineForm A} (ls : List (List ℕ)) → NoLine f ls → 0 < length ls
no_line_some {A = A} {f = f} [] p = elim p [ ]
no_line_some (l ∷ (m ∷ ls)) (no_form b) = omega arith
no_line_some (l ∷ []) missing = omega arith

-- ---- `sub=` lines

no_sub_some : (ls : List (List ℕ)) → NoSub ls → 0 < length ls
no_sub_some [] p = elim p [ ]
no_sub_some (l ∷ (m ∷ ls)) (no_sub b) = omega arith
no_sub_some (l ∷ []) (no_end h) = omega arith

each_none : (w : List ℕ) (ls : List (List ℕ)) → NoSub ls → each_line sub_line adds_line w ls ≡ refused 23
unfolding each_line
each_none w [] p = elim p [ ]
each_none w (l ∷ (m ∷ ls)) (no_sub b) = simp (no_line sub_line l b)
each_none w (l ∷ []) (no_end h) = simp (ne_eqb (length l) 0 (λ e. omega arith))

-- those that are granted leave the rest to be read
each_front : (w : List ℕ) (subs rest : List (List ℕ)) (book : List ℕ) → 0 < length rest → every (is_line sub_line) subs ≡ true
    → each_done adds_line w (map sub_line.value subs) ≡ granted book → each_line sub_line adds_line w (subs ++ rest) ≡ each_line sub_line adds_line book rest
unfolding each_done each_line
each_front w [] rest book h f e = let q : w ≡ book = cc in ap (λ (b : List ℕ). each_line sub_line adds_line b rest) q
each_front w (l ∷ subs) rest book h f e =
    go (adds_line w (sub_line.value l)) refl e (λ s q. each_front s subs rest book h (and_r (is_line sub_line l) (every (is_line sub_line) subs) f) q)
  where
    more : (ls : List (List ℕ)) → 0 < length ls
        → each_line sub_line adds_line w (l ∷ ls) ≡ next (adds_line w (sub_line.value l)) (λ s. each_line sub_line adds_line s ls)
    more [] k = absurd (omega arith)
    more (m ∷ ls) k = simp (and_l (is_line sub_line l) (every (is_line sub_line) subs) f)

    go : (s : Said (List ℕ)) → adds_line w (sub_line.value l) ≡ s → next s (λ b. each_done adds_line b (map sub_line.value subs)) ≡ granted book
        → ((b : List ℕ) → each_done adds_line b (map sub_line.value subs) ≡ granted book
        → each_line sub_line adds_line b (subs ++ rest) ≡ each_line sub_line adds_line book rest)
        → each_line sub_line adds_line w (l ∷ (subs ++ rest)) ≡ each_line sub_line adds_line book rest
    go (granted b) q e k = more (subs ++ rest) (omega (arith, length-append subs rest)) ∙ rw q (k b e)
    go (refused n) q e k = clash cc
    go (refused_at n i) q e k = clash cc

-- ---- a malformed input says 23

pub says_23 : (ls : List (List ℕ)) → Malformed ls → lines_say ls ≡ refused 23
unfolding lines_say
says_23 ls (at_now n) = one_none now_line _ ls n
says_23 ls (at_client {now = now} {rest = rest} a n) = one_some now_line _ now rest (no_line_some rest n) a ∙ one_none client_line _ rest n
says_23 ls (at_header {now = now} {client = client} {rest = rest} a b n) =
    one_some now_line _ now (client ∷ rest) (omega arith) a ∙ one_some client_line _ client rest (no_line_some rest n) b ∙ one_none header_line _ rest n
says_23 ls (at_sub {now = now} {client = client} {header = header} subs rest {book = book} a b c f g n) =
    let s : 0 < length (subs ++ rest) = omega (arith, length-append subs rest, no_sub_some rest n) in
    one_some now_line _ now (client ∷ (header ∷ (subs ++ rest))) (omega arith) a
    ∙ one_some client_line _ client (header ∷ (subs ++ rest)) (omega arith) b
    ∙ one_some header_line _ header (subs ++ rest) s c
    ∙ ap (λ (o : Said (List ℕ)). next o (λ b. report_shows b (client_line.value client) (header_line.value header) (clock_of (now_line.value now))))
    (each_front empty subs rest book (no_sub_some rest n) f g ∙ each_none book rest n)

-- ---- and 23 is said of no other: no call below gives it

no_23 : {A : Type 0} (s : Said A) → passes is_low is_low s ≡ true → s ≡ refused 23 → ⊥
no_23 s h e = impossible (sym (ap (passes is_low is_low) e) ∙ h)

not_zero : (k : ℕ) → (k ≡ 0 → ⊥) → 0 < k
not_zero k n = ⊎_elim (λ (h : 0 < k). h) (λ (h : k ≤ 0). absurd (n (omega arith))) (le_or_lt 0 k)

-- ---- what is printed tells the number

is_page : (input : List ℕ) (s : Said Shown) → input_says input ≡ s → passes is_number is_low s ≡ true → PageIs input (printed s)
is_page input (granted shown) e h = shows shown e
is_page input (refused n) e h = refuses n h
is_page input (refused_at n i) e h = refuses n (low_number n h)

-- each of the 23 texts is another
abbrev tells : ℕ → Bool
tells n = eqb n 23 || not (same (refused_text n) (refused_text 23))

all_tell : all 24 tells ≡ true
unfolding all refused_text ended size size_by
all_tell = refl

told_23 : (n : ℕ) → n ≤ 23 → refused_text n ≡ refused_text 23 → n ≡ 23
told_23 n h e = by (eqb n 23) refl (all_at 24 n tells all_tell (omega arith))
  where
    by : (b : Bool) → eqb n 23 ≡ b → b || not (same (refused_text n) (refused_text 23)) ≡ true → n ≡ 23
    by true q r = eqb-true n 23 q
    by false q r = impossible (sym (ap not (ap (λ (t : List ℕ). same t (refused_text 23)) e ∙ same_refl (refused_text 23))) ∙ r)

-- and none is a page
no_page : (shown : Shown) → shown_text shown ≡ refused_text 23 → ⊥
unfolding page_text page_lines refused_text ended
no_page (client, g) e = let z : ◌≡◌ {A = ℕ} 99 114 = ap (λ (l : List ℕ). get_or l 0 0) e in omega arith

text_23 : (s : Said Shown) → passes is_number is_low s ≡ true → printed s ≡ refused_text 23 → s ≡ refused 23
text_23 (granted shown) h e = absurd (no_page shown e)
text_23 (refused n) h e = ap refused (told_23 n (within_hi 1 23 n h) e)
text_23 (refused_at n i) h e = let l = within_hi 1 22 n h in let q = told_23 n (omega arith) e in absurd (omega arith)

-- the lines above the fault
record Above (w : List ℕ) (ls : List (List ℕ)) : Type 0 where
  subs : List (List ℕ)
  rest : List (List ℕ)
  book : List ℕ
  split : ls ≡ subs ++ rest
  formed : every (is_line sub_line) subs ≡ true
  done : each_done adds_line w (map sub_line.value subs) ≡ granted book
  fault : NoSub rest

module _ (low_add : (w : List ℕ) (place client wish : ℕ) → passes is_low is_low (add_says form w place client wish) ≡ true)
    (low_report : (book : List ℕ) (client : ℕ) (text : List ℕ) (at : Clock) (room : ℕ) → passes is_low is_low (report_says book client text at room) ≡ true) where
  low_adds : (w : List ℕ) (v : ℕ × (ℕ × ℕ)) → passes is_low is_low (adds_line w v) ≡ true
  low_adds w (place, (client, wish)) =
      passes_next is_low is_low (add_says form w place client wish) (λ u. granted (added form place client wish w)) (low_add w place client wish) (λ u. refl)

  low_shows : (book : List ℕ) (client : ℕ) (text : List ℕ) (at : Clock) → passes is_low is_low (report_shows book client text at) ≡ true
  unfolding report_shows
  low_shows book client text at =
      passes_next is_low is_low (report_says book client text at hit_room) (λ g. granted (client, g)) (low_report book client text at hit_room) (λ g. refl)

  each_23 : (w : List ℕ) (ls : List (List ℕ)) → 0 < length ls → each_line sub_line adds_line w ls ≡ refused 23 → Above w ls
  unfolding each_line each_done
  each_23 w [] h e = absurd (omega arith)
  each_23 w (l ∷ []) h e = by (eqb (length l) 0) refl e
    where
      by : (b : Bool) → eqb (length l) 0 ≡ b → choose b (granted w) (refused 23) ≡ refused 23 → Above w (l ∷ [])
      by true q r = clash cc
      by false q r =
          let some : 0 < length l = not_zero (length l) (eqb-false (length l) 0 q) in
          record { subs = []; rest = l ∷ []; book = w; split = refl; formed = refl; done = refl; fault = no_end some }
  each_23 w (l ∷ (m ∷ ls)) h e = by (is_line sub_line l) refl e (λ s. each_23 s (m ∷ ls) (omega arith))
    where
      after : (o : Said (List ℕ)) → adds_line w (sub_line.value l) ≡ o → is_line sub_line l ≡ true
          → next o (λ s. each_line sub_line adds_line s (m ∷ ls)) ≡ refused 23
          → ((s : List ℕ) → each_line sub_line adds_line s (m ∷ ls) ≡ refused 23 → Above s (m ∷ ls)) → Above w (l ∷ (m ∷ ls))
      after (granted s) q f r k =
          let a = k s r in
          record {
            subs = l ∷ a.subs;
            rest = a.rest;
            book = a.book;
            split = ap (λ (x : List (List ℕ)). l ∷ x) a.split;
            formed = rw f a.formed;
            done = rw q a.done;
            fault = a.fault;
          }
      after (refused n) q f r k = absurd (no_23 (adds_line w (sub_line.value l)) (low_adds w (sub_line.value l)) (q ∙ r))
      after (refused_at n i) q f r k = clash cc

      by : (b : Bool) → is_line sub_line l ≡ b
          → choose b (next (adds_line w (sub_line.value l)) (λ s. each_line sub_line adds_line s (m ∷ ls))) (refused 23) ≡ refused 23
          → ((s : List ℕ) → each_line sub_line adds_line s (m ∷ ls) ≡ refused 23 → Above s (m ∷ ls)) → Above w (l ∷ (m ∷ ls))
      by true f r k = after (adds_line w (sub_line.value l)) refl f r k
      by false f r k = record { subs = []; rest = l ∷ (m ∷ ls); book = w; split = refl; formed = refl; done = refl; fault = no_sub (bad_line sub_line l f) }

  -- from the top: what the rest says once a line was taken
  module _ (v : ℕ × (ℕ × (ℕ × ℕ))) where
    abbrev after_header : ℕ → List ℕ → List (List ℕ) → Said Shown
    after_header c t ls = next (each_line sub_line adds_line empty ls) (λ book. report_shows book c t (clock_of v))

    abbrev after_client : ℕ → List (List ℕ) → Said Shown
    after_client c ls = one_line header_line ls (after_header c)

    abbrev after_now : List (List ℕ) → Said Shown
    after_now ls = one_line client_line ls after_client

    subs_23 : (c : ℕ) (t : List ℕ) (ls : List (List ℕ)) → after_header c t ls ≡ refused 23 → each_line sub_line adds_line empty ls ≡ refused 23
    subs_23 c t ls = by (each_line sub_line adds_line empty ls)
      where
        by : (o : Said (List ℕ)) → next o (λ book. report_shows book c t (clock_of v)) ≡ refused 23 → o ≡ refused 23
        by (granted b) r = absurd (no_23 (report_shows b c t (clock_of v)) (low_shows b c t (clock_of v)) r)
        by (refused n) r = cc
        by (refused_at n i) r = clash cc

  pub lines_23 : (ls : List (List ℕ)) → 0 < length ls → lines_say ls ≡ refused 23 → Malformed ls
  unfolding lines_say
  lines_23 [] h e = absurd (omega arith)
  lines_23 (now ∷ ls) h e = ⊎_elim at_now (λ a. second ls a) (one_23 now_line after_now now ls e)
    where
      v : ℕ × (ℕ × (ℕ × ℕ))
      v = now_line.value now

      fourth : (client header : List ℕ) (ks : List (List ℕ)) → is_line now_line now ≡ true → is_line client_line client ≡ true
          → Passed header_line (after_header v (client_line.value client)) header ks → Malformed (now ∷ (client ∷ (header ∷ ks)))
      fourth client header ks a b p =
          let f = each_23 empty ks p.some (subs_23 v (client_line.value client) (header_line.value header) ks p.says) in
          rw f.split (at_sub f.subs f.rest a b p.is f.formed f.done f.fault)

      third : (client : List ℕ) (ks : List (List ℕ)) → is_line now_line now ≡ true → Passed client_line (after_client v) client ks → Malformed (now ∷ (client ∷ ks))
      third client [] a p = absurd (omega (arith, p.some))
      third client (header ∷ ks) a p =
          ⊎_elim (λ n. at_header a p.is n) (λ q. fourth client header ks a p.is q)
          (one_23 header_line (after_header v (client_line.value client)) header ks p.says)

      second : (ks : List (List ℕ)) → Passed now_line after_now now ks → Malformed (now ∷ ks)
      second [] p = absurd (omega (arith, p.some))
      second (client ∷ ks) p = ⊎_elim (λ n. at_client p.is n) (λ q. third client ks p.is q) (one_23 client_line (after_client v) client ks p.says)

  -- ---- every number is one of the list, and 23 has no index

  abbrev Fine : {A : Type 0} → Said A → Type 0
  Fine s = passes is_number is_low s ≡ true

  low_fine : {A : Type 0} (s : Said A) → passes is_low is_low s ≡ true → Fine s
  low_fine s = passes_more is_low is_low is_number is_low low_number (λ n h. h) s

  fine_line : {A : Type 0} (b : Bool) (rest : Said A) → Fine rest → Fine (choose b rest (refused 23))
  fine_line true rest h = h
  fine_line false rest h = refl

  fine_one : {A B : Type 0} (f : LineForm A) (ls : List (List ℕ)) (rest : A → List (List ℕ) → Said B)
      → ((v : A) (ks : List (List ℕ)) → Fine (rest v ks)) → Fine (one_line f ls rest)
  unfolding one_line
  fine_one f [] rest k = refl
  fine_one f (l ∷ []) rest k = refl
  fine_one f (l ∷ (m ∷ ls)) rest k = fine_line (is_line f l) (rest (f.value l) (m ∷ ls)) (k (f.value l) (m ∷ ls))

  fine_each : (w : List ℕ) (ls : List (List ℕ)) → Fine (each_line sub_line adds_line w ls)
  unfolding each_line
  fine_each w [] = refl
  fine_each w (l ∷ []) = fine_line (eqb (length l) 0) (granted w) refl
  fine_each w (l ∷ (m ∷ ls)) =
      fine_line (is_line sub_line l) (next (adds_line w (sub_line.value l)) (λ s. each_line sub_line adds_line s (m ∷ ls)))
      (passes_next is_number is_low (adds_line w (sub_line.value l)) (λ s. each_line sub_line adds_line s (m ∷ ls))
      (low_fine (adds_line w (sub_line.value l)) (low_adds w (sub_line.value l))) (λ s. fine_each s (m ∷ ls)))

  fine_input : (input : List ℕ) → Fine (input_says input)
  unfolding input_says lines_say
  fine_input input =
      fine_one now_line (pieces input) after_now (λ v ls.
      fine_one client_line ls (after_client v) (λ c ks.
      fine_one header_line ks (after_header v c) (λ t js.
      passes_next is_number is_low (each_line sub_line adds_line empty js) (λ book. report_shows book c t (clock_of v)) (fine_each empty js)
      (λ b. low_fine (report_shows b c t (clock_of v)) (low_shows b c t (clock_of v))))))

  pub program_numbers : ProgramNumbers
  unfolding input_says page_of
  program_numbers = record {
    listed = λ input. passes_more is_number is_low is_number is_number (λ n h. h) low_number (input_says input) (fine_input input);
    page = λ input. is_page input (input_says input) refl (fine_input input);
    prints = λ input out left r p h. record { page = page_of input; is = is_page input (input_says input) refl (fine_input input); lent = (page_printed p h).1 };
    says_23 = λ input. says_23 (pieces input);
    only_23 = λ input. lines_23 (pieces input) (pieces_some input);
    prints_23 = λ input m. ap printed (says_23 (pieces input) m);
    only_prints_23 = λ input e. lines_23 (pieces input) (pieces_some input) (text_23 (input_says input) (fine_input input) e);
  }
