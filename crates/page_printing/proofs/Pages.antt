-- A page and a refusal's line as texts: their parts, and how long they are.
use Prim.Native.Nat.{ℕ, ◌+◌, ◌*◌, ◌/◌, ◌≤◌, ◌<◌}
use mathlib.Core.Path.{◌≡◌, refl, sym, ap, ◌∙◌}
use mathlib.Core.List.{List, [], ◌∷◌, ◌++◌}
use mathlib.Core.Bool.{Bool, true, false}
use native.Mathlib.Omega.{arith}
use lib.ListN.{length, length-append}
use Rattle.std.specs.Prelude.{Ok, Err}
use Rattle.laws.specs.Numbers.{dig, size}
use Rattle.laws.specs.Space.{pasted}
use Rattle.laws.proofs.Pasted.{Todo, todo, step}
use Rattle.refusals.specs.declared.Refusal.TheVariants.{NoRoom}
use Rattle.laws.proofs.Decimal.{length_dig}
use Rattle.laws.proofs.Plain.{size_small}
use Rattle.clock.specs.declared.Phase.{Phase}
use Rattle.clock.specs.declared.Phase.TheVariants.{Early, Live, Expired}
use Rattle.clock.specs.declared.Times.{Times}
use Rattle.page_printing.specs.Promise.{PrintPromise}
use Rattle.page_printing.specs.Page.{line, yes_no, phase_text, ended, hit_lines, page_lines, page_text, refused_text, page_room}
use Rattle.page_printing.specs.Steps.{Puts, head_lines, what_lines, found_lines, page_length}
use Rattle.page_printing.proofs.Writing.{ended_append, length_line, length_lines, print_short, print_all}
use Rattle.page_printing.proofs.Hits.{hits_count, hits_length}

-- ---- a refusal's line

pub refused_text_is : (n w : ℕ) → w ≡ size n → ended (line "refused=" (dig w n) ∷ []) ≡ refused_text n
unfolding refused_text
refused_text_is n w e = ap (λ (k : ℕ). ended (line "refused=" (dig k n) ∷ [])) e

pub refused_length : (n : ℕ) → length (refused_text n) ≡ 9 + size n
unfolding refused_text
refused_length n = length_line (line "refused=" (dig (size n) n)) ∙ omega (arith, length_dig (size n) n)

-- ---- a page

pub what_length : (event : List ℕ) (listed : Bool) (class : ℕ) (phase : Phase)
    → length (ended (what_lines event listed class phase)) ≡ 30 + length event + length (yes_no listed) + length (phase_text phase)
what_length event listed class phase =
    length_lines (line "event=" event) _
    ∙ omega (
      arith,
      length_lines (line "listed=" (yes_no listed)) (line "class=" (dig 1 class) ∷ line "state=" (phase_text phase) ∷ []),
      length_lines (line "class=" (dig 1 class)) (line "state=" (phase_text phase) ∷ []),
      length_line (line "state=" (phase_text phase)),
    )

module _ (client : ℕ) (times : Times) (event : List ℕ) (listed : Bool) (class : ℕ) (hits : List ℕ) where
  abbrev head : List (List ℕ)
  head = head_lines client times.issued times.until

  abbrev what : List (List ℕ)
  what = what_lines event listed class times.phase

  pub page_parts : (w : ℕ) → w ≡ size (length hits / 2)
      → ended head ++ (ended what ++ ended (found_lines w hits)) ≡ page_text client times event listed class hits
  unfolding page_text page_lines
  page_parts w e =
      let n : length (hit_lines hits) ≡ length hits / 2 = hits_count hits in
      let found : List ℕ → List ℕ = λ digits. ended (head ++ (what ++ (line "hits=" digits ∷ hit_lines hits))) in
      ap (λ (r : List ℕ). ended head ++ r) (ended_append what (found_lines w hits))
      ∙ ended_append head (what ++ found_lines w hits)
      ∙ (λ q. found (dig (e q) (sym n q)))
      ∙ (λ q. found (dig (size (sym n q)) (length (hit_lines hits))))

  pub head_length : length (ended head) ≡ 49
  unfolding ended
  head_length = refl

  -- 85 bytes and the words that vary, the digits of the number of hits, and 14 a hit
  pub page_length_is : length (page_text client times event listed class hits)
      ≡ 85 + length event + length (yes_no listed) + length (phase_text times.phase) + size (length hits / 2) + 14 * (length hits / 2)
  page_length_is =
      let n : ℕ = length hits / 2 in
      let found : List ℕ = ended (found_lines (size n) hits) in
      sym (ap length (page_parts (size n) refl))
      ∙ length-append (ended head) (ended what ++ found)
      ∙ omega (
        arith,
        length-append (ended what) found,
        head_length,
        what_length event listed class times.phase,
        length_lines (line "hits=" (dig (size n) n)) (hit_lines hits),
        length_dig (size n) n,
        hits_length hits,
      )

  -- w digits say the number of hits; what the page leaves of d without them
  module _ (w : ℕ) (e : w ≡ size (length hits / 2)) (d : List ℕ) where
    abbrev text : List ℕ
    text = page_text client times event listed class hits

    abbrev some : ℕ
    some = page_length listed times.phase w (length event) 0

    pub page_short : length d < some → PrintPromise text d (Err NoRoom) d
    page_short h = print_short text d (omega (arith, page_length_is))

    module _ (left : ℕ) (r : some + left ≡ length d) where
      pub page_long : left / 14 < length hits / 2 → PrintPromise text d (Err NoRoom) d
      page_long h = print_short text d (omega (arith, page_length_is))

      -- what is left to put: all, after the first part, after the second
      module _ (h : length hits / 2 ≤ left / 14) where
        fits : length text ≤ length d
        fits = omega (arith, page_length_is)

        page_all : Todo d (pasted d 0 text) d 0 (ended head ++ (ended what ++ ended (found_lines w hits)))
        page_all = rw (page_parts w e) (todo d 0 text (omega (arith, fits)))

        pub head_room : 49 ≤ length d
        head_room = omega (arith, page_all.room, length-append (ended head) (ended what ++ ended (found_lines w hits)), head_length)

        module _ {d1 : List ℕ} (p : d1 ≡ pasted d 0 (ended head)) where
          what_left : Todo d (pasted d 0 text) d1 49 (ended what ++ ended (found_lines w hits))
          what_left = step _ _ _ _ _ page_all (ended head) (ended what ++ ended (found_lines w hits)) _ 49 refl p (omega (arith, head_length))

          pub what_room : 49 + length (ended what) ≤ length d1
          what_room = omega (arith, what_left.room, length-append (ended what) (ended (found_lines w hits)))

          module _ {d2 : List ℕ} {at : ℕ} (q : Puts d1 49 (ended what) d2 at) where
            found_left : Todo d (pasted d 0 text) d2 at (ended (found_lines w hits))
            found_left = step _ _ _ _ _ what_left (ended what) (ended (found_lines w hits)) _ _ refl q.space q.next

            pub found_room : at + length (ended (found_lines w hits)) ≤ length d2
            found_room = found_left.room

            pub page_done : {d3 : List ℕ} {n : ℕ} → Puts d2 at (ended (found_lines w hits)) d3 n → PrintPromise text d (Ok n) d3
            page_done s =
                let l : length text ≡ length (ended head) + (length (ended what) + length (ended (found_lines w hits))) =
                ap length (sym (page_parts w e))
                ∙ length-append (ended head) (ended what ++ ended (found_lines w hits))
                ∙ omega (arith, length-append (ended what) (ended (found_lines w hits))) in
                print_all fits (record { space = s.space ∙ found_left.same; next = omega (arith, s.next, q.next, head_length) })

pub yes_le : (listed : Bool) → length (yes_no listed) ≤ 3
yes_le true = omega arith
yes_le false = omega arith

pub state_le : (phase : Phase) → length (phase_text phase) ≤ 7
state_le Early = omega arith
state_le Live = omega arith
state_le Expired = omega arith

-- ---- a page of at most 4,096 hits and an event of three letters fits: 13 cannot come

pub page_fits : (client : ℕ) (times : Times) (event : List ℕ) (listed : Bool) (class : ℕ) (hits : List ℕ)
    → length hits / 2 ≤ 4096 → length event ≡ 3 → length (page_text client times event listed class hits) ≤ page_room
page_fits client times event listed class hits h e =
    omega (arith, page_length_is client times event listed class hits, size_small (length hits / 2) (omega arith), yes_le listed, state_le times.phase)

-- so does a refusal of at most four digits
pub refusal_fits : (number : ℕ) → number ≤ 9999 → length (refused_text number) ≤ page_room
refusal_fits number h = omega (arith, refused_length number, size_small number h)
