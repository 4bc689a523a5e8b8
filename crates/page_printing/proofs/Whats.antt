-- The lines of event, whether listed, class and phase, one after the other: what is left of them, pasted at its index, gives the whole.
use Prim.Native.Nat.{ℕ, ◌+◌, ◌≤◌}
use mathlib.Core.Path.{◌≡◌, refl, ap, ◌∙◌}
use mathlib.Core.Bool.{Bool}
use mathlib.Core.List.{List, [], ◌∷◌}
use native.Mathlib.Omega.{arith}
use lib.ListN.{length}
use Rattle.laws.specs.Numbers.{dig}
use Rattle.laws.specs.Space.{pasted}
use Rattle.laws.specs.Text.{ascii}
use Rattle.laws.proofs.Pasted.{Todo, todo}
use Rattle.codec.specs.Promise.{PutPromise}
use Rattle.page_lines.specs.Lines.{text_line}
use Rattle.page_lines.proofs.Room.{line_length}
use Rattle.clock.specs.declared.Phase.{Phase}
use Rattle.page_printing.specs.Page.{line, yes_no, phase_text, ended}
use Rattle.page_printing.specs.Steps.{Puts, what_lines}
use Rattle.page_printing.proofs.Writing.{length_line, line_as, puts_as, line_next, text_room, line_then}
use Rattle.page_printing.proofs.Pages.{what_length}

module _ (d : List ℕ) (at : ℕ) (event : List ℕ) (listed : Bool) (class : ℕ) (phase : Phase)
    (h : at + length (ended (what_lines event listed class phase)) ≤ length d) where
  abbrev whole : List ℕ
  whole = pasted d at (ended (what_lines event listed class phase))

  all : Todo d whole d at (ended (what_lines event listed class phase))
  all = todo d at (ended (what_lines event listed class phase)) h

  pub event_room : at + length (text_line (ascii "event=") event) ≤ length d
  event_room = text_room "event=" event _ all

  module _ {d1 : List ℕ} {e : ℕ} (p : Puts d at (text_line (ascii "event=") event) d1 e) (word : List ℕ) (w : word ≡ yes_no listed) where
    rest : Todo d whole d1 e (ended (line "listed=" (yes_no listed) ∷ line "class=" (dig 1 class) ∷ line "state=" (phase_text phase) ∷ []))
    rest = line_next (line "event=" event) _ all (puts_as p (line_as "event=" event))

    pub listed_room : e + length (text_line (ascii "listed=") word) ≤ length d1
    listed_room = rw w (text_room "listed=" (yes_no listed) _ rest)

    module _ {d2 d3 : List ℕ} {f : ℕ} {b : Bool} (q : Puts d1 e (text_line (ascii "listed=") word) d2 f)
        (r : PutPromise d2 f (text_line (ascii "class=") (dig 1 class)) b d3) where
      listed_put : Puts d1 e (ended (line "listed=" (yes_no listed) ∷ [])) d2 f
      listed_put = puts_as q (ap (text_line (ascii "listed=")) w ∙ line_as "listed=" (yes_no listed))

      last : Todo d whole d3 (f + 8) (ended (line "state=" (phase_text phase) ∷ []))
      last =
          line_then "class=" (dig 1 class) (line "state=" (phase_text phase) ∷ []) (line_next (line "listed=" (yes_no listed)) _ rest listed_put) r
          (f + 8) refl

      pub class_end : f + 8 ≤ length d
      class_end = omega (arith, last.room, last.len)

      module _ (state : List ℕ) (s : state ≡ phase_text phase) where
        pub phase_room : f + 8 + length (text_line (ascii "state=") state) ≤ length d3
        phase_room = rw s (text_room "state=" (phase_text phase) _ last)

        pub what_done : {d4 : List ℕ} {g : ℕ} → Puts d3 (f + 8) (text_line (ascii "state=") state) d4 g
            → Puts d at (ended (what_lines event listed class phase)) d4 g
        what_done x =
            let z : Puts d3 (f + 8) (ended (line "state=" (phase_text phase) ∷ [])) _ _ =
            puts_as x (ap (text_line (ascii "state=")) s ∙ line_as "state=" (phase_text phase)) in
            record {
              space = z.space ∙ last.same;
              next =
                  omega (
                    arith,
                    z.next,
                    length_line (line "state=" (phase_text phase)),
                    listed_put.next,
                    length_line (line "listed=" (yes_no listed)),
                    p.next,
                    line_length (ascii "event=") event,
                    what_length event listed class phase,
                  );
            }
