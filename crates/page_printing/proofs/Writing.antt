-- Lines put one after the other: what is left to put, pasted at its index, gives the whole. And a text at the front of lent space.
use Prim.Native.Nat.{ℕ, ◌+◌, ◌≤◌, ◌<◌}
use Prim.Native.String.{String}
use mathlib.Core.Path.{◌≡◌, refl, sym, ap, ◌∙◌}
use mathlib.Core.Bool.{Bool, true, false}
use mathlib.Core.List.{List, [], ◌∷◌, ◌++◌, append_assoc}
use native.Mathlib.Omega.{arith}
use lib.ListN.{length, length-append}
use lib.Dec.{ltb}
use borrow.Author.Tests.{lt-ltb, le-ltb}
use Rattle.std.specs.Prelude.{Result, Ok, Err}
use Rattle.laws.specs.Order.{granted}
use Rattle.laws.specs.Space.{pasted}
use Rattle.laws.specs.Text.{ascii}
use Rattle.laws.proofs.Pasted.{Todo, step}
use Rattle.codec.specs.Promise.{PutPromise}
use Rattle.codec.proofs.Puts.{put_fits}
use Rattle.page_lines.specs.Lines.{text_line}
use Rattle.page_printing.specs.Page.{line, ended}
use Rattle.refusals.specs.Refusals.{said}
use Rattle.refusals.specs.declared.Refusal.{Refusal}
use Rattle.refusals.specs.declared.Refusal.TheVariants.{NoRoom}
use Rattle.page_printing.specs.Promise.{print_says, PrintPromise}
use Rattle.page_printing.specs.Steps.{Puts}

-- ---- lines

pub ended_more : (l : List ℕ) (ls : List (List ℕ)) → ended (l ∷ []) ++ ended ls ≡ ended (l ∷ ls)
unfolding ended
ended_more l ls = append_assoc l (10 ∷ []) (ended ls)

pub ended_append : (ks ls : List (List ℕ)) → ended ks ++ ended ls ≡ ended (ks ++ ls)
unfolding ended
ended_append [] ls = refl
ended_append (k ∷ ks) ls = append_assoc k (10 ∷ ended ks) (ended ls) ∙ ap (λ (r : List ℕ). k ++ (10 ∷ r)) (ended_append ks ls)

pub length_line : (l : List ℕ) → length (ended (l ∷ [])) ≡ length l + 1
unfolding ended
length_line l = length-append l (10 ∷ [])

pub length_lines : (l : List ℕ) (ls : List (List ℕ)) → length (ended (l ∷ ls)) ≡ length l + 1 + length (ended ls)
unfolding ended
length_lines l ls = length-append l (10 ∷ ended ls) ∙ omega arith

-- a line as it is put
pub line_as : (word : String) (says : List ℕ) → text_line (ascii word) says ≡ ended (line word says ∷ [])
unfolding ended
line_as word says = sym (append_assoc (ascii word) says (10 ∷ []))

pub puts_as : {d : List ℕ} {at : ℕ} {x z d' : List ℕ} {r : ℕ} → Puts d at x d' r → x ≡ z → Puts d at z d' r
puts_as {d} {at} p q = record { space = p.space ∙ ap (pasted d at) q; next = p.next ∙ ap (λ (l : List ℕ). at + length l) q }

-- ---- the next of the lines that are left

module _ {d₀ whole d : List ℕ} {at : ℕ} (l : List ℕ) (ls : List (List ℕ)) (t : Todo d₀ whole d at (ended (l ∷ ls))) where
  pub line_room : at + length (ended (l ∷ [])) ≤ length d
  line_room = omega (arith, t.room, length_line l, length_lines l ls)

  pub line_next : {d' : List ℕ} {r : ℕ} → Puts d at (ended (l ∷ [])) d' r → Todo d₀ whole d' r (ended ls)
  line_next p = step d₀ whole d at (ended (l ∷ ls)) t (ended (l ∷ [])) (ended ls) _ _ (sym (ended_more l ls)) p.space p.next

-- by a call that answers whether there is room
module _ {d₀ whole d : List ℕ} {at : ℕ} (word : String) (says : List ℕ) (ls : List (List ℕ)) (t : Todo d₀ whole d at (ended (line word says ∷ ls))) where
  pub text_room : at + length (text_line (ascii word) says) ≤ length d
  text_room = rw (line_as word says) (line_room (line word says) ls t)

  pub line_put : {d' : List ℕ} {b : Bool} → PutPromise d at (text_line (ascii word) says) b d' → d' ≡ pasted d at (ended (line word says ∷ []))
  line_put p = put_fits p text_room ∙ ap (pasted d at) (line_as word says)

  pub line_then : {d' : List ℕ} {b : Bool} → PutPromise d at (text_line (ascii word) says) b d'
      → (r : ℕ) → r ≡ at + (length (line word says) + 1) → Todo d₀ whole d' r (ended ls)
  line_then p r e =
      line_next (line word says) ls t
      (record { space = line_put p; next = e ∙ ap (λ (n : ℕ). at + n) (sym (length_line (line word says))) })

-- ---- a text at the front of lent space, or 13

pub print_short : (text d : List ℕ) → length d < length text → PrintPromise text d (Err NoRoom) d
unfolding print_says
print_short text d h =
    let e : ltb (length d) (length text) ≡ true = lt-ltb (length d) (length text) h in
    record { says = simp e; space = simp e }

pub print_all : {text d d' : List ℕ} {r : ℕ} → length text ≤ length d → Puts d 0 text d' r → PrintPromise text d (Ok r) d'
unfolding print_says
print_all {text} {d} h p =
    let e : ltb (length d) (length text) ≡ false = le-ltb (length d) (length text) h in
    record { says = simp e (ap granted (p.next ∙ omega arith)); space = simp e p.space }

-- ---- what callers learn of it

pub print_as : {text text' d d' : List ℕ} {r : Result ℕ Refusal} → text ≡ text' → PrintPromise text d r d' → PrintPromise text' d r d'
print_as e p = rw (← e) p

pub print_fits : {text d d' : List ℕ} {r : Result ℕ Refusal} → PrintPromise text d r d' → length text ≤ length d
    → (said r ≡ granted (length text)) × (d' ≡ pasted d 0 text)
unfolding print_says
print_fits {text} {d} p h =
    let e : ltb (length d) (length text) ≡ false = le-ltb (length d) (length text) h in
    (p.says ∙ simp e, p.space ∙ simp e)
