-- Room for a line: what the answer tells of it.
use Prim.Native.Nat.{ℕ, ◌+◌, ◌≤◌, ◌<◌}
use mathlib.Core.Path.{◌≡◌, sym, ◌∙◌}
use mathlib.Core.Bool.{true, false}
use mathlib.Core.List.{List, [], ◌∷◌, ◌++◌}
use native.Mathlib.Omega.{arith}
use lib.ListN.{length, length-append}
use lib.Dec.{leb}
use borrow.Author.Tests.{leb-true, leb-false}
use Rattle.laws.specs.Space.{pasted}
use Rattle.laws.proofs.Pasted.{Todo, todo}
use Rattle.codec.specs.Promise.{PutPromise}
use Rattle.codec.proofs.Puts.{put_no}
use Rattle.page_lines.specs.Lines.{text_line}

pub line_length : (word says : List ℕ) → length (text_line word says) ≡ length word + (length says + 1)
line_length word says = length-append word (says ++ (10 ∷ [])) ∙ omega (arith, length-append says (10 ∷ []))

module _ (d : List ℕ) (at : ℕ) (word says : List ℕ) (n : ℕ) (l : n ≡ length says) where
  pub line_no : false ≡ leb (at + (length word + (n + 1))) (length d) → PutPromise d at (text_line word says) false d
  line_no e =
      let less : length d < at + (length word + (n + 1)) = leb-false (at + (length word + (n + 1))) (length d) (sym e) in
      put_no d at (text_line word says) (omega (arith, line_length word says))

  pub line_todo : true ≡ leb (at + (length word + (n + 1))) (length d) → Todo d (pasted d at (text_line word says)) d at (text_line word says)
  line_todo e =
      let room : at + (length word + (n + 1)) ≤ length d = leb-true (at + (length word + (n + 1))) (length d) (sym e) in
      todo d at (text_line word says) (omega (arith, line_length word says))
