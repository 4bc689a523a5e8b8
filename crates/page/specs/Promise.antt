-- What the program's call promises: the page of the input stands at the front of the lent space; or 13, and it is as found.
use Rattle.std.specs.Prelude.{ℕ, ◌≡◌, List, Result, length}
use Rattle.laws.specs.Space.{pasted, leaves}
use Rattle.refusals.specs.Refusals.{said}
use Rattle.refusals.specs.declared.Refusal.{Refusal}
use Rattle.page_printing.specs.Promise.{print_says}
use Rattle.page.specs.Page.{page_of}

pub record PagePromise (input out : List ℕ) (r : Result ℕ Refusal) (left : List ℕ) : Type 0 where
  pub says : said r ≡ print_says (page_of input) (length out)
  pub lent : left ≡ leaves (λ n d. pasted d 0 (page_of input)) (print_says (page_of input) (length out)) out
