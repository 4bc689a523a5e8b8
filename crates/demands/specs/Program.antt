-- The program's numbers, over whole inputs: the N of `refused=N` is one of the list, and it is 23 exactly where a line is malformed.
use Rattle.std.specs.Prelude.{ℕ, ◌≤◌, ◌≡◌, true, List, length, Result}
use Rattle.laws.specs.Order.{granted, refused}
use Rattle.laws.specs.Space.{pasted}
use Rattle.input_lines.specs.Lines.{pieces}
use Rattle.page_printing.specs.Page.{refused_text, page_room}
use Rattle.refusals.specs.declared.Refusal.{Refusal}
use Rattle.page.specs.Input.{Shown, input_says}
use Rattle.page.specs.Page.{shown_text, page_of}
use Rattle.page.specs.Promise.{PagePromise}
use Rattle.demands.specs.Forms.{is_number, numbered}
use Rattle.demands.specs.Malformed.{Malformed}

-- the page of an input: that of a granted report, or only `refused=N` with a number of the list
pub data PageIs (input : List ℕ) : List ℕ → Type 0 where
  shows : (shown : Shown) → input_says input ≡ granted shown → PageIs input (shown_text shown)
  refuses : (n : ℕ) → is_number n ≡ true → PageIs input (refused_text n)

-- and what is lent holds it at its front, and everything else as found
pub record Prints (input out left : List ℕ) : Type 0 where
  pub page : List ℕ
  pub is : PageIs input page
  pub lent : left ≡ pasted out 0 page

pub record ProgramNumbers : Type 0 where
  -- the number of any refusal is one of the list
  pub listed : (input : List ℕ) → numbered (input_says input) ≡ true
  pub page : (input : List ℕ) → PageIs input (page_of input)
  pub prints : (input out left : List ℕ) (r : Result ℕ Refusal) → PagePromise input out r left → page_room ≤ length out → Prints input out left
  -- 23 is said exactly where the paper says, and `refused=23` is printed exactly there
  pub says_23 : (input : List ℕ) → Malformed (pieces input) → input_says input ≡ refused 23
  pub only_23 : (input : List ℕ) → input_says input ≡ refused 23 → Malformed (pieces input)
  pub prints_23 : (input : List ℕ) → Malformed (pieces input) → page_of input ≡ refused_text 23
  pub only_prints_23 : (input : List ℕ) → page_of input ≡ refused_text 23 → Malformed (pieces input)
