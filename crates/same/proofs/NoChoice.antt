-- A promise gives answer and space as equations, so two that meet it are equal; a number in the low half says that nothing was written.
use Prim.Native.Nat.{ℕ, ◌<◌}
use mathlib.Core.List.{List}
use lib.ListN.{length}
use Rattle.laws.specs.Space.{pasted}
use Rattle.burst.specs.Strip.{stripped}
use Rattle.burst.specs.Vote.{voted_text, vote_says, vote_leaves}
use Rattle.book_rules.specs.Form.{form}
use Rattle.book_rules.specs.Edits.{add_says, added, remove_says, removed}
use Rattle.book_rules.specs.Load.{load_says}
use Rattle.page_printing.specs.Promise.{print_says}
use Rattle.page.specs.Page.{page_of}
use Rattle.c_answers.specs.Answer.{number_in}
use Rattle.c_answers.proofs.Keeps.{keeps, keeps_of}
use mathlib.Core.Path.{◌≡◌, refl, sym, ◌∙◌}
use Rattle.same.specs.declared.SameVoted.{SameVoted}
use Rattle.same.specs.Promise.{SameStripPromise, SameVotePromise, SameListedPromise, SameClassPromise, SameMatchesPromise}
use Rattle.same.specs.Promise.{SameGoodPromise, SameAddPromise, SameRemovePromise, SameLoadPromise, SamePagePromise}

pub strip_no_choice : (burst : List ℕ) (r q : ℕ) → SameStripPromise burst r → SameStripPromise burst q → r ≡ q
strip_no_choice burst r q a b = a.says ∙ sym b.says

pub vote_no_choice : (x y z out : List ℕ) (r q : SameVoted) (left kept : List ℕ) → SameVotePromise x y z out r left → SameVotePromise x y z out q kept
    → (r ≡ q) × (left ≡ kept)
vote_no_choice x y z out r q left kept a b =
    let s : r.answer ≡ q.answer = a.says ∙ sym b.says in
    let f : r.first ≡ q.first = a.first ∙ sym b.first in
    let g : r.second ≡ q.second = a.second ∙ sym b.second in
    let h : r.third ≡ q.third = a.third ∙ sym b.third in
    (λ i. record { answer = s i; first = f i; second = g i; third = h i }, a.space ∙ sym b.space)

pub listed_no_choice : (x y z r q : ℕ) → SameListedPromise x y z r → SameListedPromise x y z q → r ≡ q
listed_no_choice x y z r q a b = a.says ∙ sym b.says

pub class_no_choice : (x y z r q : ℕ) → SameClassPromise x y z r → SameClassPromise x y z q → r ≡ q
class_no_choice x y z r q a b = a.says ∙ sym b.says

pub matches_no_choice : (watched sent r q : ℕ) → SameMatchesPromise watched sent r → SameMatchesPromise watched sent q → r ≡ q
matches_no_choice watched sent r q a b = a.says ∙ sym b.says

pub good_no_choice : (w : List ℕ) (r q : ℕ) → SameGoodPromise w r → SameGoodPromise w q → r ≡ q
good_no_choice w r q a b = a.says ∙ sym b.says

pub add_no_choice : (w : List ℕ) (place client wish r q : ℕ) (left kept : List ℕ) → SameAddPromise w place client wish r left
    → SameAddPromise w place client wish q kept → (r ≡ q) × (left ≡ kept)
add_no_choice w place client wish r q left kept a b = (a.says ∙ sym b.says, a.space ∙ sym b.space)

pub remove_no_choice : (w : List ℕ) (place client r q : ℕ) (left kept : List ℕ) → SameRemovePromise w place client r left
    → SameRemovePromise w place client q kept → (r ≡ q) × (left ≡ kept)
remove_no_choice w place client r q left kept a b = (a.says ∙ sym b.says, a.space ∙ sym b.space)

pub load_no_choice : (w items : List ℕ) (r q : ℕ) (left kept : List ℕ) → SameLoadPromise w items r left → SameLoadPromise w items q kept
    → (r ≡ q) × (left ≡ kept)
load_no_choice w items r q left kept a b = (a.says ∙ sym b.says, a.space ∙ sym b.space)

pub page_no_choice : (input out : List ℕ) (r q : ℕ) (left kept : List ℕ) → SamePagePromise input out r left → SamePagePromise input out q kept
    → (r ≡ q) × (left ≡ kept)
page_no_choice input out r q left kept a b = (a.says ∙ sym b.says, a.space ∙ sym b.space)

-- ---- a refusal leaves lent space as it was: a caller sees it by the number in the low half

pub vote_refusal_writes_nothing : (a b c out : List ℕ) (r : SameVoted) (left : List ℕ) → SameVotePromise a b c out r left → 0 < number_in r.answer → left ≡ out
unfolding vote_leaves
vote_refusal_writes_nothing a b c out r left p =
    let said = vote_says a b c (length out) in
    keeps (λ n d. pasted d 0 (voted_text (stripped a) (stripped b) (stripped c) n)) said said out left r.answer refl p.says p.space

pub add_refusal_writes_nothing : (w : List ℕ) (place client wish r : ℕ) (left : List ℕ) → SameAddPromise w place client wish r left → 0 < number_in r → left ≡ w
add_refusal_writes_nothing w place client wish r left p =
    keeps_of (λ u. 0) (λ u. added form place client wish) (add_says form w place client wish) w left r p.says p.space

pub remove_refusal_writes_nothing : (w : List ℕ) (place client r : ℕ) (left : List ℕ) → SameRemovePromise w place client r left → 0 < number_in r → left ≡ w
remove_refusal_writes_nothing w place client r left p =
    keeps_of (λ u. 0) (λ u. removed form place client) (remove_says form w place client) w left r p.says p.space

pub load_refusal_writes_nothing : (w items : List ℕ) (r : ℕ) (left : List ℕ) → SameLoadPromise w items r left → 0 < number_in r → left ≡ w
load_refusal_writes_nothing w items r left p =
    keeps_of (λ b. 0) (λ b d. b) (load_says form w items) w left r p.says p.space

pub page_refusal_writes_nothing : (input out : List ℕ) (r : ℕ) (left : List ℕ) → SamePagePromise input out r left → 0 < number_in r → left ≡ out
page_refusal_writes_nothing input out r left p =
    let said = print_says (page_of input) (length out) in
    keeps (λ n d. pasted d 0 (page_of input)) said said out left r refl p.says p.space
