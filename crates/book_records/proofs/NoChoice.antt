-- Each promise says what the answer is equal to, so two answers that meet it are equal to each other.
use Prim.Native.Nat.{ℕ}
use mathlib.Core.Bool.{Bool}
use Rattle.std.specs.Prelude.{Option}
use mathlib.Core.Path.{◌≡◌, sym, ◌∙◌}
use Rattle.book_records.specs.Promise.{BadClientPromise, BadWishPromise, ClientOfPromise, WishOfPromise}
use Rattle.book_records.specs.Promise.{MarkOrNonePromise, RankOfPromise, RankOrNonePromise}

pub bad_client_no_choice : (client : ℕ) (r q : Bool) → BadClientPromise client r → BadClientPromise client q → r ≡ q
bad_client_no_choice client r q a b = a.says ∙ sym b.says

pub bad_wish_no_choice : (wish : ℕ) (r q : Bool) → BadWishPromise wish r → BadWishPromise wish q → r ≡ q
bad_wish_no_choice wish r q a b = a.says ∙ sym b.says

pub client_of_no_choice : (mark r q : ℕ) → ClientOfPromise mark r → ClientOfPromise mark q → r ≡ q
client_of_no_choice mark r q a b = a.says ∙ sym b.says

pub wish_of_no_choice : (mark r q : ℕ) → WishOfPromise mark r → WishOfPromise mark q → r ≡ q
wish_of_no_choice mark r q a b = a.says ∙ sym b.says

pub mark_or_none_no_choice : (client wish : ℕ) (r q : Option ℕ) → MarkOrNonePromise client wish r → MarkOrNonePromise client wish q → r ≡ q
mark_or_none_no_choice client wish r q a b = a.says ∙ sym b.says

pub rank_of_no_choice : (first client r q : ℕ) → RankOfPromise first client r → RankOfPromise first client q → r ≡ q
rank_of_no_choice first client r q a b = a.says ∙ sym b.says

pub rank_or_none_no_choice : (first second : ℕ) (r q : Option ℕ) → RankOrNonePromise first second r → RankOrNonePromise first second q → r ≡ q
rank_or_none_no_choice first second r q a b = a.says ∙ sym b.says
