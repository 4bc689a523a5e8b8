-- Reads in their turn: what those so far leave to the next ones.
use Rattle.std.proofs.Common.{ℕ, ◌≡◌, ◌+◌, List, [], ◌∷◌, ◌++◌, Ok, Continue, Break, sym, ap, ◌∙◌, append_assoc}
use Rattle.std.specs.Prelude.{Result}
use mathlib.Core.Path.{refl}
use Rattle.laws.specs.Space.{pasted}
use Rattle.reading.specs.Reading.{after_read, OneRead, reads_on, read_in_turn}

-- after n bytes the space holds what these reads left of the space as found; whatever is read on, is read on from here
pub record SoFar (E : Type 0) (found space : List ℕ) (n : ℕ) : Type 0 where
  pub reads : List (OneRead E)
  pub same : (more : List (OneRead E)) → read_in_turn (reads ++ more) 0 found ≡ read_in_turn more n space

-- all reads, and what came of them
pub record Done {E : Type 0} (found : List ℕ) (r : Result ℕ E) (left : List ℕ) : Type 0 where
  pub reads : List (OneRead E)
  pub says : (r, left) ≡ read_in_turn reads 0 found

module _ {E : Type 0} (found : List ℕ) where
  pub none_so_far : SoFar E found found 0
  none_so_far = record { reads = []; same = λ more. refl }

  pub one_more : (space left : List ℕ) (n k : ℕ) (got : Result ℕ E) → SoFar E found space n → Continue k ≡ after_read n got
      → SoFar E found (pasted space n left) (n + k)
  unfolding read_in_turn
  one_more space left n k got s e =
      let one : OneRead E = record { got = got; left = left } in
      record {
        reads = s.reads ++ (one ∷ []);
        same = λ more. ap (λ (rs : List (OneRead E)). read_in_turn rs 0 found) (append_assoc s.reads (one ∷ []) more)
            ∙ s.same (one ∷ more)
            ∙ ap (λ f. reads_on f (λ j. read_in_turn more (n + j) (pasted space n left)) (pasted space n left)) (sym e);
      }

  pub all_full : (space : List ℕ) (n : ℕ) → SoFar E found space n → Done {E = E} found (Ok n) space
  unfolding read_in_turn
  all_full space n s = record { reads = s.reads ++ []; says = sym (s.same []) }

  pub the_last : (space left : List ℕ) (n : ℕ) (got r : Result ℕ E) → SoFar E found space n → Break r ≡ after_read n got
      → Done {E = E} found r (pasted space n left)
  unfolding read_in_turn
  the_last space left n got r s e =
      let one : OneRead E = record { got = got; left = left } in
      record {
        reads = s.reads ++ (one ∷ []);
        says = sym (s.same (one ∷ []) ∙ ap (λ f. reads_on f (λ j. read_in_turn [] (n + j) (pasted space n left)) (pasted space n left)) (sym e));
      }
