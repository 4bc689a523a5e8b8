-- Reading an input leaves no choice: calls whose reads answered alike answer alike, and leave the same. And what is read whole of an input whose
-- bytes are known is settled by these alone.
use Rattle.std.proofs.Common.{ℕ, ◌≡◌, min, List, length, take, drop, sym, ap, ◌∙◌, length-take-le}
use Rattle.std.proofs.lemmas.List.{length-take}
use Rattle.std.specs.Prelude.{Option, Some, None, Result, Ok}
use Rattle.std.specs.Io.KnownBytes.{Consumes}
use lib.Seq.{drop_at}
use mathlib.Core.Path.{refl}
use Rattle.reading.specs.Reading.{OneRead, read_in_turn}
use Rattle.reading.specs.Promise.{ReadInputPromise}

pub read_input_no_choice : {E : Type 0} {input input' rest rest' : Option (List ℕ)} {space left left' : List ℕ} {r r' : Result ℕ E}
    → (p : ReadInputPromise {E = E} input rest space left r) (q : ReadInputPromise {E = E} input' rest' space left' r') → p.reads ≡ q.reads
    → (r ≡ r') × (left ≡ left')
read_input_no_choice {E} {space = space} p q e =
    let s = p.says ∙ ap (λ (rs : List (OneRead E)). read_in_turn rs 0 space) e ∙ sym q.says in
    (λ i. (s i).0, λ i. (s i).1)

-- what is left of known bytes
left_of : (xs ys : List ℕ) (rest : Option (List ℕ)) → Consumes (Some xs) rest ys → rest ≡ Some (drop (length ys) xs)
left_of xs ys None p = absurd p
left_of xs ys (Some zs) p = ap Some (sym (ap (drop (length ys)) p ∙ drop_at ys zs (length ys) refl))

-- of an input whose bytes are known: as many are read whole as it has, or as there is room for; these stand in front, and the others are left
pub record WholeOf (xs : List ℕ) (rest : Option (List ℕ)) (space left : List ℕ) (n : ℕ) : Type 0 where
  pub count : n ≡ min (length space) (length xs)
  pub front : take n left ≡ take (length space) xs
  pub others : rest ≡ Some (drop n xs)

pub read_input_whole : {E : Type 0} {xs space left : List ℕ} {rest : Option (List ℕ)} {n : ℕ}
    → ReadInputPromise {E = E} (Some xs) rest space left (Ok n) → WholeOf xs rest space left n
read_input_whole {E} {xs} {space} {left} {rest} {n} p =
    let h : take n left ≡ take (length space) xs = p.holds ∙ ap (λ m. take m xs) p.kept in
    let l : length (take n left) ≡ n = length-take-le n left p.within in
    let g : rest ≡ Some (drop (length (take n left)) xs) = left_of xs (take n left) rest p.gone in
    record { count = sym l ∙ ap length h ∙ length-take (length space) xs; front = h; others = g ∙ ap (λ m. Some (drop m xs)) l }

pub read_input_known_no_choice : {E : Type 0} {xs space left left' : List ℕ} {rest rest' : Option (List ℕ)} {n n' : ℕ}
    → ReadInputPromise {E = E} (Some xs) rest space left (Ok n) → ReadInputPromise {E = E} (Some xs) rest' space left' (Ok n')
    → (n ≡ n') × (take n left ≡ take n' left') × (rest ≡ rest')
read_input_known_no_choice {xs = xs} p q =
    let a = read_input_whole p in
    let b = read_input_whole q in
    let e = a.count ∙ sym b.count in
    (e, a.front ∙ sym b.front, a.others ∙ ap (λ m. Some (drop m xs)) e ∙ sym b.others)
