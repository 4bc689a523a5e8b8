-- What reads take of an input: two in turn, one that failed, and what the space holds where the input has ended or the space is full.
use Rattle.std.proofs.Common.{ℕ, ◌≡◌, ◌<◌, ◌≤◌, List, [], ◌++◌, length, take, Bool, true, false, Ok, Err, ControlFlow, Continue, Break, subst, sym, ap, ◌∙◌, append_assoc, append-nil, length-take-le}
use Rattle.std.proofs.lemmas.List.{take_all}
use Rattle.std.specs.Prelude.{Option, Some, None, Result, eqb, IfSome}
use Rattle.std.specs.Io.KnownBytes.{Consumes, Keeps, IsAtEnd, ReadConsumes}
use lib.Seq.{take_at}
use mathlib.Core.Path.{refl}
use native.Mathlib.Omega.{arith}
use borrow.Author.Tests.{eqb-true}
use Rattle.laws.specs.Order.{choose}
use Rattle.reading.specs.Reading.{after_read, Within, Holds, Gone}

pub consumes_none : (a : Option (List ℕ)) → Consumes a a []
consumes_none None = tt
consumes_none (Some xs) = refl

pub consumes_two : (a b c : Option (List ℕ)) (x y : List ℕ) → Consumes a b x → Consumes b c y → Consumes a c (x ++ y)
consumes_two None b c x y p q = tt
consumes_two (Some xs) None c x y p q = absurd p
consumes_two (Some xs) (Some ys) None x y p q = absurd q
consumes_two (Some xs) (Some ys) (Some zs) x y p q = p ∙ ap (λ (t : List ℕ). x ++ t) q ∙ sym (append_assoc x y zs)

consumes_kept : (a b c : Option (List ℕ)) (x : List ℕ) → Consumes a b x → Keeps b c → Consumes a c x
consumes_kept None b c x p q = tt
consumes_kept (Some xs) None c x p q = absurd p
consumes_kept (Some xs) (Some ys) None x p q = absurd q
consumes_kept (Some xs) (Some ys) (Some zs) x p q = p ∙ ap (λ (t : List ℕ). x ++ t) (sym q)

-- the space is full: all of it was read
pub holds_full : (a b : Option (List ℕ)) (n : ℕ) (space : List ℕ) → n ≡ length space → Consumes a b (take n space)
    → IfSome a (λ xs. take n space ≡ take (length space) xs)
holds_full None b n space h p = tt
holds_full (Some xs) None n space h p = absurd p
holds_full (Some xs) (Some ys) n space h p =
    let l : length (take n space) ≡ length space = length-take-le n space (omega arith) ∙ h in
    sym (ap (take (length space)) p ∙ take_at (take n space) ys (length space) l)

-- the input has ended: all of it was read
holds_end : (a b : Option (List ℕ)) (n : ℕ) (space : List ℕ) → n ≤ length space → Consumes a b (take n space) → IsAtEnd b
    → IfSome a (λ xs. take n space ≡ take (length space) xs)
holds_end None b n space h p q = tt
holds_end (Some xs) None n space h p q = absurd p
holds_end (Some xs) (Some ys) n space h p q =
    let e : xs ≡ take n space = p ∙ ap (λ (t : List ℕ). take n space ++ t) q ∙ append-nil (take n space) in
    let l : length xs ≤ length space = omega (arith, ap length e, length-take-le n space h) in
    sym (take_all (length space) xs l ∙ e)

-- a read that ends the loop brought nothing, or it failed
at_end : {E : Type 0} (n k : ℕ) (r : Result ℕ E) → Break r ≡ after_read n (Ok k) → (k ≡ 0) × (r ≡ Ok n)
at_end {E} n k r e = go (eqb k 0) refl e
  where
    go : (b : Bool) → eqb k 0 ≡ b → ◌≡◌ {A = ControlFlow (Result ℕ E) ℕ} (Break r) (choose b (Break (Ok n)) (Continue k)) → (k ≡ 0) × ◌≡◌ {A = Result ℕ E} r (Ok n)
    go true t e = (eqb-true k 0 t, cc)
    go false t e = cc

-- what is promised where a read ends the loop: n bytes were read before it, and stand in front of what it left
pub record Last {E : Type 0} (input rest : Option (List ℕ)) (left : List ℕ) (r : Result ℕ E) : Type 0 where
  pub within : Within (length left) r
  pub holds : Holds input left r
  pub gone : Gone input rest left r

pub last_read : {E : Type 0} (input mid rest : Option (List ℕ)) (n : ℕ) (left buf : List ℕ) (got r : Result ℕ E)
    → n < length left → 0 < length buf → Consumes input mid (take n left) → ReadConsumes mid rest got buf → Break r ≡ after_read n got
    → Last input rest left r
last_read {E} input mid rest n left buf (Ok k) r h l p q e =
    let a = at_end n k r e in
    let c : Consumes input rest (take n left) = subst (Consumes input rest) (append-nil (take n left))
    (subst (λ j. Consumes input rest (take n left ++ take j buf)) a.0 (consumes_two input mid rest (take n left) (take k buf) p q.0)) in
    subst (Last {E = E} input rest left) (sym a.1) (record { within = omega arith; holds = holds_end input rest n left (omega arith) c (q.1 a.0 l); gone = c })
last_read {E} input mid rest n left buf (Err x) r h l p q e =
    let a : r ≡ Err x = cc in
    subst (Last {E = E} input rest left) (sym a) (record { within = tt; holds = tt; gone = (n, h, consumes_kept input mid rest (take n left) p q) })
