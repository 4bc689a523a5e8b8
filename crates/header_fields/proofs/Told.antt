-- What is said of a step of reading says the step.
use Prim.Native.Nat.{ℕ, ◌+◌}
use mathlib.Core.Path.{◌≡◌, refl, sym, ap, ◌∙◌}
use mathlib.Core.List.{List}
use mathlib.Core.Bool.{Bool, true, false}
use lib.ListN.{take, drop}
use lib.Seq.{drop-drop}
use Rattle.laws.specs.Order.{Said, granted, refused_at, choose, next}
use Rattle.laws.proofs.Clash.{clash}
use Rattle.refusals.specs.Refusals.{says}
use Rattle.refusals.specs.declared.Refusal.{Refusal}
use Rattle.refusals.proofs.Said.{never_granted, next_refused}
use Rattle.codec.specs.Kind.{Kind}
use Rattle.codec.specs.Codec.{Out, got, no, fits, step}
use Rattle.header_fields.specs.Says.{told}

-- where a refusal is said, reading stops, and the refusal says where
pub record Stopped {A : Type 0} (B : Type 0) (o : Out A) (e : Refusal) : Type 0 where
  pub its : ℕ
  pub at : ℕ
  pub stops : o ≡ no its at
  pub says : says {A = B} e ≡ refused_at its at

pub stopped : {A : Type 0} (B : Type 0) (o : Out A) (e : Refusal) → says e ≡ told o → Stopped B o e
stopped B (got a r j) e h = never_granted e h
stopped {A} B (no n i) e h = record {
  its = n;
  at = i;
  stops = refl;
  says = let k : A × ℕ → Said B = λ x. refused_at 0 0 in sym (next_refused e k) ∙ ap (λ (s : Said (A × ℕ)). next s k) h;
}

-- where a value and an index are said, the step was taken, and the rest of the text stands at that index
pub taken : {A : Type 0} (n : ℕ) (k : Kind A) (mark : ℕ → Bool) (t : List ℕ) (i : ℕ) (v : A) (j : ℕ)
    → granted (v, j) ≡ told (step n k mark (drop i t) i) → got v (drop j t) j ≡ step n k mark (drop i t) i
taken {A} n k mark t i v j e = go (fits k mark (drop i t)) e
  where
    go : (b : Bool)
        → granted (v, j) ≡ told (choose b (got (k.value (take k.width (drop i t))) (drop (k.width + 1) (drop i t)) (i + (k.width + 1))) (no n i))
        → got v (drop j t) j ≡ choose b (got (k.value (take k.width (drop i t))) (drop (k.width + 1) (drop i t)) (i + (k.width + 1))) (no n i)
    go true e =
        let p : ◌≡◌ {A = A × ℕ} (v, j) (k.value (take k.width (drop i t)), i + (k.width + 1)) = cc in
        rw drop-drop (λ q. got (p q).0 (drop (p q).1 t) (p q).1)
    go false e = clash cc
