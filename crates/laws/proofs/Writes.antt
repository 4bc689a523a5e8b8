-- A list is written into lent space from its first entry on: what is left of it, from index i, still gives the whole.
use mathlib.Core.Path.{◌≡◌, refl, ◌∙◌}
use mathlib.Core.List.{List, [], ◌∷◌, ◌++◌}
use Prim.Native.Nat.{ℕ, ◌+◌, ◌≤◌, ◌<◌}
use native.Mathlib.Numerals.{add-one}
use native.Mathlib.Omega.{arith}
use lib.ListN.{length, get_or, drop, set, length-drop, drop_of_length-le}
use lib.Seq.{drop-cons}
use Rattle.laws.proofs.Pasted.{Todo, step, done, pasted_one}

module _ (d₀ whole d : List ℕ) (at : ℕ) (s : List ℕ) (i : ℕ) (t : Todo d₀ whole d at (drop i s)) where
  -- one more entry of s
  pub write_next : (v : ℕ) → i < length s → v ≡ get_or s i 0 → Todo d₀ whole (set d at v) (at + 1) (drop (i + 1) s)
  write_next v h e =
      let c : drop i s ≡ (v ∷ []) ++ drop (i + 1) s = drop-cons s i 0 h ∙ rw (add-one, e) in
      step d₀ whole d at (drop i s) t (v ∷ []) (drop (i + 1) s) (set d at v) (at + 1) c
      (pasted_one d at v (omega (arith, t.room, length-drop i s))) refl

  -- nothing is left
  pub write_end : length s ≤ i → d ≡ whole
  write_end h =
      let e : drop i s ≡ [] = rw drop_of_length-le in
      done d₀ whole d at (rw e at t)
