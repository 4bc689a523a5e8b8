-- Which numbers a call can give: by its rows, each tried by computing; reading by the table of fields.
use Prim.Native.Nat.{ℕ}
use mathlib.Core.Path.{◌≡◌, refl}
use mathlib.Core.Logic.{⊎_elim}
use mathlib.Core.Bool.{Bool, true, false}
use mathlib.Core.List.{List, [], ◌∷◌}
use native.Mathlib.Omega.{arith}
use lib.ListN.{length}
use lib.Dec.{ltb}
use Rattle.laws.specs.Order.{Said, refused_at, Row, choose, passes}
use Rattle.laws.specs.Numbers.{within}
use Rattle.laws.proofs.Order.{all_pass, passes_first, passes_more}
use Rattle.laws.proofs.Tests.{within_lo, within_hi, within_i}
use Rattle.codec.specs.Codec.{Out, got, no}
use Rattle.header.specs.Header.{Front, header}
use Rattle.header.specs.Reading.{to_the_end, read_says, TableStops, at_start, at_origin, at_event, at_place, at_duration, at_issue, at_sender}
use Rattle.header.proofs.Stopping.{table_stops}
use Rattle.demands.specs.Forms.{GoesBy, is_number, numbered}

pub passes_by : {A : Type 0} (p q : ℕ → Bool) {rows : List (Row (Said A))} {last said : Said A} → GoesBy rows last said
    → all_pass p q rows ≡ true → passes p q last ≡ true → passes p q said ≡ true
passes_by {A} p q {rows} {last} {said} g all end = ⊎_elim (λ k. passes_first p q said rows k all) (λ k. rw k.1 end) g.one_of

-- a number of the list
pub numbered_by : {A : Type 0} {rows : List (Row (Said A))} {last said : Said A} → GoesBy rows last said
    → all_pass is_number is_number rows ≡ true → numbered last ≡ true → numbered said ≡ true
numbered_by {A} {rows} {last} {said} = passes_by is_number is_number

-- and one that is not the program's own, which is 23
abbrev pub is_low : ℕ → Bool
is_low n = within 1 22 n

pub low_number : (n : ℕ) → is_low n ≡ true → is_number n ≡ true
low_number n h = let a = within_lo 1 22 n h in let b = within_hi 1 22 n h in within_i 1 23 n a (omega arith)

pub low_numbered : {A : Type 0} (s : Said A) → passes is_low is_low s ≡ true → numbered s ≡ true
low_numbered s h = passes_more is_low is_low is_number is_number low_number low_number s h

-- ---- reading: each field of the table has its own

table_number : {t : List ℕ} {n i : ℕ} → TableStops t n i → is_low n ≡ true
table_number (at_start h) = refl
table_number (at_origin h k) = refl
table_number (at_event h k l) = refl
table_number (at_place h k) = refl
table_number (at_duration h k) = refl
table_number (at_issue h k l) = refl
table_number (at_sender h k l m) = refl

pub low_read : (t : List ℕ) → passes is_low is_low (read_says t) ≡ true
unfolding read_says
low_read t = go (ltb 252 (length t))
  where
    end : (o : Out (Front × List ℕ)) → header.get t 0 ≡ o → passes is_low is_low (to_the_end o) ≡ true
    end (no n i) e = table_number (table_stops t n i e)
    end (got a [] i) e = refl
    end (got a (x ∷ rest) i) e = refl

    go : (b : Bool) → passes is_low is_low (choose b (refused_at 4 252) (to_the_end (header.get t 0))) ≡ true
    go true = refl
    go false = end (header.get t 0) refl
