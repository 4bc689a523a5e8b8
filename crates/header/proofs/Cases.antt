-- Worked examples, each of reading a whole text, by computation.
use Prim.Native.Nat.{ℕ, zero, suc}
use Rattle.std.specs.Prelude.{Result}
use mathlib.Core.Path.{◌≡◌, refl, ap, ◌∙◌}
use mathlib.Core.List.{List, [], ◌++◌}
use native.Mathlib.Omega.{arith}
use lib.ListN.{take}
use Rattle.laws.specs.Order.{granted, refused_at}
use Rattle.laws.specs.Text.{ascii}
use Rattle.codec.specs.Codec.{fits}
use Rattle.refusals.specs.declared.Refusal.{Refusal}
use Rattle.header.specs.Header.{front, header, text_of}
use Rattle.header.specs.Reading.{read_says}
use Rattle.header.specs.Samples.{sample, sample_says, lasting, lasts}
use Rattle.header.specs.Answers.{fields_for, fields_read}
use Rattle.header.specs.Promise.{ReadPromise}
use Rattle.header.specs.declared.Fields.{Fields}

-- ---- the sample of the paper

pub sample_reads : read_says sample ≡ granted sample_says
unfolding read_says header front fits
sample_reads = refl

pub sample_writes : text_of sample_says ≡ sample
unfolding text_of header front
sample_writes = refl

-- cut before its last mark: the sender, at its own start; with a byte too many: the leftover
pub sample_cut : read_says (take 55 sample) ≡ refused_at 11 47
unfolding read_says header front fits
sample_cut = refl

pub sample_long : read_says (sample ++ ascii "-") ≡ refused_at 12 56
unfolding read_says header front fits
sample_long = refl

-- ---- durations: 0130 is 90 minutes, 9930 is 5,970; 0115 and 0000 give 9, at the field

pub d0130 : read_says (lasting "0130") ≡ granted (lasts 90)
unfolding read_says header front fits
d0130 = refl

pub d9930 : read_says (lasting "9930") ≡ granted (lasts 5970)
unfolding read_says header front fits
d9930 = refl

pub d0115 : read_says (lasting "0115") ≡ refused_at 9 20
unfolding read_says header front fits
d0115 = refl

pub d0000 : read_says (lasting "0000") ≡ refused_at 9 20
unfolding read_says header front fits
d0000 = refl

-- as they are written, though 60 and 90 minutes exist
pub d0060 : read_says (lasting "0060") ≡ refused_at 9 20
unfolding read_says header front fits
d0060 = refl

pub d0090 : read_says (lasting "0090") ≡ refused_at 9 20
unfolding read_says header front fits
d0090 = refl

-- ---- no reader answers all texts alike, and none refuses every text

pub two_texts : (r s : Result Fields Refusal) → ReadPromise (lasting "0130") r → ReadPromise (lasting "9930") s → fields_read r ≡ fields_read s → ⊥
two_texts r s p q e =
    let x : (fields_read r).duration ≡ 90 = ap (λ (f : Fields). f.duration) (p.fields ∙ ap fields_for d0130) in
    let y : (fields_read s).duration ≡ 5970 = ap (λ (f : Fields). f.duration) (q.fields ∙ ap fields_for d9930) in
    let z : (fields_read r).duration ≡ (fields_read s).duration = ap (λ (f : Fields). f.duration) e in
    omega arith

-- ---- 31 places and a 32nd in 237 bytes: 8 at the 32nd's own start, whatever stands there; 253 bytes: 4 at 252

abbrev pub again : ℕ → List ℕ → List ℕ
again zero s = []
again (suc n) s = s ++ again n s

abbrev pub full : List ℕ
full = ascii "ZCZC-WXR-TOR-" ++ again 31 (ascii "039173-")

pub one_more : read_says (full ++ ascii "039173+") ≡ refused_at 8 230
unfolding read_says header front fits
one_more = refl

pub none_more : read_says full ≡ refused_at 8 230
unfolding read_says header front fits
none_more = refl

pub too_long : read_says (again 253 (ascii "A")) ≡ refused_at 4 252
unfolding read_says
too_long = refl
