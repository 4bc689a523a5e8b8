-- Words pasted group by group, and fields that were read handed on.
use Prim.Native.Nat.{ℕ, ◌+◌, ◌≤◌, ◌<◌}
use mathlib.Core.Path.{◌≡◌, refl, sym, ap, ◌∙◌, subst}
use mathlib.Core.Bool.{Bool, true, false}
use mathlib.Core.List.{List, ◌++◌}
use native.Mathlib.Omega.{arith}
use lib.ListN.{length, length-append}
use lib.Dec.{ltb}
use borrow.Author.Tests.{lt-ltb, le-ltb}
use Rattle.laws.specs.Order.{Said, granted, refused, choose, next}
use Rattle.laws.specs.Space.{pasted, leaves}
use Rattle.laws.proofs.Pasted.{glue}
use Rattle.header.specs.Header.{Alert}
use Rattle.header.specs.Reading.{read_says}
use Rattle.std.specs.Prelude.{Result, Ok, Err}
use Rattle.refusals.specs.Refusals.{says, said}
use Rattle.refusals.specs.declared.Refusal.{Refusal}
use Rattle.refusals.specs.declared.Refusal.TheVariants.{NoRoom}
use Rattle.refusals.proofs.Said.{next_refused, leaves_refused}
use Rattle.header.specs.Answers.{fields_of}
use Rattle.header.specs.Promise.{WritePromise}
use Rattle.header.specs.declared.Fields.{Fields}
use Rattle.c_words.specs.Words.{fields_in, numbers_of, front_words, back_words, words_of}
use Rattle.c_words.specs.Says.{fields_say, text_says}
use Rattle.c_words.specs.Steps.{Gives, ReadsFields, WritesFields}

pub paste_two : (d d1 d2 : List ℕ) (at i : ℕ) (x y : List ℕ) → at + length x ≡ i → i + length y ≤ length d → d1 ≡ pasted d at x → d2 ≡ pasted d1 i y
    → d2 ≡ pasted d at (x ++ y)
paste_two d d1 d2 at i x y e h p q = glue d d1 d2 at i x y (omega arith) p (sym e) q

pub paste_three : (d d1 d2 d3 : List ℕ) (at i j : ℕ) (x y z : List ℕ) → at + length x ≡ i → i + length y ≡ j → j + length z ≤ length d → d1 ≡ pasted d at x
    → d2 ≡ pasted d1 i y → d3 ≡ pasted d2 j z → d3 ≡ pasted d at ((x ++ y) ++ z)
paste_three d d1 d2 d3 at i j x y z e f h p q r =
    let n : length (x ++ y) ≡ length x + length y = length-append x y in
    paste_two d d2 d3 at j (x ++ y) z (omega arith) h (paste_two d d1 d2 at i x y e (omega arith) p q) r

-- ---- the fields as words

module _ (f : Fields) where
  pub front_length : length f.origin ≡ 3 → length f.event ≡ 3 → length (front_words f) ≡ 11
  unfolding front_words
  front_length a b = length-append (f.origin ++ f.event) (numbers_of f) ∙ omega (arith, length-append f.origin f.event)

  pub back_length : length f.sender ≡ 8 → length f.places ≡ 31 → length (back_words f) ≡ 39
  unfolding back_words
  back_length a b = length-append f.sender f.places ∙ omega arith

  pub gives_few : (d : List ℕ) → length d < 50 → Gives f d (Err NoRoom) d
  gives_few d h =
      let b : ltb (length d) 50 ≡ true = lt-ltb (length d) 50 h in
      record { says = rw b; space = rw b }

  pub gives_all : (d d1 d2 : List ℕ) → 50 ≤ length d
      → (d1 ≡ pasted d 0 (front_words f)) × (length (front_words f) ≡ 11) → (d2 ≡ pasted d1 11 (back_words f)) × (length (back_words f) ≡ 39)
      → Gives f d (Ok f.count) d2
  unfolding words_of
  gives_all d d1 d2 h p q =
      let b : ltb (length d) 50 ≡ false = le-ltb (length d) 50 h in
      let w : d2 ≡ pasted d 0 (front_words f ++ back_words f) =
      paste_two d d1 d2 0 11 (front_words f) (back_words f) (omega (arith, p.1)) (omega (arith, q.1)) p.0 q.0 in
      record { says = rw b; space = w ∙ rw b }

-- ---- a text that was read, or not

module _ (a : Alert) (d : List ℕ) where
  handed : (b : Bool)
      → choose b (refused 13) (granted (length a.places)) ≡ next (choose b (refused 13) (granted a)) (λ (x : Alert). granted (length x.places))
  handed true = refl
  handed false = refl

  handed_space : (b : Bool)
      → leaves (λ (n : ℕ) out. pasted out 0 (words_of (fields_of a))) (choose b (refused 13) (granted (length a.places))) d
      ≡ leaves (λ (x : Alert) out. pasted out 0 (words_of (fields_of x))) (choose b (refused 13) (granted a)) d
  handed_space true = refl
  handed_space false = refl

module _ (t d left : List ℕ) (r : Result ℕ Refusal) where
  pub given_read : (a : Alert) → read_says t ≡ granted a → Gives (fields_of a) d r left → ReadsFields t d r left
  unfolding fields_say
  given_read a e g = record {
    says = g.says ∙ handed a d (ltb (length d) 50) ∙ rw e;
    space = g.space ∙ handed_space a d (ltb (length d) 50) ∙ rw e;
  }

pub refuses : (t d : List ℕ) (e : Refusal) (r : Result ℕ Refusal) → read_says t ≡ says e → said r ≡ says e → ReadsFields t d r d
unfolding fields_say
refuses t d e r p h =
    let k : Alert → Said Alert = λ a. choose (ltb (length d) 50) (refused 13) (granted a) in
    let q : next (read_says t) k ≡ says e = ap (λ (s : Said Alert). next s k) p ∙ next_refused e k in
    record {
      says = h ∙ sym (ap (λ (s : Said Alert). next s (λ a. granted (length a.places))) q ∙ next_refused e (λ a. granted (length a.places)));
      space = sym (ap (λ (s : Said Alert). leaves (λ a out. pasted out 0 (words_of (fields_of a))) s d) q ∙ leaves_refused (λ a out. pasted out 0 (words_of (fields_of a))) e d);
    }

-- ---- a text written from fields

module _ (w d : List ℕ) (r : Result ℕ Refusal) where
  pub writes_few : length w < 50 → said r ≡ refused 13 → WritesFields w d r d
  unfolding text_says
  writes_few h e =
      let b : ltb (length w) 50 ≡ true = lt-ltb (length w) 50 h in
      record { says = e ∙ rw b; space = rw b }

  pub writes_all : (left : List ℕ) {f : Fields} → 50 ≤ length w → f ≡ fields_in w → WritePromise f d left r → WritesFields w d r left
  unfolding text_says
  writes_all left {f} h p k =
      let b : ltb (length w) 50 ≡ false = le-ltb (length w) 50 h in
      let m : WritePromise (fields_in w) d left r = subst (λ (g : Fields). WritePromise g d left r) p k in
      record { says = m.says ∙ rw b; space = m.space ∙ rw b }
