-- A line of a kind ends after the kind's bytes: none of them is a byte 10, so one look tells whether it can have the form.
use Prim.Native.Nat.{ℕ, zero, suc, ◌+◌, ◌≤◌, ◌<◌}
use mathlib.Core.Path.{◌≡◌, refl, sym, ap, ◌∙◌}
use mathlib.Core.List.{List, [], ◌∷◌}
use mathlib.Core.Bool.{Bool, true, false, ◌&&◌, not}
use native.Mathlib.Omega.{arith}
use lib.ListN.{length, get_or, take, drop, drop_of_length-le, length-drop, take-append-drop}
use lib.Seq.{drop-cons, drop-drop, length-take-le, get_or-drop}
use lib.Dec.{ltb, leb, eqb}
use borrow.Author.Tests.{eq-eqb, ne_eqb, lt-ltb, le-ltb, le-leb, ltb-true, ltb-false, eqb-true, not-true}
use Rattle.std.specs.Prelude.{Option, Some, None, slice_range}
use Rattle.std.specs.List.{IsSplitAt, starts_with}
use Rattle.std.specs.Option.{option_map, ok_or}
use Rattle.laws.specs.Order.{Said, granted, refused, choose}
use Rattle.refusals.specs.Refusals.{said}
use Rattle.refusals.specs.declared.Refusal.TheVariants.{Malformed}
use Rattle.laws.specs.Lists.{every, same}
use Rattle.laws.specs.Numbers.{digit}
use Rattle.laws.proofs.Clash.{clash}
use Rattle.laws.proofs.Tests.{and_l, and_r, within_lo}
use Rattle.laws.proofs.Every.{every_append, same_eq}
use Rattle.laws.proofs.Prefixes.{starts_same}
use Rattle.laws.specs.Text.{ascii}
use Rattle.codec.specs.Kind.{Kind, digits, ◌⊗◌, tag}
use Rattle.input_lines.specs.Lines.{whole, is_line}
use Rattle.input_lines.specs.Forms.{space, now_kind, client_kind, sub_kind}
use Rattle.input_lines.specs.Next.{next_of}
use Rattle.input_lines.specs.Answers.{with_index, said_as}
use Rattle.input_lines.specs.Steps.{to_end, ends_after, form_of, FixedLine, no_end, ends}
use Rattle.input_lines.proofs.Ends.{end_le, rest_is}
use Rattle.input_lines.proofs.Next.{next_of_is, took_says, NextLine, taken, malformed, next_line}
use Rattle.input_lines.proofs.Pieces.{clean}

-- ---- kinds whose bytes are no byte 10

pub record Clean {A : Type 0} (k : Kind A) : Type 0 where
  pub none : (b : List ℕ) → k.allowed b ≡ true → clean b ≡ true

clean_digits : (b : List ℕ) → every digit b ≡ true → clean b ≡ true
clean_digits [] h = refl
clean_digits (x ∷ xs) h =
    let d : digit x ≡ true = and_l (digit x) (every digit xs) h in
    simp (ne_eqb x 10 (λ e. omega (arith, within_lo 48 57 x d)), clean_digits xs (and_r (digit x) (every digit xs) h))

clean_two : (n : ℕ) (b : List ℕ) → clean (take n b) ≡ true → clean (drop n b) ≡ true → clean b ≡ true
clean_two n b p q = ap clean (sym (take-append-drop n b)) ∙ every_append (λ x. not (eqb x 10)) (take n b) (drop n b) ∙ simp (p, q)

pub of_digits : (w : ℕ) → Clean (digits w)
of_digits w = record { none = clean_digits }

module _ {A : Type 0} where
  pub of_tag : (word : List ℕ) {k : Kind A} → clean word ≡ true → Clean k → Clean (tag word k)
  of_tag word {k} c g = record {
    none = λ b h.
        let n = length word in
        let e : take n b ≡ word = same_eq (take n b) word (and_l (same (take n b) word) (k.allowed (drop n b)) h) in
        clean_two n b (ap clean e ∙ c) (g.none (drop n b) (and_r (same (take n b) word) (k.allowed (drop n b)) h));
  }

  pub of_two : {B : Type 0} {j : Kind A} {k : Kind B} → Clean j → Clean k → Clean (j ⊗ k)
  of_two {j = j} {k = k} f g = record {
    none = λ b h.
        clean_two j.width b (f.none (take j.width b) (and_l (j.allowed (take j.width b)) (k.allowed (drop j.width b)) h))
        (g.none (drop j.width b) (and_r (j.allowed (take j.width b)) (k.allowed (drop j.width b)) h));
  }

-- ---- where a line ends

end_clean : (w : ℕ) (s : List ℕ) → w < length s → clean (take w s) ≡ true → get_or s w 0 ≡ 10 → to_end s ≡ w
unfolding to_end
end_clean w [] l c e = absurd (omega arith)
end_clean zero (x ∷ xs) l c e = simp (eq-eqb x 10 e)
end_clean (suc w) (x ∷ xs) l c e =
    let n : eqb x 10 ≡ false = not-true (eqb x 10) (and_l (not (eqb x 10)) (clean (take w xs)) c) in
    simp n (ap suc (end_clean w xs (omega arith) (and_r (not (eqb x 10)) (clean (take w xs)) c) e))

end_byte : (s : List ℕ) → to_end s < length s → get_or s (to_end s) 0 ≡ 10
unfolding to_end
end_byte [] h = absurd (omega arith)
end_byte (x ∷ xs) h = go (eqb x 10) refl (end_byte xs) h
  where
    go : (t : Bool) → eqb x 10 ≡ t → (to_end xs < length xs → get_or xs (to_end xs) 0 ≡ 10) → choose t 0 (suc (to_end xs)) < length (x ∷ xs)
        → get_or (x ∷ xs) (choose t 0 (suc (to_end xs))) 0 ≡ 10
    go true e f h = eqb-true x 10 e
    go false e f h = f (omega arith)

-- ---- what the next line says, by one look at where it must end

module _ {A : Type 0} (k : Kind A) (g : Clean k) (short : k.width ≤ 300) (t : List ℕ) (at : ℕ) where
  abbrev s : List ℕ
  s = drop at t

  abbrev w : ℕ
  w = k.width

  byte : get_or s w 0 ≡ get_or t (at + w) 0
  byte = get_or-drop at t w 0

  -- a line that has the form was taken
  has_form : at + w < length t → get_or t (at + w) 0 ≡ 10 → k.allowed (take w s) ≡ true
      → ◌≡◌ {A = Said (A × ℕ)} (granted (k.value (take w s), at + w + 1)) (next_of (whole k) t at)
  unfolding is_line
  has_form l e a =
      let m : w < length s = omega (arith, length-drop at t) in
      let n : to_end s ≡ w = end_clean w s m (g.none (take w s) a) (byte ∙ e) in
      let i : length (take w s) ≡ w = length-take-le w s (omega arith) in
      sym (next_of_is (whole k) t at ∙ rw n (simp (lt-ltb w (length s) m, i, le-leb w 300 short, eq-eqb w w refl, a)))

  -- a line that was taken has the form
  took_form : (v : A) (j : ℕ) → next_of (whole k) t at ≡ granted (v, j) → (at + w < length t) × (get_or t (at + w) 0 ≡ 10) × (k.allowed (take w s) ≡ true)
  unfolding is_line
  took_form v j p =
      let q = took_says (whole k) t at v j p in
      let l : List ℕ = take (to_end s) s in
      let f = and_r (leb (length l) 300) (eqb (length l) w && k.allowed l) q.line in
      let n : to_end s ≡ w = sym (length-take-le (to_end s) s (end_le s)) ∙ eqb-true (length l) w (and_l (eqb (length l) w) (k.allowed l) f) in (
        omega (arith, q.inside, length-drop at t),
        sym byte ∙ ap (λ (m : ℕ). get_or s m 0) (sym n) ∙ end_byte s q.inside,
        ap (λ (m : ℕ). k.allowed (take m s)) (sym n) ∙ and_r (eqb (length l) w) (k.allowed l) f,
      )

  pub not_there : ends_after t at w ≡ false → refused 23 ≡ next_of (whole k) t at
  unfolding ends_after
  not_there h = go (next_line (whole k) t at)
    where
      go : NextLine (whole k) t at → refused 23 ≡ next_of (whole k) t at
      go (malformed p) = sym p
      go (taken v j p) =
          let f = took_form v j p in
          let b : ltb (at + w) (length t) && eqb (get_or t (at + w) 0) 10 ≡ true =
          simp (lt-ltb (at + w) (length t) f.0, eq-eqb (get_or t (at + w) 0) 10 f.1) in
          (let z : ◌≡◌ {A = Bool} true false = sym b ∙ h in clash cc)

  pub there : ends_after t at w ≡ true → choose ((whole k).allowed (take w s)) (granted (k.value (take w s), at + w + 1)) (refused 23) ≡ next_of (whole k) t at
  unfolding ends_after
  there h = go (k.allowed (take w s)) refl (next_line (whole k) t at)
    where
      l : at + w < length t
      l = ltb-true (at + w) (length t) (and_l (ltb (at + w) (length t)) (eqb (get_or t (at + w) 0) 10) h)

      n : length (take w s) ≡ w
      n = length-take-le w s (omega (arith, l, length-drop at t))

      last : get_or t (at + w) 0 ≡ 10
      last = eqb-true (get_or t (at + w) 0) 10 (and_r (ltb (at + w) (length t)) (eqb (get_or t (at + w) 0) 10) h)

      go : (b : Bool) → k.allowed (take w s) ≡ b → NextLine (whole k) t at
          → choose (eqb (length (take w s)) w && k.allowed (take w s)) (granted (k.value (take w s), at + w + 1)) (refused 23)
          ≡ next_of (whole k) t at
      go true a x = simp (n, eq-eqb w w refl, a) (has_form l last a)
      go false a (malformed p) = simp (n, eq-eqb w w refl, a) (sym p)
      go false a (taken v j p) = (let z : ◌≡◌ {A = Bool} true false = sym (took_form v j p).2 ∙ a in clash cc)

  -- what is read of a line by its form is what the next line says
  read_form : {T : Type 0} (f : T → A) (o : Option T) → option_map f o ≡ form_of (whole k) (take w s)
      → said_as (with_index f) (ok_or (option_map (λ v. (v, at + w + 1)) o) Malformed)
      ≡ choose ((whole k).allowed (take w s)) (granted (k.value (take w s), at + w + 1)) (refused 23)
  unfolding form_of
  read_form {T} f o e = go o ((whole k).allowed (take w s)) e
    where
      go : (o : Option T) (b : Bool) → option_map f o ≡ choose b (Some (k.value (take w s))) None
          → said_as (with_index f) (ok_or (option_map (λ v. (v, at + w + 1)) o) Malformed) ≡ choose b (granted (k.value (take w s), at + w + 1)) (refused 23)
      go (Some v) true e = let z : f v ≡ k.value (take w s) = cc in ap (λ (a : A). granted (a, at + w + 1)) z
      go (Some v) false e = clash cc
      go None true e = clash cc
      go None false e = refl

  pub read_says : {T : Type 0} (f : T → A) (of : List ℕ → Option T → Type 0)
      → ((o : Option T) → of (take w s) o → option_map f o ≡ form_of (whole k) (take w s))
      → (r : Option (T × ℕ)) → FixedLine of t at w r → said_as (with_index f) (ok_or r Malformed) ≡ next_of (whole k) t at
  read_says {T} f of h r (no_end n e) = ap (λ (s : Option (T × ℕ)). said_as (with_index f) (ok_or s Malformed)) e ∙ not_there n
  read_says {T} f of h r (ends n o p e) = ap (λ (s : Option (T × ℕ)). said_as (with_index f) (ok_or s Malformed)) e ∙ read_form f o (h o p) ∙ there n

  -- where the value is said as it is
  pub read_plain : (of : List ℕ → Option A → Type 0) → ((o : Option A) → of (take w s) o → o ≡ form_of (whole k) (take w s))
      → (r : Option (A × ℕ)) → FixedLine of t at w r → said (ok_or r Malformed) ≡ next_of (whole k) t at
  read_plain of h r x = plain r ∙ read_says (λ a. a) of (λ o p. own o ∙ h o p) r x
    where
      own : (o : Option A) → option_map (λ a. a) o ≡ o
      own (Some a) = refl
      own None = refl

      plain : (r : Option (A × ℕ)) → said (ok_or r Malformed) ≡ said_as (with_index (λ a. a)) (ok_or r Malformed)
      plain (Some (a, j)) = refl
      plain None = refl

-- ---- the test, as the code makes it

module _ (t : List ℕ) (at n : ℕ) where
  pub ends_not : length t ≤ at + n → ends_after t at n ≡ false
  unfolding ends_after
  ends_not h = simp (le-ltb (at + n) (length t) h)

  -- what is left from index at on, cut behind n bytes
  module _ (left front rest : List ℕ) (e : left ≡ slice_range t at (length t)) (p : IsSplitAt left n front rest) where
    pub front_is : front ≡ take n (drop at t)
    front_is = p.1 ∙ ap (take n) (e ∙ rest_is t at)

    pub ends_by : starts_with eqb rest (10 ∷ []) ≡ ends_after t at n
    unfolding ends_after
    ends_by =
        starts_same rest (10 ∷ [])
        ∙ ap (λ (l : List ℕ). same (take 1 l) (10 ∷ [])) (p.2 ∙ ap (drop n) (e ∙ rest_is t at) ∙ drop-drop n at t)
        ∙ go (ltb (at + n) (length t)) refl
      where
        last : Bool
        last = eqb (get_or t (at + n) 0) 10

        one : (b : Bool) → b && true ≡ b
        one true = refl
        one false = refl

        go : (b : Bool) → ltb (at + n) (length t) ≡ b → same (take 1 (drop (at + n) t)) (10 ∷ []) ≡ b && last
        go true e = ap (λ (l : List ℕ). same (take 1 l) (10 ∷ [])) (drop-cons t (at + n) 0 (ltb-true (at + n) (length t) e)) ∙ one last
        go false e = ap (λ (l : List ℕ). same (take 1 l) (10 ∷ [])) (drop_of_length-le t (ltb-false (at + n) (length t) e))

-- ---- the three kinds

pub now_clean : Clean now_kind
now_clean =
    of_two (of_tag (ascii "now=") refl (of_digits 4))
    (of_two (of_tag space refl (of_digits 3)) (of_two (of_tag space refl (of_digits 2)) (of_digits 2)))

pub client_clean : Clean client_kind
client_clean = of_tag (ascii "client=") refl (of_digits 4)

pub sub_clean : Clean sub_kind
sub_clean = of_two (of_tag (ascii "sub=") refl (of_digits 6)) (of_two (of_tag space refl (of_digits 4)) (of_tag space refl (of_digits 2)))
