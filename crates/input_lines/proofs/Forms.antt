-- A line of fixed form has it exactly where its length, each word and each run of digits are right: so the first wrong one refuses it.
use Prim.Native.Nat.{ℕ}
use mathlib.Core.Path.{◌≡◌, sym, ap, ◌∙◌}
use mathlib.Core.List.{List}
use mathlib.Core.Bool.{true, false, ◌&&◌, and-false}
use native.Mathlib.Omega.{arith}
use lib.ListN.{length, take, drop, length-drop}
use lib.Seq.{drop-drop, take_all}
use borrow.Author.Tests.{eq-eqb}
use Rattle.std.specs.Prelude.{Option, Some, None}
use Rattle.laws.specs.Order.{choose}
use Rattle.laws.specs.Lists.{every}
use Rattle.laws.specs.Numbers.{digit, decimal}
use Rattle.laws.specs.Text.{ascii}
use Rattle.codec.specs.Kind.{digits, tag}
use Rattle.codec.specs.Promise.{number_at}
use Rattle.codec.proofs.Numbers.{number_is, number_none}
use Rattle.input_lines.specs.Lines.{LineForm}
use Rattle.input_lines.specs.Forms.{space, now_line, client_line, sub_line}
use Rattle.input_lines.specs.Steps.{tagged_of, form_of}
use Rattle.input_lines.proofs.Tags.{tag_is, tag_none}

form_no : {A : Type 0} (f : LineForm A) (l : List ℕ) → f.allowed l ≡ false → None ≡ form_of f l
unfolding form_of
form_no f l h = simp h

-- ---- `now=2024 159 1840`
module _ (l : List ℕ) (n : length l ≡ 17) where
  now_last : drop 3 (drop 4 (drop 8 l)) ≡ take 2 (drop 15 l)
  now_last = ap (drop 3) (drop-drop 4 8 l) ∙ drop-drop 3 12 l ∙ sym (take_all 2 (drop 15 l) (omega (arith, length-drop 15 l)))

  now_parts : now_line.allowed l
      ≡ (tag (ascii "now=") (digits 4)).allowed (take 8 l)
      && ((tag space (digits 3)).allowed (take 4 (drop 8 l))
      && ((tag space (digits 2)).allowed (take 3 (drop 12 l)) && every digit (take 2 (drop 15 l))))
  unfolding now_line
  now_parts = λ q.
      eq-eqb (length l) 17 n q
      && ((tag (ascii "now=") (digits 4)).allowed (take 8 l)
      && ((tag space (digits 3)).allowed (take 4 (drop 8 l))
      && ((tag space (digits 2)).allowed (take 3 (drop-drop 4 8 l q)) && every digit (now_last q))))

  pub now_1 : tagged_of (ascii "now=") 4 l 0 ≡ None → None ≡ form_of now_line l
  now_1 e = form_no now_line l (now_parts ∙ simp (tag_none (ascii "now=") 4 l 0 (omega arith) (omega arith) e))

  pub now_2 : tagged_of space 3 l 8 ≡ None → None ≡ form_of now_line l
  now_2 e = form_no now_line l (now_parts ∙ simp (tag_none space 3 l 8 (omega arith) (omega arith) e, and-false))

  pub now_3 : tagged_of space 2 l 12 ≡ None → None ≡ form_of now_line l
  now_3 e = form_no now_line l (now_parts ∙ simp (tag_none space 2 l 12 (omega arith) (omega arith) e, and-false))

  pub now_4 : number_at l 15 2 ≡ None → None ≡ form_of now_line l
  now_4 e = form_no now_line l (now_parts ∙ simp (number_none l 15 2 (omega arith) (omega arith) e, and-false))

  pub now_5 : (y d h m : ℕ) → tagged_of (ascii "now=") 4 l 0 ≡ Some y → tagged_of space 3 l 8 ≡ Some d
      → tagged_of space 2 l 12 ≡ Some h → number_at l 15 2 ≡ Some m
      → ◌≡◌ {A = Option (ℕ × (ℕ × (ℕ × ℕ)))} (Some (y, (d, (h, m)))) (form_of now_line l)
  unfolding form_of now_line
  now_5 y d h m ey ed eh em =
      let ty = tag_is (ascii "now=") 4 l 0 y ey in
      let td = tag_is space 3 l 8 d ed in
      let th = tag_is space 2 l 12 h eh in
      let tm = number_is l 15 2 m em in
      let a : now_line.allowed l ≡ true = now_parts ∙ simp (ty.0, td.0, th.0, tm.0) in
      let vh : decimal (drop 1 (take 3 (drop 4 (drop 8 l)))) ≡ h = ap (λ (b : List ℕ). decimal (drop 1 (take 3 b))) (drop-drop 4 8 l) ∙ th.1 in
      let vm : decimal (drop 3 (drop 4 (drop 8 l))) ≡ m = ap decimal now_last ∙ tm.1 in
      sym (λ q. choose (a q) (Some (ty.1 q, (td.1 q, (vh q, vm q)))) None)

-- ---- `client=0007`
module _ (l : List ℕ) (n : length l ≡ 11) where
  client_parts : client_line.allowed l ≡ (tag (ascii "client=") (digits 4)).allowed (take 11 l)
  unfolding client_line
  client_parts = λ q. eq-eqb (length l) 11 n q && (tag (ascii "client=") (digits 4)).allowed (sym (take_all 11 l (omega arith)) q)

  client_1 : tagged_of (ascii "client=") 4 l 0 ≡ None → None ≡ form_of client_line l
  client_1 e = form_no client_line l (client_parts ∙ tag_none (ascii "client=") 4 l 0 (omega arith) (omega arith) e)

  client_2 : (c : ℕ) → tagged_of (ascii "client=") 4 l 0 ≡ Some c → Some c ≡ form_of client_line l
  unfolding form_of client_line
  client_2 c e =
      let t = tag_is (ascii "client=") 4 l 0 c e in
      let a : client_line.allowed l ≡ true = client_parts ∙ t.0 in
      let v : decimal (drop 7 l) ≡ c = ap (λ (b : List ℕ). decimal (drop 7 b)) (sym (take_all 11 l (omega arith))) ∙ t.1 in
      sym (λ q. choose (a q) (Some (v q)) None)

  pub client_is : (o : Option ℕ) → tagged_of (ascii "client=") 4 l 0 ≡ o → o ≡ form_of client_line l
  client_is None e = client_1 e
  client_is (Some c) e = client_2 c e

-- ---- `sub=039051 0007 01`
module _ (l : List ℕ) (n : length l ≡ 18) where
  sub_last : drop 5 (drop 10 l) ≡ take 3 (drop 15 l)
  sub_last = drop-drop 5 10 l ∙ sym (take_all 3 (drop 15 l) (omega (arith, length-drop 15 l)))

  sub_parts : sub_line.allowed l
      ≡ (tag (ascii "sub=") (digits 6)).allowed (take 10 l)
      && ((tag space (digits 4)).allowed (take 5 (drop 10 l)) && (tag space (digits 2)).allowed (take 3 (drop 15 l)))
  unfolding sub_line
  sub_parts = λ q.
      eq-eqb (length l) 18 n q
      && ((tag (ascii "sub=") (digits 6)).allowed (take 10 l)
      && ((tag space (digits 4)).allowed (take 5 (drop 10 l)) && (tag space (digits 2)).allowed (sub_last q)))

  pub sub_1 : tagged_of (ascii "sub=") 6 l 0 ≡ None → None ≡ form_of sub_line l
  sub_1 e = form_no sub_line l (sub_parts ∙ simp (tag_none (ascii "sub=") 6 l 0 (omega arith) (omega arith) e))

  pub sub_2 : tagged_of space 4 l 10 ≡ None → None ≡ form_of sub_line l
  sub_2 e = form_no sub_line l (sub_parts ∙ simp (tag_none space 4 l 10 (omega arith) (omega arith) e, and-false))

  pub sub_3 : tagged_of space 2 l 15 ≡ None → None ≡ form_of sub_line l
  sub_3 e = form_no sub_line l (sub_parts ∙ simp (tag_none space 2 l 15 (omega arith) (omega arith) e, and-false))

  pub sub_4 : (p c v : ℕ) → tagged_of (ascii "sub=") 6 l 0 ≡ Some p → tagged_of space 4 l 10 ≡ Some c → tagged_of space 2 l 15 ≡ Some v
      → ◌≡◌ {A = Option (ℕ × (ℕ × ℕ))} (Some (p, (c, v))) (form_of sub_line l)
  unfolding form_of sub_line
  sub_4 p c v ep ec ev =
      let tp = tag_is (ascii "sub=") 6 l 0 p ep in
      let tc = tag_is space 4 l 10 c ec in
      let tv = tag_is space 2 l 15 v ev in
      let a : sub_line.allowed l ≡ true = sub_parts ∙ simp (tp.0, tc.0, tv.0) in
      let vv : decimal (drop 1 (drop 5 (drop 10 l))) ≡ v = ap (λ (b : List ℕ). decimal (drop 1 b)) sub_last ∙ tv.1 in
      sym (λ q. choose (a q) (Some (tp.1 q, (tc.1 q, vv q))) None)
