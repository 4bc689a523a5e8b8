-- Two answers that say the same are one; a refusal leaves the space as it was, and a granted vote writes the voted length and no more.
use mathlib.Core.Path.{◌≡◌, refl, sym, ap, ◌∙◌}
use mathlib.Core.Bool.{Bool, true, false}
use mathlib.Core.List.{List, ◌++◌}
use Prim.Native.Nat.{ℕ, ◌+◌, ◌-◌, ◌≤◌, min}
use native.Mathlib.Omega.{arith}
use borrow.Author.Tests.{eqb-false, ltb-false}
use lib.ListN.{length, take, drop, replicate}
use lib.Seq.{take_at, drop_at}
use denote.Ref.{Bor}
use denote.Slice.{slice_val}
use Rattle.laws.specs.Order.{Said, granted, is_refusal, Quiet, none, more}
use Rattle.laws.specs.Space.{pasted, leaves}
use Rattle.laws.proofs.Order.{refusal_leaves, granted_quiet, said_last}
use Rattle.laws.proofs.Tables.{length_table}
use Rattle.laws.proofs.Pasted.{pasted_length}
use Rattle.refusals.proofs.NoChoice.{said_one}
use Rattle.burst.specs.Strip.{lead, stripped}
use Rattle.burst.specs.Vote.{voted_length, clash_at, voted_text, too_long, vote_rows, vote_says, vote_leaves}
use Rattle.burst.specs.Promise.{LeadingPromise, StripPromise, said_vote, VotePromise}
use Rattle.burst.specs.declared.VoteAnswer.{VoteAnswer}
use Rattle.burst.proofs.Stripped.{stripped_rest}
use Rattle.burst.proofs.Preambles.{all_lead, only_preamble}

-- ---- leading

pub leading_no_choice : (burst : List ℕ) (r r' : ℕ) → LeadingPromise burst r → LeadingPromise burst r' → r ≡ r'
leading_no_choice burst r r' p q = p.says ∙ sym q.says

-- ---- strip: the same bytes at the same place, so the same slice to a program (its pointer and its length; `name` is the proof's own)

pub record SamePart (r r' : Bor (List ℕ)) : Type 0 where
  pub bytes : r.now ≡ r'.now
  pub place : r.ref_ptr ≡ r'.ref_ptr
  pub value : slice_val r.ref_ptr (length r.now) ≡ slice_val r'.ref_ptr (length r'.now)

pub strip_no_choice : (burst r r' : Bor (List ℕ)) → StripPromise burst r → StripPromise burst r' → SamePart r r'
strip_no_choice burst r r' p q =
    let b : r.now ≡ r'.now = p.holds ∙ sym q.holds in
    let e : r.ref_ptr ≡ r'.ref_ptr = λ i. ((p.block ∙ sym q.block) i, (p.start ∙ sym q.start) i) in
    record { bytes = b; place = e; value = λ i. slice_val (e i) (length (b i)) }

-- the part's length says how many bytes were dropped: what `leading` says
pub strip_says : (burst part : Bor (List ℕ)) (n : ℕ) → StripPromise burst part → LeadingPromise burst.now n
    → n + length part.now ≡ length burst.now
strip_says burst part n p q = rw (q.says, p.holds) (stripped_rest burst.now)

-- a burst of n AB bytes only: what is left after the first 16, or after all
pub strip_only_preamble : (n : ℕ) (burst part : Bor (List ℕ)) → burst.now ≡ replicate n 0xAB → StripPromise burst part
    → (part.now ≡ replicate (n - min n 16) 0xAB) × (part.ref_ptr.1 ≡ burst.ref_ptr.1 + min n 16)
strip_only_preamble n burst part e p =
    let l : lead burst.now ≡ min n 16 = ap lead e ∙ all_lead n in
    (p.holds ∙ ap stripped e ∙ only_preamble n, p.start ∙ ap (λ (k : ℕ). burst.ref_ptr.1 + k) l)

-- ---- vote

pub vote_no_choice : (a b c out : List ℕ) (r r' : VoteAnswer) (left left' : List ℕ) → VotePromise a b c out r left → VotePromise a b c out r' left'
    → (r ≡ r') × (left ≡ left')
vote_no_choice a b c out r r' left left' p q =
    let v : r.voted ≡ r'.voted = said_one r.voted r'.voted (p.says ∙ sym q.says) in
    let x : r.first ≡ r'.first = p.first ∙ sym q.first in
    let y : r.second ≡ r'.second = p.second ∙ sym q.second in
    let z : r.third ≡ r'.third = p.third ∙ sym q.third in
    (λ i. record { voted = v i; first = x i; second = y i; third = z i }, p.space ∙ sym q.space)

pub vote_refusal_writes_nothing : (a b c out : List ℕ) (r : VoteAnswer) (left : List ℕ) → VotePromise a b c out r left → is_refusal (said_vote r) ≡ true → left ≡ out
unfolding vote_leaves
vote_refusal_writes_nothing a b c out r left p h =
    p.space ∙ refusal_leaves _ (vote_says a b c (length out)) out (ap is_refusal (sym p.says) ∙ h)

-- what holds of a vote that is granted
pub record Granted (a b c : List ℕ) (room n : ℕ) : Type 0 where
  pub fits_each : too_long a b c ≡ false
  pub voted : n ≡ voted_length (stripped a) (stripped b) (stripped c)
  pub some : 1 ≤ n
  pub short : n ≤ 252
  pub holds : n ≤ room
  pub agrees : n ≤ clash_at (stripped a) (stripped b) (stripped c) n

quiet : (long : Bool) (n k room : ℕ) → Quiet (vote_rows long n k room) → (long ≡ false) × (1 ≤ n) × (n ≤ 252) × (n ≤ room) × (n ≤ k)
quiet long n k room (more e (more f (more g (more h (more i none))))) =
    let z = eqb-false n 0 f in
    (e, omega arith, ltb-false 252 n g, ltb-false room n h, ltb-false k n i)

pub vote_granted : (a b c : List ℕ) (room n : ℕ) → vote_says a b c room ≡ granted n → Granted a b c room n
unfolding vote_says
vote_granted a b c room n e =
    let v = voted_length (stripped a) (stripped b) (stripped c) in
    let k = clash_at (stripped a) (stripped b) (stripped c) v in
    let rows = vote_rows (too_long a b c) v k room in
    let q = granted_quiet rows v n (refl, (refl, (refl, (refl, (refl, tt))))) e in
    let l : granted n ≡ granted v = sym e ∙ said_last rows (granted v) q in
    let same : n ≡ v = cc in
    let w = quiet (too_long a b c) v k room q in
    record {
      fits_each = w.0;
      voted = same;
      some = omega arith;
      short = omega arith;
      holds = omega arith;
      agrees = rw same w.4;
    }

-- the first n bytes are the voted text's, and the others are as found
pub record Writes (a b c out : List ℕ) (n : ℕ) (left : List ℕ) : Type 0 where
  pub voted : n ≡ voted_length (stripped a) (stripped b) (stripped c)
  pub front : take n left ≡ voted_text (stripped a) (stripped b) (stripped c) n
  pub rest : drop n left ≡ drop n out
  pub size : length left ≡ length out

pub vote_writes_the_voted_length : (a b c out : List ℕ) (r : VoteAnswer) (left : List ℕ) (n : ℕ) → VotePromise a b c out r left → said_vote r ≡ granted n
    → Writes a b c out n left
unfolding vote_leaves pasted
vote_writes_the_voted_length a b c out r left n p e =
    let g : vote_says a b c (length out) ≡ granted n = sym p.says ∙ e in
    let w = vote_granted a b c (length out) n g in
    let t : List ℕ = voted_text (stripped a) (stripped b) (stripped c) n in
    let l : length t ≡ n = length_table n _ in
    let s : left ≡ pasted out 0 t = p.space ∙ ap (λ (v : Said ℕ). leaves (λ m d. pasted d 0 (voted_text (stripped a) (stripped b) (stripped c) m)) v out) g in
    let z : 0 + length t ≡ n = omega arith in
    let f : left ≡ t ++ drop n out = s ∙ ap (λ (m : ℕ). t ++ drop m out) z in
    record {
      voted = w.voted;
      front = ap (take n) f ∙ take_at t (drop n out) n l;
      rest = ap (drop n) f ∙ drop_at t (drop n out) n l;
      size = ap length s ∙ pasted_length out 0 t (omega (arith, w.holds));
    }
