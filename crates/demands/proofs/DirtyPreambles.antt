-- Paper 02 §8: the laws of stripping, one by one; the last is the vote's consequence, over what stands behind three preambles.
use mathlib.Core.Path.{◌≡◌, ap, ◌∙◌}
use mathlib.Core.Bool.{false}
use mathlib.Core.List.{List, ◌∷◌, ◌++◌}
use Prim.Native.Nat.{ℕ, ◌≤◌, ◌<◌}
use native.Mathlib.Omega.{arith}
use lib.ListN.{length, drop, get_or}
use Rattle.laws.specs.Order.{granted}
use Rattle.laws.specs.Space.{pasted}
use Rattle.burst.specs.Strip.{preamble, lead, stripped}
use Rattle.burst.specs.Meaning.{whole_run}
use Rattle.burst.specs.Sent.{OfBytes, Right, Two, Sent}
use Rattle.burst.specs.Vote.{voted_length}
use Rattle.burst.specs.Promise.{VotePromise, said_vote}
use Rattle.burst.specs.declared.VoteAnswer.{VoteAnswer}
use Rattle.burst.proofs.Stripped.{drops_lead, lead_is, lead_most}
use Rattle.burst.proofs.Preambles.{near, nine, z_off, drops_all, rest_kept, from_16, all_lead, only_preamble, as_01, as_01_only}
use Rattle.burst.proofs.NoChoice.{strip_says}
use Rattle.burst.proofs.Consequence.{consequence}
use Rattle.demands.specs.DirtyPreambles.{Carries, Before, DirtyPreambles}

same_part : (l : List ℕ) → whole_run l ≤ 16 → (whole_run l < 16 → preamble (get_or l (whole_run l) 0) ≡ false) → stripped l ≡ drop (whole_run l) l
unfolding stripped
same_part l h g = ap (λ (k : ℕ). drop k l) (as_01 l h g)

module _ (p rest : List ℕ) (w : Before p rest) where
  count : lead (p ++ rest) ≡ length p
  count = drops_all p rest w.preamble_bytes.each w.preamble_bytes.most w.ends

  kept : stripped (p ++ rest) ≡ rest
  kept = rest_kept p rest w.preamble_bytes.each w.preamble_bytes.most w.ends

module _ (h p q s x y z out : List ℕ) (r : VoteAnswer) (left : List ℕ) (u : Before p x) (v : Before q y) (w : Before s z) where
  gives : OfBytes h (p ++ x) (q ++ y) (s ++ z) → 1 ≤ length h → length h ≤ 252 → length h ≤ length out
      → length (p ++ x) ≤ 268 → length (q ++ y) ≤ 268 → length (s ++ z) ≤ 268 → voted_length x y z ≡ length h
      → ((i k : ℕ) → i < length h → k < 8 → Two (Right h i k x) (Right h i k y) (Right h i k z))
      → VotePromise (p ++ x) (q ++ y) (s ++ z) out r left
      → (said_vote r ≡ granted (length h)) × (left ≡ pasted out 0 h) × Carries r (length p) (length q) (length s)
  gives of some short room la lb lc middle right m =
      let a : stripped (p ++ x) ≡ x = kept p x u in
      let b : stripped (q ++ y) ≡ y = kept q y v in
      let c : stripped (s ++ z) ≡ z = kept s z w in
      let sent : Sent h (p ++ x) (q ++ y) (s ++ z) (length out) = record {
        some = some;
        short = short;
        holds = room;
        short_a = la;
        short_b = lb;
        short_c = lc;
        middle = rw (a, b, c) middle;
        right = λ i k l g. rw (a, b, c) (right i k l g);
      } in
      let k = consequence h (p ++ x) (q ++ y) (s ++ z) out of sent in (
        m.says ∙ k.0,
        m.space ∙ k.1,
        record { first = m.first ∙ count p x u; second = m.second ∙ count q y v; third = m.third ∙ count s z w },
      )

pub dirty_preambles : DirtyPreambles
dirty_preambles = record {
  near = near;
  nine = nine;
  drops = drops_lead;
  drops_only = lead_is;
  strip_says = λ burst part n p q. (rw q.says (lead_most burst.now), strip_says burst part n p q);
  carries = λ a b c out r left p. (
    record { first = p.first; second = p.second; third = p.third },
    rw p.first (lead_most a),
    rw p.second (lead_most b),
    rw p.third (lead_most c),
  );
  twenty_leave_four = λ rest. from_16 20 rest (omega arith);
  from_16 = from_16;
  only_ab = λ n. (all_lead n, only_preamble n);
  as_01 = same_part;
  as_01_only = as_01_only;
  dropped_whole = λ p rest w. (count p rest w, kept p rest w);
  after_16 = λ p rest w e. kept p rest (record { preamble_bytes = w; ends = λ l. absurd (omega arith) });
  text_kept = λ p text w. kept p (0x5A ∷ text) (record { preamble_bytes = w; ends = λ l. z_off });
  gives = gives;
}
