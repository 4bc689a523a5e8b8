-- What the calls promise.
use Rattle.std.specs.Prelude.{ℕ, ◌+◌, List, ◌≡◌, length}
use Rattle.std.specs.Borrow.{Bor}
use Rattle.laws.specs.Order.{Said}
use Rattle.refusals.specs.Refusals.{said}
use Rattle.burst.specs.Strip.{lead, stripped}
use Rattle.burst.specs.Vote.{vote_says, vote_leaves}
use Rattle.burst.specs.declared.VoteAnswer.{VoteAnswer}

-- how many bytes the stripping drops
pub record LeadingPromise (burst : List ℕ) (r : ℕ) : Type 0 where
  pub says : r ≡ lead burst

-- the part handed back: what it holds; the block that it lies in, which is the burst's own, so that nothing is copied; and
-- where it starts there, as many places on from the burst's start as bytes are dropped (a byte takes one place of its block)
pub record StripPromise (burst part : Bor (List ℕ)) : Type 0 where
  pub holds : part.now ≡ stripped burst.now
  pub block : part.ref_ptr.0 ≡ burst.ref_ptr.0
  pub start : part.ref_ptr.1 ≡ burst.ref_ptr.1 + lead burst.now

-- what the vote settled, in the paper's numbers
abbrev pub said_vote : VoteAnswer → Said ℕ
said_vote r = said r.voted

-- the answer, with how many bytes were dropped of each burst, granted or refused; and the space lent
pub record VotePromise (a b c out : List ℕ) (r : VoteAnswer) (left : List ℕ) : Type 0 where
  pub says : said_vote r ≡ vote_says a b c (length out)
  pub first : r.first ≡ lead a
  pub second : r.second ≡ lead b
  pub third : r.third ≡ lead c
  pub space : left ≡ vote_leaves a b c out
