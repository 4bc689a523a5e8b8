-- What the calls on lines promise.
use Rattle.std.specs.Prelude.{ℕ, ◌≡◌, List, Result}
use Rattle.refusals.specs.Refusals.{said}
use Rattle.refusals.specs.declared.Refusal.{Refusal}
use Rattle.input_lines.specs.Forms.{now_line, client_line, sub_line}
use Rattle.input_lines.specs.Next.{next_of, header_at}
use Rattle.input_lines.specs.Answers.{now_parts, sub_parts, header_parts, with_index, said_as}
use Rattle.clock.specs.declared.Clock.{Clock}
use Rattle.input_lines.specs.declared.HeaderLine.{HeaderLine}
use Rattle.input_lines.specs.declared.SubLine.{SubLine}

pub record NowLinePromise (input : List ℕ) (at : ℕ) (r : Result (Clock × ℕ) Refusal) : Type 0 where
  pub says : said_as (with_index now_parts) r ≡ next_of now_line input at

pub record ClientLinePromise (input : List ℕ) (at : ℕ) (r : Result (ℕ × ℕ) Refusal) : Type 0 where
  pub says : said r ≡ next_of client_line input at

pub record HeaderLinePromise (input : List ℕ) (at : ℕ) (r : Result (HeaderLine × ℕ) Refusal) : Type 0 where
  pub says : said_as header_parts r ≡ header_at input at

pub record SubLinePromise (input : List ℕ) (at : ℕ) (r : Result (SubLine × ℕ) Refusal) : Type 0 where
  pub says : said_as (with_index sub_parts) r ≡ next_of sub_line input at
