-- Whether the words are in range decides between none and the rank, which is taken from the first word and the client of the second.
use Rattle.std.proofs.Common.{ℕ, ◌+◌, ◌*◌, Some}
use mathlib.Core.Path.{sym, ◌∙◌, ap}
use Rattle.book_records.proofs.Second.{rank_out, rank_in}
use Rattle.book_records.proofs.rank_or_none.Goals as goal

pub returns-then-not-ok_rec : goal.returns-then-not-ok_rec
returns-then-not-ok_rec c = record { says = sym (rank_out _ (sym c.ok_rec.ensures ∙ c.if-not-ok_rec.true)) }

pub returns : goal.returns
returns c =
    record {
      says =
          ap Some (c.rank_of.ensures.says ∙ ap (λ (m : ℕ). c.args.first * 10000 + m) c.client_of.ensures.says)
          ∙ sym (rank_in _ (sym c.ok_rec.ensures ∙ c.if-not-ok_rec.false));
    }
