-- The words of the hits among the first records stand at the front, and e is the index after them.
use mathlib.Core.List.{[]}
use mathlib.Core.Path.{◌≡◌}
use lib.ListN.{length, get_or}
use Rattle.laws.specs.Lists.{table}
use Rattle.report.specs.Steps.{rec_of, found, hit_words, WroteHits}
use Rattle.report.proofs.write_hits.Given as goal

abbrev pub invariant-loop-first : goal.invariant-loop-first
invariant-loop-first l =
    (length l.out ≡ length l.initial.out) × WroteHits l.initial.out 0 (hit_words (found l.wanted.client l.wanted.class l.wanted.sent.now) (table l.first-index (λ i. rec_of (get_or l.records i [])))) l.out l.e
