-- What a turn's read brought stands behind what was read before, and both are gone from the input. The read that ends the loop leaves what stands before it.
use Rattle.std.proofs.Common.{rules, ◌≡◌, ◌+◌, ◌-◌, ◌≤◌, ◌++◌, ℕ, List, length, take, Bool, true, false, Ok, Err, ControlFlow, Continue, Break, subst, sym, ap, ◌∙◌, length-take-le}
use Rattle.std.proofs.lemmas.List.{take-append-le}
use Rattle.std.proofs.Math.Seq.{take-append-add}
use Rattle.std.specs.Prelude.{Result, eqb}
use Rattle.std.specs.Io.KnownBytes.{Consumes, ReadConsumes}
use Rattle.std.specs.Io.{ReadsAtMost}
use Rattle.std.specs.declared.io.Error.{Error}
use Rattle.laws.specs.Order.{choose}
use Rattle.laws.proofs.Pasted.{pasted_mid}
use Rattle.reading.specs.Reading.{after_read}
use Rattle.reading.proofs.Consumed.{consumes_none, consumes_two, holds_full, last_read}
use Rattle.reading.proofs.Turns.{SoFar, Done, none_so_far, one_more, all_full, the_last}
use Rattle.reading.proofs.read_input.Goals as goal
use borrow.Rule.Slice.PartMut.{put_mid}
use lib.Seq.{take_at}
use mathlib.Core.Path.{refl}

-- the front of a space behind whose first n bytes a read put more
joined : (n k j : ℕ) (sp buf : List ℕ) → n ≤ length sp → k ≤ length buf → take (n + k) (put_mid n j sp buf) ≡ take n sp ++ take k buf
joined n k j sp buf h l =
    let e : length (take n sp) ≡ n = length-take-le n sp h in
    subst (λ (m : ℕ). take (m + k) (put_mid n j sp buf) ≡ take n sp ++ take k buf) e
    (take-append-add (take n sp) _ k ∙ ap (λ (t : List ℕ). take n sp ++ t) (take-append-le k buf _ l))

-- what a read answered, where it brought more
brought : {E : Type 0} (n k : ℕ) (r : Result ℕ E) → Continue k ≡ after_read n r → r ≡ Ok k
brought {E} n k (Ok j) e = go (eqb j 0) e
  where
    go : (b : Bool) → ◌≡◌ {A = ControlFlow (Result ℕ E) ℕ} (Continue k) (choose b (Break (Ok n)) (Continue j)) → ◌≡◌ {A = Result ℕ E} (Ok j) (Ok k)
    go true e = cc
    go false e = cc
brought n k (Err x) e = cc

pub loop-n-init : goal.loop-n-init
loop-n-init g c = record {
  inside = search rules;
  read = consumes_none (g.R.Read.remaining c.args.input.now);
  turns = none_so_far c.args.space.now;
}

pub loop-n-preserved : goal.loop-n-preserved
loop-n-preserved g c =
    let n = c.loop-n.n in
    let k = c.in-Continue.k in
    let more = sym c.in-Continue.is ∙ c.took.ensures in
    let got = brought n k c.read.result more in
    let bound = subst (λ r. ReadsAtMost r c.read.new.buf) got c.read.ensures.bound in
    let bytes = subst (λ r. ReadConsumes (g.R.Read.remaining c.loop-n.input) (g.R.Read.remaining c.read.new.self) r c.read.new.buf) got c.read.ensures.bytes in
    record {
      inside = search rules;
      read = subst (Consumes (g.R.Read.remaining c.args.input.now) (g.R.Read.remaining c.read.new.self))
          (sym (joined n k (length c.loop-n.space - n) c.loop-n.space c.read.new.buf c.loop-n.invariant.inside bound.0))
          (consumes_two _ _ _ _ _ c.loop-n.invariant.read bytes.0);
      turns = subst (λ s. SoFar Error c.args.space.now s (n + k))
          (sym (pasted_mid c.loop-n.space n (length c.loop-n.space - n) c.read.new.buf c.read.new.buf (search rules) refl))
          (one_more c.args.space.now c.loop-n.space c.read.new.buf n k c.read.result c.loop-n.invariant.turns more);
    }

pub returns-in-Break : goal.returns-in-Break
returns-in-Break g c =
    let n = c.loop-n.n in
    let space = c.loop-n.space in
    let left : List ℕ = put_mid n (length space - n) space c.read.new.buf in
    let ends = sym c.in-Break.is ∙ c.took.ensures in
    let done = subst (λ s. Done c.args.space.now c.in-Break.answer s)
    (sym (pasted_mid space n (length space - n) c.read.new.buf c.read.new.buf (search rules) refl))
    (the_last c.args.space.now space c.read.new.buf n c.read.result c.in-Break.answer c.loop-n.invariant.turns ends) in
    let front : take n left ≡ take n space = take_at (take n space) _ n (length-take-le n space c.loop-n.invariant.inside) in
    let last = last_read (g.R.Read.remaining c.args.input.now) (g.R.Read.remaining c.loop-n.input) (g.R.Read.remaining c.read.new.self) n left
    c.read.new.buf c.read.result c.in-Break.answer (search rules) (search rules)
    (subst (Consumes (g.R.Read.remaining c.args.input.now) (g.R.Read.remaining c.loop-n.input)) (sym front) c.loop-n.invariant.read)
    c.read.ensures.bytes ends in
    record { reads = done.reads; says = done.says; kept = search rules; within = last.within; holds = last.holds; gone = last.gone }

pub returns : goal.returns
returns g c =
    let done = all_full c.args.space.now c.loop-n.space c.loop-n.n c.loop-n.invariant.turns in
    record {
      reads = done.reads;
      says = done.says;
      kept = search rules;
      within = search rules;
      holds = holds_full (g.R.Read.remaining c.args.input.now) (g.R.Read.remaining c.loop-n.input) c.loop-n.n c.loop-n.space (search rules) c.loop-n.invariant.read;
      gone = c.loop-n.invariant.read;
    }
