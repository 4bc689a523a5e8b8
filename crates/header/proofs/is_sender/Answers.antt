-- The library's test of all the bytes is the definition's.
use mathlib.Core.Path.{◌∙◌}
use Rattle.std.proofs.Common.{rules, tests}
use Rattle.std.proofs.lemmas.Iterator.{YieldsList-from_slice}
use Rattle.std.proofs.lemmas.Iterator.Search.{all_from_yields_List}
use Rattle.laws.proofs.Every.{every_is}
use Rattle.header.specs.Header.{is_sender_byte}
use Rattle.header.proofs.is_sender.Goals as goal

pub returns : goal.returns
returns c =
    let b = c.args.b.now in
    record { says = all_from_yields_List is_sender_byte _ _ _ c.all.ensures.ran (YieldsList-from_slice b cc) (λ x b q k. search (rules, tests)) ∙ every_is is_sender_byte b }
