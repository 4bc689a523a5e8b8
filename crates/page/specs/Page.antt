-- Paper 01, "The report program": the page of an input; any refusal prints only `refused=N`.
use Rattle.std.specs.Prelude.{ℕ, List}
use Rattle.laws.specs.Order.{Said, granted, refused, refused_at}
use Rattle.report.specs.Hits.{pairs}
use Rattle.page_printing.specs.Page.{page_text, refused_text}
use Rattle.page.specs.Input.{Shown, input_says}

abbrev pub shown_text : Shown → List ℕ
shown_text (client, g) = page_text client g.summary.times g.summary.event g.summary.listed g.summary.class (pairs g.hits)

abbrev pub printed : Said Shown → List ℕ
printed (granted shown) = shown_text shown
printed (refused n) = refused_text n
printed (refused_at n i) = refused_text n

unfoldable pub page_of : List ℕ → List ℕ
page_of input = printed (input_says input)
