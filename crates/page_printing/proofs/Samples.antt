-- The sample page of the paper, and a refusal.
use mathlib.Core.Path.{◌≡◌, refl}
use mathlib.Core.List.{[], ◌∷◌}
use mathlib.Core.Bool.{true}
use Rattle.laws.specs.Numbers.{size, size_by}
use Rattle.laws.specs.Text.{ascii}
use Rattle.clock.specs.declared.Phase.TheVariants.{Live}
use Rattle.clock.specs.declared.Times.{Times}
use Rattle.page_printing.specs.Page.{ended, hit_lines, page_lines, page_text, refused_text}

abbrev times : Times
times = record {
  issued = record { month = 6; day = 7; hour = 18; minute = 29 };
  until = record { month = 6; day = 7; hour = 18; minute = 59 };
  phase = Live;
}

pub sample_page : page_text 7 times (ascii "TOR") true 1 (39051 ∷ 1 ∷ 39069 ∷ 3 ∷ [])
    ≡ ascii "client=0007\nissued=06-07 18:29\nuntil=06-07 18:59\nevent=TOR\nlisted=yes\nclass=1\nstate=live\nhits=2\nhit=039051 01\nhit=039069 03\n"
unfolding page_text page_lines hit_lines ended size size_by
sample_page = refl

-- a last word without its second is no hit
pub odd_word : page_text 7 times (ascii "TOR") true 1 (39051 ∷ 1 ∷ 39069 ∷ 3 ∷ 5 ∷ []) ≡ page_text 7 times (ascii "TOR") true 1 (39051 ∷ 1 ∷ 39069 ∷ 3 ∷ [])
unfolding page_text page_lines hit_lines ended size size_by
odd_word = refl

pub sample_refusal : refused_text 23 ≡ ascii "refused=23\n"
unfolding refused_text ended size size_by
sample_refusal = refl
