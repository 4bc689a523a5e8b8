-- Each group of words is one call, and each number one word.
use lib.ListN.{get_or}
use Rattle.c_words.specs.Words.{fields_in}
use Rattle.c_words.proofs.fields_in.Goals as goal

pub returns : goal.returns
unfolding fields_in
returns c =
    let w = c.args.w.now in
    λ q. record {
      origin = c.bytes_at.ensures q;
      event = c.bytes_at-2.ensures q;
      places = c.places_in.ensures q;
      count = get_or w 6 0;
      duration = get_or w 7 0;
      day = get_or w 8 0;
      hour = get_or w 9 0;
      minute = get_or w 10 0;
      sender = c.bytes_at-3.ensures q;
    }
