-- Demand 2: each line is the theorem of the crate that holds the definition.
use mathlib.Core.Path.{◌≡◌, refl, ap, ◌∙◌}
use mathlib.Core.Bool.{not}
use mathlib.Core.List.{List, [], ◌∷◌, ◌++◌}
use Prim.Native.Nat.{ℕ}
use lib.ListN.{length}
use lib.Dec.{eqb, ltb}
use borrow.Author.Tests.{eq-eqb}
use Rattle.laws.specs.Order.{none, more}
use Rattle.laws.specs.Lists.{every}
use Rattle.laws.specs.Numbers.{within, dig}
use Rattle.laws.proofs.Tests.{and_i, within_i}
use Rattle.codec.specs.Codec.{text_list}
use Rattle.burst.proofs.NoChoice.{vote_writes_the_voted_length}
use Rattle.burst.proofs.Consequence.{consequence}
use Rattle.header.specs.Header.{Alert, is_origin, is_event, is_sender, is_duration, dash, plus, place, front, header, text_of, WellFormed}
use Rattle.header.proofs.Allowed.{issue_ok}
use Rattle.header.proofs.Round.{text_length, read_form, reads_exactly}
use Rattle.header.proofs.Exact.{write_read, write_read_same, read_write}
use Rattle.header.proofs.Callers.{allowed, duration_bounds}
use Rattle.event.specs.Events.{is_listed}
use Rattle.event.specs.Class.{class_of}
use Rattle.event.proofs.Facts.{sixty_one, no_double_code, class_low}
use Rattle.place.proofs.Matching.{matches_says, matches_from, some_none, some_more}
use Rattle.clock.specs.Lifetime.{moment_of, issue_of, lifetime_of, times_of}
use Rattle.clock.proofs.Asking.{fit}
use Rattle.clock.proofs.Phases.{phase_holds, one_phase}
use Rattle.clock.proofs.Until.{until_moment, issue_exists, until_exists, one_time}
use Rattle.clock.proofs.Dates.{by_months}
use Rattle.report.specs.Hits.{has_class, matching}
use Rattle.demands.specs.Demand2.{Allowed, spelled_places, whole_text, ReadingAndWriting, Events, Matching, Lifetimes, Voting, Demand2}
use Rattle.demands.proofs.Rows.{by_rows}

form : (a : Alert) → WellFormed a → Allowed a
form a w =
    let f = allowed a w in
    let d = duration_bounds a.minutes f.minutes in
    record {
      origin = f.origin;
      event = f.event;
      places = (f.some, f.most, f.codes);
      duration = (f.minutes, d.0, d.1);
      issue = f.issue;
      sender = f.sender;
    }

back : (a : Alert) → Allowed a → WellFormed a
unfolding WellFormed header front is_duration
back a f =
    more refl
    (more (ap not (and_i (eqb (length a.origin) 3) (is_origin a.origin) (eq-eqb (length a.origin) 3 f.origin.0) f.origin.1))
    (more (ap not (and_i (eqb (length a.event) 3) (is_event a.event) (eq-eqb (length a.event) 3 f.event.0) f.event.1))
    (more (ap not (and_i (within 1 31 (length a.places)) (every (λ p. ltb p 1000000) a.places)
    (within_i 1 31 (length a.places) f.places.0 f.places.1) f.places.2))
    (more (ap not f.duration.0)
    (more (ap not (issue_ok a.day a.hour a.minute ∙ f.issue))
    (more (ap not (and_i (eqb (length a.sender) 8) (is_sender a.sender) (eq-eqb (length a.sender) 8 f.sender.0) f.sender.1)) none))))))

same_places : (ps : List ℕ) → text_list place dash plus ps ≡ spelled_places ps
same_places [] = refl
same_places (p ∷ []) = refl
same_places (p ∷ (q ∷ ps)) = ap (λ (t : List ℕ). dig 6 p ++ (45 ∷ t)) (same_places (q ∷ ps))

written : (a : Alert) → text_of a ≡ whole_text a
unfolding text_of header front
written a = rw (← same_places a.places)

pub reading_and_writing : ReadingAndWriting
reading_and_writing = record {
  reads_exactly = reads_exactly;
  nothing_left = λ text a e. (read_form text a e).2;
  form = λ a. (form a, back a);
  text = written;
  text_length = text_length;
  write_read = λ f out left w n r p s q. write_read p s q;
  write_read_same = λ f out left w n r p s q. write_read_same p s q;
  read_write = λ text r a out left w p s q. read_write p s q;
}

pub events : Events
unfolding is_listed class_of
events = record {
  sixty_one = sixty_one;
  no_double_code = no_double_code;
  listed = λ e. refl;
  class = λ e. by_rows _ _;
  class_low = class_low;
}

pub places : Matching
unfolding matching has_class
places = record {
  says = matches_says;
  from = matches_from;
  none = some_none;
  more = some_more;
  subscription = λ class places x. refl;
  nobody = λ wish. refl;
}

pub lifetimes : Lifetimes
unfolding lifetime_of times_of
lifetimes = record {
  phase_holds = λ at day hour minute duration. phase_holds (moment_of (issue_of at day hour minute)) duration (moment_of at);
  one_phase = one_phase;
  until_moment = until_moment;
  issue_exists = λ at day hour minute duration e. issue_exists at day hour minute duration (fit at day hour minute duration e);
  until_exists = λ at day hour minute duration e. until_exists at day hour minute duration (fit at day hour minute duration e);
  one_time = one_time;
  told = λ at day hour minute duration. refl;
  date = by_months;
}

pub voting : Voting
voting = record {
  writes = λ a b c out r left n p e. let w = vote_writes_the_voted_length a b c out r left n p e in (w.voted, w.front, w.rest);
  consequence = λ h a b c out r left of s p. let k = consequence h a b c out of s in (p.says ∙ k.0, p.space ∙ k.1);
}

pub demand2 : Demand2
demand2 = record {
  reading_and_writing = reading_and_writing;
  events = events;
  matching = places;
  lifetimes = lifetimes;
  voting = voting;
}
