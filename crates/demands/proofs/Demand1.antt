-- Demand 1: each line is the theorem of the call's own crate; the numbers go by the rows of the definitions.
use mathlib.Core.Path.{◌≡◌, refl, sym, ◌∙◌}
use mathlib.Core.Bool.{Bool, true, ◌&&◌, not}
use mathlib.Core.List.{List, [], ◌∷◌, ◌++◌}
use Prim.Native.Nat.{ℕ}
use lib.ListN.{length}
use lib.Dec.{eqb, ltb}
use Rattle.laws.specs.Order.{granted, refused, refused_at, ◌when◌, passes}
use Rattle.laws.proofs.Order.{passes_rows, passes_next}
use Rattle.laws.specs.Lists.{every}
use Rattle.laws.specs.Numbers.{within}
use Rattle.codec.proofs.NoChoice.{between_no_choice, same_no_choice, digits_at_no_choice, put_no_choice, put_refusal_writes_nothing}
use Rattle.codec.specs.Promise.{put_says}
use Rattle.reading.proofs.NoChoice.{read_input_no_choice}
use Rattle.burst.specs.Vote.{vote_says}
use Rattle.burst.proofs.NoChoice.{leading_no_choice, strip_no_choice, vote_no_choice, vote_refusal_writes_nothing}
use Rattle.header.specs.Header.{Alert, is_origin, is_event, is_issue, is_sender, is_duration, issue, front, header, text_of}
use Rattle.header.specs.Writing.{write_says}
use Rattle.header.proofs.Allowed.{issue_ok}
use Rattle.header.proofs.NoChoice.{read_no_choice, write_no_choice, read_refusal_writes_nothing, write_refusal_writes_nothing}
use Rattle.header.proofs.NoChoice.{is_issue_no_choice, is_duration_no_choice, is_duration_of_no_choice}
use Rattle.header.proofs.NoChoice.{is_origin_no_choice, is_event_no_choice, is_sender_no_choice}
use Rattle.header_fields.proofs.NoChoice.{stands_no_choice, place_at_no_choice, minutes_at_no_choice, issue_at_no_choice}
use Rattle.header.proofs.Stopping.{read_stops, stops_read, table_stops, stops_table}
use Rattle.event.proofs.NoChoice.{is_listed_no_choice, class_of_no_choice, listed_class_no_choice}
use Rattle.place.proofs.NoChoice.{matches_no_choice, matches_some_no_choice, first_word_no_choice, place_of_no_choice, bad_place_no_choice}
use Rattle.place.proofs.NoChoice.{pack_no_choice, pack_places_no_choice, packed_match_some_no_choice}
use Rattle.clock.specs.Lifetime.{lifetime_of, times_of}
use Rattle.clock.specs.Answers.{clock_says, date_says, asked, lifetime_says, times_says}
use Rattle.clock.proofs.NoChoice.{check_no_choice, date_of_no_choice, lifetime_no_choice, times_of_no_choice}
use Rattle.book_rules.specs.Edits.{add_says, added, remove_says}
use Rattle.book_rules.specs.Form.{form}
use Rattle.book_rules.specs.Rules.{empty}
use Rattle.book_rules.specs.Afresh.{subs}
use Rattle.book_rules.specs.Subscription.{Sub}
use Rattle.book_rules.specs.Load.{items, add_all, load_says}
use Rattle.header.specs.Reading.{read_says}
use Rattle.report.specs.Hits.{hits_of}
use Rattle.book_records.proofs.NoChoice.{bad_client_no_choice, bad_wish_no_choice, client_of_no_choice, wish_of_no_choice}
use Rattle.book_records.proofs.NoChoice.{mark_or_none_no_choice, rank_of_no_choice, rank_or_none_no_choice}
use Rattle.book_check.proofs.NoChoice.{is_good_no_choice}
use Rattle.book_shifts.proofs.NoChoice.{open_no_choice, close_no_choice}
use Rattle.sorting.proofs.NoChoice.{sort_no_choice}
use Rattle.book_edits.proofs.NoChoice.{
  add_no_choice,
  remove_no_choice,
  load_no_choice,
  add_refusal_writes_nothing,
  remove_refusal_writes_nothing,
  load_refusal_writes_nothing,
}
use Rattle.clock.specs.declared.Clock.{Clock}
use Rattle.report.specs.Report.{times_rows, room_rows, alert_says, list_says, report_says}
use Rattle.report.proofs.NoChoice.{report_no_choice, report_refusal_writes_nothing}
use Rattle.input_lines.proofs.NoChoice.{now_line_no_choice, client_line_no_choice, header_line_no_choice, sub_line_no_choice}
use Rattle.page_lines.proofs.NoChoice.{size_of_no_choice}
use Rattle.refusals.specs.Refusals.{says}
use Rattle.refusals.proofs.NoChoice.{number_no_choice, index_no_choice}
use Rattle.c_answers.proofs.NoChoice.{cap_no_choice, answer_no_choice, halves_no_choice, told_no_choice, voted_no_choice, edited_no_choice, printed_no_choice, wrote_no_choice, yes_no_choice}
use Rattle.page_printing.specs.Promise.{print_says}
use Rattle.page_printing.proofs.NoChoice.{print_no_choice, print_refusal_writes_nothing}
use Rattle.page.proofs.NoChoice.{page_no_choice, page_refusal_writes_nothing}
use Rattle.demands.specs.Forms.{GoesBy, is_number, numbered}
use Rattle.demands.specs.Demand1.{EveryCall, EveryRefusal, EveryNumber, EveryNumbered, Demand1}
use Rattle.demands.proofs.Rows.{by_rows}
use Rattle.demands.proofs.Numbered.{is_low, passes_by, low_read, low_numbered, numbered_by}
use Rattle.demands.proofs.Program.{program_numbers}
use Rattle.demands.proofs.Outside.{outside_call, outside_refusal, outside_number}

pub every_call : EveryCall
every_call = record {
  leading = leading_no_choice;
  strip = λ burst r q a b. let s = strip_no_choice burst r q a b in (s.bytes, s.place);
  vote = vote_no_choice;
  read = λ text r q a b. read_no_choice a b;
  write = λ f out r q left rest a b. write_no_choice a b;
  is_issue_call = λ day hour minute r q a b. is_issue_no_choice a b;
  is_duration_call = λ minutes r q a b. is_duration_no_choice a b;
  is_origin_call = λ b r q p u. is_origin_no_choice p u;
  is_event_call = λ b r q p u. is_event_no_choice p u;
  is_sender_call = λ b r q p u. is_sender_no_choice p u;
  is_duration_of = λ hours minutes r q a b. is_duration_of_no_choice a b;
  start_at = λ text at r q a b. stands_no_choice a b;
  origin_at = λ text at r q a b. stands_no_choice a b;
  event_at = λ text at r q a b. stands_no_choice a b;
  sender_at = λ text at r q a b. stands_no_choice a b;
  place_at = λ text at r q a b. place_at_no_choice a b;
  minutes_at = λ text at r q a b. minutes_at_no_choice a b;
  issue_at = λ text at r q a b. issue_at_no_choice a b;
  is_listed = is_listed_no_choice;
  class_of = class_of_no_choice;
  listed_class = listed_class_no_choice;
  matches = matches_no_choice;
  matches_some = matches_some_no_choice;
  first_word = first_word_no_choice;
  place_of = place_of_no_choice;
  bad_place_call = bad_place_no_choice;
  pack = pack_no_choice;
  pack_places = pack_places_no_choice;
  packed_match_some = packed_match_some_no_choice;
  check = check_no_choice;
  date_of_call = date_of_no_choice;
  lifetime = lifetime_no_choice;
  times_of_call = times_of_no_choice;
  bad_client_call = bad_client_no_choice;
  bad_wish_call = bad_wish_no_choice;
  client_of = client_of_no_choice;
  wish_of = wish_of_no_choice;
  mark_or_none = mark_or_none_no_choice;
  rank_of_call = rank_of_no_choice;
  rank_or_none = rank_or_none_no_choice;
  open_two = open_no_choice;
  close_two = close_no_choice;
  is_good = is_good_no_choice;
  add = add_no_choice;
  remove = remove_no_choice;
  sort = sort_no_choice;
  load = load_no_choice;
  report = report_no_choice;
  now_line = λ input at r q a b. now_line_no_choice a b;
  client_line = λ input at r q a b. client_line_no_choice a b;
  header_line_call = λ input at r q a b. header_line_no_choice a b;
  sub_line = λ input at r q a b. sub_line_no_choice a b;
  size_of = λ n r q a b. size_of_no_choice a b;
  put_number = λ out at word n w r q left rest a b. put_no_choice a b;
  put_text = λ out at word text r q left rest a b. put_no_choice a b;
  put_stamp = λ out at word s r q left rest a b. put_no_choice a b;
  put_hits = λ out at hits r q left rest a b. put_no_choice a b;
  print_refusal = λ number out r q left rest a b. print_no_choice a b;
  print_page = λ client times event listed class hits out r q left rest a b. print_no_choice a b;
  page = λ input out r q left rest a b. page_no_choice a b;
  read_input = λ input rest space reads r q left other a b. read_input_no_choice a.0 b.0 (a.1 ∙ sym b.1);
  between = λ lo hi b r q p u. between_no_choice p u;
  same = λ a b r q p u. same_no_choice p u;
  digits_at = λ text at width r q a b. digits_at_no_choice a b;
  put_byte = λ out at b r q left rest p u. put_no_choice p u;
  put_bytes = λ out at src r q left rest a b. put_no_choice a b;
  put_digits = λ out at n width r q left rest a b. put_no_choice a b;
  number_call = λ e r q a b. number_no_choice a b;
  index_call = λ e r q a b. index_no_choice a b;
  cap = cap_no_choice;
  answer = answer_no_choice;
  voted = voted_no_choice;
  edited = edited_no_choice;
  printed = printed_no_choice;
  wrote = wrote_no_choice;
  told_size = told_no_choice (λ n. granted n) (λ e. says e);
  told_nothing = told_no_choice (λ u. granted 0) (λ e. says e);
  told = told_no_choice (λ n. granted n) (λ n. refused n);
  told_at = told_no_choice (λ n. granted n) (λ r. refused_at r.0 r.1);
  halves_size = halves_no_choice (λ n. granted n);
  halves_nothing = halves_no_choice (λ u. granted 0);
  halves_refusal = halves_no_choice (λ e. says e);
  halves_number = halves_no_choice (λ n. refused n);
  halves_number_at = halves_no_choice (λ r. refused_at r.0 r.1);
  yes = yes_no_choice;
  outside = outside_call;
}

pub every_refusal : EveryRefusal
every_refusal = record {
  vote = vote_refusal_writes_nothing;
  write = λ f out r left p h. write_refusal_writes_nothing p h;
  add = add_refusal_writes_nothing;
  remove = remove_refusal_writes_nothing;
  load = load_refusal_writes_nothing;
  report = report_refusal_writes_nothing;
  print_refusal = λ number out r left p h. print_refusal_writes_nothing p h;
  print_page = λ client times event listed class hits out r left p h. print_refusal_writes_nothing p h;
  page = λ input out r left p h. page_refusal_writes_nothing p h;
  put_number = λ out at word n w r left p h. put_refusal_writes_nothing p h;
  put_text = λ out at word text r left p h. put_refusal_writes_nothing p h;
  put_stamp = λ out at word s r left p h. put_refusal_writes_nothing p h;
  put_hits = λ out at hits r left p h. put_refusal_writes_nothing p h;
  put_byte = λ out at b r left p h. put_refusal_writes_nothing p h;
  put_bytes = λ out at src r left p h. put_refusal_writes_nothing p h;
  put_digits = λ out at n width r left p h. put_refusal_writes_nothing p h;
  read = λ text r p h. read_refusal_writes_nothing p h;
  outside = outside_refusal;
}

-- the writer's rows, with the test of an issue in one word; the start is no field that is handed over, so its row never holds
write_rows : (a : Alert) (room : ℕ) (b : Bool) → issue.ok (a.day, (a.hour, a.minute)) ≡ b → GoesBy
    (
    refused 6 when not (eqb (length a.origin) 3 && is_origin a.origin)
    ∷ refused 7 when not (eqb (length a.event) 3 && is_event a.event)
    ∷ refused 8 when not (within 1 31 (length a.places) && every (λ p. ltb p 1000000) a.places)
    ∷ refused 9 when not (is_duration a.minutes)
    ∷ refused 10 when not b
    ∷ refused 11 when not (eqb (length a.sender) 8 && is_sender a.sender)
    ∷ refused 13 when ltb room (length (text_of a))
    ∷ []
    )
    (granted (length (text_of a))) (write_says a room)
unfolding write_says header front is_duration
write_rows a room b e = rw (← e) (by_rows _ _)

pub every_number : EveryNumber
unfolding vote_says clock_says date_says asked lifetime_says times_says add_says remove_says load_says report_says list_says alert_says print_says put_says
every_number = record {
  vote = λ a b c room. by_rows _ _;
  read_stops_where = read_stops;
  read_from = stops_read;
  table_says = table_stops;
  table_from = stops_table;
  write = λ a room. write_rows a room (is_issue a.day a.hour a.minute) (issue_ok a.day a.hour a.minute);
  check = λ at. by_rows _ _;
  date_of_call = λ year day. by_rows _ _;
  asked_of = λ at day hour minute duration. by_rows _ _;
  lifetime = λ at day hour minute duration. refl;
  times_of_call = λ at day hour minute duration. refl;
  add = λ book place client wish. by_rows _ _;
  remove = λ book place client. by_rows _ _;
  load = λ book list. by_rows _ _;
  report = λ book client text at room. by_rows _ _;
  print = λ text room. by_rows _ _;
  put = λ bytes at room. by_rows _ _;
}

-- an addition and a report never give 23, which is the program's
low_add : (book : List ℕ) (place client wish : ℕ) → passes is_low is_low (add_says form book place client wish) ≡ true
low_add book place client wish = passes_by is_low is_low (every_number.add book place client wish) refl refl

low_report : (book : List ℕ) (client : ℕ) (text : List ℕ) (at : Clock) (room : ℕ) → passes is_low is_low (report_says book client text at room) ≡ true
unfolding alert_says
low_report book client text at room =
    passes_by is_low is_low (every_number.report book client text at room) refl
    (passes_next is_low is_low (read_says text) (λ a. alert_says at room a (hits_of client a (subs form book))) (low_read text)
    (λ a. passes_rows is_low is_low (times_rows at a ++ room_rows room (hits_of client a (subs form book))) _ refl refl))

-- of each item of a load
items_numbered : (w : List ℕ) (xs : List Sub) → numbered (add_all form w xs) ≡ true
unfolding add_all
items_numbered w [] = refl
items_numbered w (x ∷ xs) =
    passes_next is_number is_number (add_says form w x.place x.client x.wish) (λ u. add_all form (added form x.place x.client x.wish w) xs)
    (numbered_by (every_number.add w x.place x.client x.wish) refl refl) (λ u. items_numbered (added form x.place x.client x.wish w) xs)

pub every_numbered : EveryNumbered
unfolding lifetime_says times_says
every_numbered = record {
  vote = λ a b c room. numbered_by (every_number.vote a b c room) refl refl;
  read = λ text. low_numbered (read_says text) (low_read text);
  write = λ a room. numbered_by (every_number.write a room) refl refl;
  check = λ at. numbered_by (every_number.check at) refl refl;
  date_of_call = λ year day. numbered_by (every_number.date_of_call year day) refl refl;
  lifetime = λ at day hour minute duration.
      passes_next is_number is_number (asked at day hour minute duration) (λ u. granted (lifetime_of at day hour minute duration))
      (numbered_by (every_number.asked_of at day hour minute duration) refl refl) (λ u. refl);
  times_of_call = λ at day hour minute duration.
      passes_next is_number is_number (asked at day hour minute duration) (λ u. granted (times_of at day hour minute duration))
      (numbered_by (every_number.asked_of at day hour minute duration) refl refl) (λ u. refl);
  add = λ book place client wish. low_numbered (add_says form book place client wish) (low_add book place client wish);
  remove = λ book place client. numbered_by (every_number.remove book place client) refl refl;
  load = λ book list. numbered_by (every_number.load book list) refl (items_numbered empty (items list));
  report = λ book client text at room. low_numbered (report_says book client text at room) (low_report book client text at room);
  print = λ text room. numbered_by (every_number.print text room) refl refl;
  put = λ bytes at room. numbered_by (every_number.put bytes at room) refl refl;
}

pub demand1 : Demand1
demand1 = record {
  every_call = every_call;
  every_refusal = every_refusal;
  every_number = every_number;
  every_numbered = every_numbered;
  program_numbers = program_numbers low_add low_report;
  outside_number = outside_number every_numbered;
}
