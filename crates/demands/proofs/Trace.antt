-- The names of this folder that docs/TRACE.md and docs/PROMISES.md go by. Written by docs/tools/trace.
use Rattle.book_check.proofs.Told.{told}
use Rattle.book_edits.proofs.NoChoice.{load_refusal_writes_nothing}
use Rattle.book_history.proofs.Loads.{any_order}
use Rattle.book_history.proofs.Proved.{form_book_and_history}
use Rattle.book_rules.proofs.Counts.{count_told}
use Rattle.book_rules.proofs.Edited.{add_granted, add_open, not_full, remove_granted, remove_open, room_left}
use Rattle.book_rules.proofs.Form.{client_fine, client_fits, client_some, form_laws, wish_fine, wish_fits, wish_some}
use Rattle.book_rules.proofs.Good.{good_from, good_layout, good_says}
use Rattle.book_rules.proofs.Pairs.{insert_is, rising_is}
use Rattle.book_rules.proofs.Whole.{count_layout, empty_layout, length_layout, total_layout}
use Rattle.burst.proofs.Bytes.{same_byte, voted_right}
use Rattle.burst.proofs.Cases.{clash_3, empty_2, text_52, voted_52}
use Rattle.burst.proofs.Consequence.{consequence}
use Rattle.burst.proofs.Heard.{clash_lowest, clash_there}
use Rattle.burst.proofs.Lengths.{each_short, middle_of, none_long}
use Rattle.burst.proofs.NoChoice.Granted.{fits_each}
use Rattle.burst.proofs.NoChoice.{leading_no_choice, strip_no_choice, strip_only_preamble, strip_says, vote_granted, vote_no_choice}
use Rattle.burst.proofs.NoChoice.{vote_writes_the_voted_length}
use Rattle.burst.proofs.Preambles.{all_lead, as_01, as_01_only, drops_16, drops_all, from_16, near, nine, only_preamble, rest_kept}
use Rattle.burst.proofs.Stripped.{drops_lead, lead_is, lead_most, stripped_bytes, stripped_rest}
use Rattle.burst.proofs.Whole.{whole_bit, whole_byte}
use Rattle.c_answers.proofs.Keeps.{keeps}
use Rattle.c_answers.proofs.Packs.{halves, told_apart}
use Rattle.clock.proofs.Cases.{leap_60, lifetime_366, plain_366, plain_60, times_366}
use Rattle.clock.proofs.Dates.{by_months, date_range}
use Rattle.clock.proofs.Header.{bad_clock_refused, header_times, no_day_refused}
use Rattle.clock.proofs.Moments.{in_that_year, year_is}
use Rattle.clock.proofs.Phases.{one_phase, phase_holds, phase_only}
use Rattle.clock.proofs.Ranges.{clock_day, clock_from, clock_year, days_high, days_low}
use Rattle.clock.proofs.Until.{one_time, until_exists, until_moment}
use Rattle.codec.proofs.Stops.{field_stops, list_stops, stops_field, stops_list, stops_then, then_stops}
use Rattle.demands.proofs.Both.{both_sides}
use Rattle.demands.proofs.Calls.{any_run, calls}
use Rattle.demands.proofs.Demand1.{every_call, every_number, every_numbered, every_refusal}
use Rattle.demands.proofs.Demand2.{demand2, voting}
use Rattle.demands.proofs.Demand3.{nobody_else, pages, reports, the_history}
use Rattle.demands.proofs.DirtyPreambles.{dirty_preambles}
use Rattle.demands.proofs.Everything.{everything}
use Rattle.demands.proofs.NationalCode.{national_code}
use Rattle.demands.proofs.Outside.{outside_call, outside_refusal}
use Rattle.demands.proofs.OutsideDemands.{outside_demands}
use Rattle.event.proofs.Facts.{class_low, no_double_code, sixty_one}
use Rattle.event.proofs.Search.{listed_class}
use Rattle.header.proofs.Allowed.{duration_ok, issue_ok}
use Rattle.header.proofs.Callers.{duration_bounds}
use Rattle.header.proofs.Cases.{d0000, d0115, d0130, d9930, none_more, one_more, sample_long, sample_reads, too_long}
use Rattle.header.proofs.Exact.{form_no_room, read_write, write_exactly, write_read, write_read_same}
use Rattle.header.proofs.NoChoice.{said_one, wrote_one}
use Rattle.header.proofs.Round.{duration_law, event_law, header_law, issue_law, origin_law, place_law, places_law, read_form, reads_exactly, sender_law}
use Rattle.header.proofs.Round.{start_law, text_length}
use Rattle.header.proofs.Stopping.{read_stops, stops_read, stops_table, table_stops}
use Rattle.input_lines.proofs.Headers.{header_stands}
use Rattle.input_lines.proofs.LineByLine.{each_lines, each_one, one_bad, one_took}
use Rattle.input_lines.proofs.Next.{next_line}
use Rattle.input_lines.proofs.Pieces.{pieces_clean, pieces_joined, pieces_line}
use Rattle.input_lines.proofs.Samples.{other_forms, sample_lines, taken}
use Rattle.laws.proofs.Order.{exactly, given, granted_quiet, refusal_leaves, said_first, said_last}
use Rattle.laws.proofs.Pasted.{pasted_length}
use Rattle.laws.proofs.Tables.{tabled}
use Rattle.page.proofs.Cut.{page_cut}
use Rattle.page.proofs.Own.{page_own_only}
use Rattle.page.proofs.Room.{page_in_room, page_printed}
use Rattle.page_printing.proofs.Hits.{hits_count}
use Rattle.page_printing.proofs.Pages.{refused_length}
use Rattle.page_printing.proofs.Samples.{sample_page, sample_refusal}
use Rattle.page_printing.proofs.Writing.{print_short}
use Rattle.place.proofs.Matching.Cases.{other_part, whole_county, whole_state}
use Rattle.place.proofs.Matching.{amends, cases, has_state, matches_from, matches_says, matches_state, national, no_state, none_by_parts, some_more}
use Rattle.place.proofs.Matching.{some_national, some_none, some_skipped}
use Rattle.place.proofs.Packed.{packed_match_is, packed_some}
use Rattle.place.proofs.Words.{before_word, fine, place_back, word_back, word_before, word_high, word_low}
use Rattle.reading.proofs.NoChoice.{read_input_known_no_choice, read_input_no_choice, read_input_whole}
use Rattle.refusals.proofs.Apart.{says_one}
use Rattle.refusals.proofs.NoChoice.{said_one as refusals_NoChoice_said_one}
use Rattle.refusals.proofs.Said.{leaves_refused, never_granted, next_refused}
use Rattle.report.proofs.Exact.{nothing_hit, report_exact}
use Rattle.report.proofs.Found.{hits_found}
use Rattle.report.proofs.Given.{given as report_Given_given}
use Rattle.report.proofs.Kept.{place_order}
use Rattle.report.proofs.Own.{own_only}
use Rattle.report.proofs.Spans.{length_pairs}
use Rattle.same.proofs.NoChoice.{vote_no_choice as same_NoChoice_vote_no_choice}
