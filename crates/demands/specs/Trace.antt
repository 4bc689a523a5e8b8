-- The names of this folder that docs/TRACE.md and docs/PROMISES.md go by. Written by docs/tools/trace.
use Rattle.book_edits.specs.Promise.LoadPromise.{lent}
use Rattle.book_history.specs.Statements.History.{agree, answers, equals, is_built, leaves, members, tallies, together}
use Rattle.book_history.specs.Statements.{HistoryFrom, Holdings, LoadIsAdding, LoadIsBuilding, NotIdle, RankOrder}
use Rattle.book_history.specs.Statements.Holdings.{one_per_place, order}
use Rattle.book_history.specs.Statements.LoadIsAdding.{bad, no_index, refused_only, refuses}
use Rattle.book_history.specs.Statements.TheBook.{no_other, of_its_own, of_none, one_book, some_book}
use Rattle.book_rules.specs.Afresh.{Afresh, Apart, Valid, built, subs}
use Rattle.book_rules.specs.Edits.{add_rows, book_row, client_row, full, place_row, remove_rows, stands}
use Rattle.book_rules.specs.Form.{FormLaws, bad_client, bad_wish, form}
use Rattle.book_rules.specs.History.{standing}
use Rattle.book_rules.specs.Load.{add_all, items, load_says}
use Rattle.book_rules.specs.Rules.{Rec, below, counts_right, empty, good, ok_rec, pair_below, rec_at, recs, rising, total, unused_zero}
use Rattle.book_rules.specs.Subscription.{how_often}
use Rattle.burst.specs.Bits.{bits_apart, most, voted_byte}
use Rattle.burst.specs.Meaning.{Drops, whole_run}
use Rattle.burst.specs.Promise.{LeadingPromise, StripPromise}
use Rattle.burst.specs.Promise.StripPromise.{block, start}
use Rattle.burst.specs.Promise.VotePromise.{first, second, third}
use Rattle.burst.specs.Sent.{OfBytes, Sent}
use Rattle.burst.specs.Sent.Sent.{middle, right}
use Rattle.burst.specs.Strip.{lead, lead_up_to, preamble, stripped}
use Rattle.burst.specs.Vote.{clash, clash_at, heard, middle as burst_Vote_middle, settled, too_long, vote_rows, vote_says, voted_length}
use Rattle.c_answers.specs.Answer.{in_halves}
use Rattle.clock.specs.Answers.{asked, clock_says, date_says, lifetime_says, times_says}
use Rattle.clock.specs.Calendar.{calendar, date_of, dated, entry_of}
use Rattle.clock.specs.Clock.{days_in, has_day, is_clock, leap}
use Rattle.clock.specs.Lifetime.{early, expired, lifetime_of, minute_of, moment_in, phase_of, time_in, until_of, year_of}
use Rattle.clock.specs.Meaning.{Holds}
use Rattle.codec.specs.Codec.Codec.{faults}
use Rattle.codec.specs.Codec.{and_then, fits, get_list, step, ◌▷◌}
use Rattle.codec.specs.Law.ListStops.{full as codec_Law_full}
use Rattle.codec.specs.Law.{Sized}
use Rattle.demands.specs.Both.{BothSides}
use Rattle.demands.specs.Both.BothSides.{d0130, none_is_52, votes_52, whole_county}
use Rattle.demands.specs.Calls.{Called}
use Rattle.demands.specs.Demand1.{EveryCall, EveryNumber, EveryNumbered, EveryRefusal}
use Rattle.demands.specs.Demand2.{Events, Lifetimes, Matching, ReadingAndWriting, Voting}
use Rattle.demands.specs.Demand2.ReadingAndWriting.{form as demands_Demand2_form, nothing_left, read_write, reads_exactly, text, write_read, write_read_same}
use Rattle.demands.specs.Demand3.{OwnOnly, ReportIs, TheHistory}
use Rattle.demands.specs.Demand3.Pages.{page_own_only}
use Rattle.demands.specs.Demand3.Reports.{report_exact}
use Rattle.demands.specs.DirtyPreambles.{DirtyPreambles}
use Rattle.demands.specs.Everything.{Everything}
use Rattle.demands.specs.Impostors.Impostors.{add_changes, after_load, no_hit, one_hit, reads_every, reads_sample, remove_changes, some_addition, some_removal}
use Rattle.demands.specs.Impostors.Impostors.{some_vote, two_hits, two_texts}
use Rattle.demands.specs.Malformed.{Malformed}
use Rattle.demands.specs.NationalCode.{NationalCode, nationwide, wished}
use Rattle.demands.specs.NationalCode.NationalCode.{report, same_report}
use Rattle.demands.specs.NationalCode.NationalHeaders.{own_wish, wish_decides}
use Rattle.demands.specs.Outside.{OutsideCall, OutsideNumber, OutsideRefusal}
use Rattle.demands.specs.OutsideCalls.{CalledOutside}
use Rattle.demands.specs.OutsideDemands.{OutsideHistory, OutsideReports, OutsideTexts, OutsideVote}
use Rattle.demands.specs.OutsideDemands.OutsideVote.{carries}
use Rattle.demands.specs.Program.{ProgramNumbers}
use Rattle.demands.specs.Program.ProgramNumbers.{only_23, says_23}
use Rattle.event.specs.Class.{by_third, class_of}
use Rattle.event.specs.Events.{events, is_listed}
use Rattle.header.specs.Answers.{fields_of, said_read}
use Rattle.header.specs.Header.{duration, event, front, header, in_hours, in_minutes, is_duration, is_duration_of, is_event, is_issue, is_origin}
use Rattle.header.specs.Header.{is_sender_byte, issue, origin, place, sender, start as header_Header_start, text_of}
use Rattle.header.specs.Reading.ReadStops.{long}
use Rattle.header.specs.Reading.{TableStops, read_says, to_the_end}
use Rattle.header.specs.Writing.{write_rows, write_says}
use Rattle.header_fields.specs.Says.{told}
use Rattle.input_lines.specs.Answers.{header_parts, now_parts, sub_parts}
use Rattle.input_lines.specs.Forms.{client_line, header_line, now_line, sub_line}
use Rattle.input_lines.specs.LineByLine.{each_line, one_line}
use Rattle.input_lines.specs.Lines.{is_line, pieces, whole}
use Rattle.input_lines.specs.Next.{first_of, header_at}
use Rattle.laws.specs.Order.{First, Quiet, Row, Said, in_order}
use Rattle.laws.specs.Space.{leaves as laws_Space_leaves, pasted}
use Rattle.page.specs.Input.{adds_line, input_says, lines_say, report_shows}
use Rattle.page.specs.Page.{page_of, printed, shown_text}
use Rattle.page_printing.specs.Page.{ended, page_lines, page_text, refused_text}
use Rattle.page_printing.specs.Promise.{print_says}
use Rattle.place.specs.FirstWord.{bad_place, first_word}
use Rattle.place.specs.Meaning.{ByParts}
use Rattle.place.specs.Meaning.Match.{by_parts, whole_country}
use Rattle.place.specs.Packed.{packed_match}
use Rattle.place.specs.Place.{county, match_by_parts, matches, matches_some, meet, part, state}
use Rattle.reading.specs.Reading.{Gone, Holds as reading_Reading_Holds, Within, after_read, read_in_turn}
use Rattle.refusals.specs.Refusals.{said, says}
use Rattle.report.specs.Answers.{answer_says}
use Rattle.report.specs.Exact.{After, Lists, wanted}
use Rattle.report.specs.Exact.Lists.{exactly, order as report_Exact_order}
use Rattle.report.specs.Hits.{has_class, hits_of, is_of, matching, pairs}
use Rattle.report.specs.Own.{Agree}
use Rattle.report.specs.Report.{alert_says, list_says, report_says, room_rows, times_rows}
use Rattle.same.specs.Promise.SameVotePromise.{first as same_Promise_first, second as same_Promise_second, third as same_Promise_third}
