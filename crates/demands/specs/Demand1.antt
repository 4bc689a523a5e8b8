-- Demand 1. Its first half is no statement of this crate: that a call takes any input, ends, and touches nothing outside what it was
-- lent is what the check proves of every function before its promise counts, and no public function has a precondition.
use Rattle.std.specs.Prelude.{ℕ, ◌+◌, ◌*◌, ◌≡◌, Bool, true, ◌&&◌, not, List, [], ◌∷◌, length, eqb, ltb, Option, Result}
use Rattle.std.specs.Borrow.{Bor}
use Rattle.std.specs.declared.io.Error.{Error}
use Rattle.laws.specs.Order.{granted, refused, refused_at, ◌when◌, in_order, next, is_refusal}
use Rattle.laws.specs.Lists.{every}
use Rattle.laws.specs.Numbers.{within, dig}
use Rattle.codec.specs.Promise.{BetweenPromise, SamePromise, DigitsAtPromise, put_says, said_put, PutPromise}
use Rattle.codec.specs.Codec.{no}
use Rattle.reading.specs.Reading.{OneRead}
use Rattle.reading.specs.Promise.{ReadInputPromise}
use Rattle.burst.specs.Strip.{stripped}
use Rattle.burst.specs.Vote.{voted_length, clash_at, too_long, vote_says}
use Rattle.burst.specs.Promise.{LeadingPromise, StripPromise, VotePromise, said_vote}
use Rattle.header.specs.Header.{Alert, is_origin, is_event, is_issue, is_sender, is_duration, start, origin, event, sender, header, text_of}
use Rattle.header.specs.Reading.{read_says, ReadStops, TableStops}
use Rattle.header.specs.Writing.{write_says}
use Rattle.header.specs.Answers.{said_read, fields_read, no_fields}
use Rattle.header.specs.Promise.{ReadPromise, WritePromise, IsIssuePromise, IsDurationPromise, IsOriginPromise, IsEventPromise, IsSenderPromise}
use Rattle.header.specs.Promise.{IsDurationOfPromise}
use Rattle.header.specs.declared.Fields.{Fields}
use Rattle.header_fields.specs.Promise.{StandsPromise, PlaceAtPromise, MinutesAtPromise, IssueAtPromise}
use Rattle.event.specs.Promise.{ListedPromise, ClassPromise, ListedClassPromise}
use Rattle.place.specs.FirstWord.{bad_place}
use Rattle.place.specs.Promise.{MatchesPromise, MatchesSomePromise, FirstWordPromise, PlaceOfPromise, BadPlacePromise, PackPromise, PackPlacesPromise}
use Rattle.place.specs.Promise.{PackedMatchSomePromise}
use Rattle.clock.specs.Clock.{has_day, is_clock}
use Rattle.clock.specs.Calendar.{date_of}
use Rattle.clock.specs.Lifetime.{year_of, lifetime_of, times_of}
use Rattle.clock.specs.Answers.{clock_says, date_says, asked, lifetime_says, times_says}
use Rattle.clock.specs.Promise.{CheckPromise, DatePromise, LifetimePromise, TimesPromise}
use Rattle.clock.specs.declared.Clock.{Clock}
use Rattle.book_rules.specs.Form.{form, bad_client, bad_wish}
use Rattle.book_rules.specs.Rules.{good, recs, empty}
use Rattle.book_rules.specs.Edits.{stands, full, add_says, remove_says}
use Rattle.book_rules.specs.Load.{load_says, add_all, items}
use Rattle.book_rules.specs.Afresh.{subs}
use Rattle.refusals.specs.Refusals.{says, said}
use Rattle.refusals.specs.Promise.{NumberPromise, IndexPromise}
use Rattle.refusals.specs.declared.Refusal.{Refusal}
use Rattle.book_records.specs.Promise.{BadClientPromise, BadWishPromise, ClientOfPromise, WishOfPromise, MarkOrNonePromise, RankOfPromise, RankOrNonePromise}
use Rattle.book_check.specs.Promise.{IsGoodPromise}
use Rattle.book_shifts.specs.Promise.{OpenPromise, ClosePromise}
use Rattle.sorting.specs.Promise.{SortPromise}
use Rattle.book_edits.specs.Promise.{AddPromise, RemovePromise, LoadPromise}
use Rattle.report.specs.Hits.{hits_of}
use Rattle.report.specs.Report.{summary_of, report_says}
use Rattle.report.specs.Promise.{ReportPromise}
use Rattle.input_lines.specs.Promise.{NowLinePromise, ClientLinePromise, HeaderLinePromise, SubLinePromise}
use Rattle.clock.specs.declared.Times.{Times}
use Rattle.clock.specs.declared.Stamp.{Stamp}
use Rattle.page_lines.specs.Lines.{number_line, text_line, stamp_line, hits_text}
use Rattle.page_lines.specs.Promise.{SizePromise}
use Rattle.page_printing.specs.Page.{page_text, refused_text}
use Rattle.page_printing.specs.Promise.{print_says, PrintPromise}
use Rattle.page.specs.Promise.{PagePromise}
use Rattle.c_answers.specs.Promise.{CapPromise, AnswerPromise, HalvesPromise, ToldPromise, VotedPromise, EditedPromise, PrintedPromise, WrotePromise, YesPromise}
use Rattle.demands.specs.Forms.{LeavesNoChoice, LeavesNoChoiceOf, RefusalWritesNothing, GoesBy, numbered}
use Rattle.demands.specs.Program.{ProgramNumbers}
use Rattle.demands.specs.Outside.{OutsideCall, OutsideRefusal, OutsideNumber}

-- ---- "Every public call": the table of all of them. Its promise leaves no choice: for each input, refusals too, the answer and the final
-- content of lent space follow from it.

pub record EveryCall : Type 0 where
  -- bursts
  pub leading : (burst : List ℕ) → LeavesNoChoice (LeadingPromise burst)
  -- the part handed back: the same bytes at the same place of memory
  pub strip : (burst r q : Bor (List ℕ)) → StripPromise burst r → StripPromise burst q → (r.now ≡ q.now) × (r.ref_ptr ≡ q.ref_ptr)
  pub vote : (a b c out : List ℕ) → LeavesNoChoiceOf (VotePromise a b c out)
  -- texts
  pub read : (text : List ℕ) → LeavesNoChoice (ReadPromise text)
  pub write : (f : Fields) (out : List ℕ) → LeavesNoChoiceOf (λ r left. WritePromise f out left r)
  pub is_issue_call : (day hour minute : ℕ) → LeavesNoChoice (IsIssuePromise day hour minute)
  pub is_duration_call : (minutes : ℕ) → LeavesNoChoice (IsDurationPromise minutes)
  pub is_origin_call : (b : List ℕ) → LeavesNoChoice (IsOriginPromise b)
  pub is_event_call : (b : List ℕ) → LeavesNoChoice (IsEventPromise b)
  pub is_sender_call : (b : List ℕ) → LeavesNoChoice (IsSenderPromise b)
  pub is_duration_of : (hours minutes : ℕ) → LeavesNoChoice (IsDurationOfPromise hours minutes)
  pub start_at : (text : List ℕ) (at : ℕ) → LeavesNoChoice (StandsPromise start text at)
  pub origin_at : (text : List ℕ) (at : ℕ) → LeavesNoChoice (StandsPromise origin text at)
  pub event_at : (text : List ℕ) (at : ℕ) → LeavesNoChoice (StandsPromise event text at)
  pub sender_at : (text : List ℕ) (at : ℕ) → LeavesNoChoice (StandsPromise sender text at)
  pub place_at : (text : List ℕ) (at : ℕ) → LeavesNoChoice (PlaceAtPromise text at)
  pub minutes_at : (text : List ℕ) (at : ℕ) → LeavesNoChoice (MinutesAtPromise text at)
  pub issue_at : (text : List ℕ) (at : ℕ) → LeavesNoChoice (IssueAtPromise text at)
  -- events
  pub is_listed : (a b c : ℕ) → LeavesNoChoice (ListedPromise a b c)
  pub class_of : (a b c : ℕ) → LeavesNoChoice (ClassPromise a b c)
  pub listed_class : (a b c : ℕ) → LeavesNoChoice (ListedClassPromise a b c)
  -- places
  pub matches : (watched sent : ℕ) → LeavesNoChoice (MatchesPromise watched sent)
  pub matches_some : (watched : ℕ) (sent : List ℕ) → LeavesNoChoice (MatchesSomePromise watched sent)
  pub first_word : (place : ℕ) → LeavesNoChoice (FirstWordPromise place)
  pub place_of : (word : ℕ) → LeavesNoChoice (PlaceOfPromise word)
  pub bad_place_call : (place : ℕ) → LeavesNoChoice (BadPlacePromise place)
  pub pack : (word : ℕ) → LeavesNoChoice (PackPromise word)
  pub pack_places : (places : List ℕ) → LeavesNoChoice (PackPlacesPromise places)
  pub packed_match_some : (watched : ℕ) (sent : List ℕ) → LeavesNoChoice (PackedMatchSomePromise watched sent)
  -- clocks
  pub check : (at : Clock) → LeavesNoChoice (CheckPromise at)
  pub date_of_call : (year day : ℕ) → LeavesNoChoice (DatePromise year day)
  pub lifetime : (at : Clock) (day hour minute duration : ℕ) → LeavesNoChoice (LifetimePromise at day hour minute duration)
  pub times_of_call : (at : Clock) (day hour minute duration : ℕ) → LeavesNoChoice (TimesPromise at day hour minute duration)
  -- books
  pub bad_client_call : (client : ℕ) → LeavesNoChoice (BadClientPromise client)
  pub bad_wish_call : (wish : ℕ) → LeavesNoChoice (BadWishPromise wish)
  pub client_of : (mark : ℕ) → LeavesNoChoice (ClientOfPromise mark)
  pub wish_of : (mark : ℕ) → LeavesNoChoice (WishOfPromise mark)
  pub mark_or_none : (client wish : ℕ) → LeavesNoChoice (MarkOrNonePromise client wish)
  pub rank_of_call : (first client : ℕ) → LeavesNoChoice (RankOfPromise first client)
  pub rank_or_none : (first second : ℕ) → LeavesNoChoice (RankOrNonePromise first second)
  pub open_two : (words : List ℕ) (at end x y : ℕ) → LeavesNoChoice (OpenPromise words at end x y)
  pub close_two : (words : List ℕ) (at end : ℕ) → LeavesNoChoice (ClosePromise words at end)
  pub is_good : (book : List ℕ) → LeavesNoChoice (IsGoodPromise book)
  pub add : (book : List ℕ) (place client wish : ℕ) → LeavesNoChoiceOf (AddPromise book place client wish)
  pub remove : (book : List ℕ) (place client : ℕ) → LeavesNoChoiceOf (RemovePromise book place client)
  pub sort : (numbers : List ℕ) → LeavesNoChoice (SortPromise numbers)
  -- load, and load_each, which adds the items as they come
  pub load : (book list : List ℕ) → LeavesNoChoiceOf (LoadPromise book list)
  -- reports
  pub report : (book : List ℕ) (client : ℕ) (text : List ℕ) (at : Clock) (out : List ℕ) → LeavesNoChoiceOf (ReportPromise book client text at out)
  -- the program: its lines, its printing, its page
  pub now_line : (input : List ℕ) (at : ℕ) → LeavesNoChoice (NowLinePromise input at)
  pub client_line : (input : List ℕ) (at : ℕ) → LeavesNoChoice (ClientLinePromise input at)
  pub header_line_call : (input : List ℕ) (at : ℕ) → LeavesNoChoice (HeaderLinePromise input at)
  pub sub_line : (input : List ℕ) (at : ℕ) → LeavesNoChoice (SubLinePromise input at)
  pub size_of : (n : ℕ) → LeavesNoChoice (SizePromise n)
  pub put_number : (out : List ℕ) (at : ℕ) (word : List ℕ) (n w : ℕ) → LeavesNoChoiceOf (PutPromise out at (number_line word w n))
  pub put_text : (out : List ℕ) (at : ℕ) (word text : List ℕ) → LeavesNoChoiceOf (PutPromise out at (text_line word text))
  pub put_stamp : (out : List ℕ) (at : ℕ) (word : List ℕ) (s : Stamp) → LeavesNoChoiceOf (PutPromise out at (stamp_line word s))
  pub put_hits : (out : List ℕ) (at : ℕ) (hits : List ℕ) → LeavesNoChoiceOf (PutPromise out at (hits_text hits))
  pub print_refusal : (number : ℕ) (out : List ℕ) → LeavesNoChoiceOf (PrintPromise (refused_text number) out)
  pub print_page : (client : ℕ) (times : Times) (event : List ℕ) (listed : Bool) (class : ℕ) (hits out : List ℕ)
      → LeavesNoChoiceOf (PrintPromise (page_text client times event listed class hits) out)
  pub page : (input out : List ℕ) → LeavesNoChoiceOf (PagePromise input out)
  -- an input that is read: what its reads answered, and left of the space that each was lent, is given
  pub read_input : (input rest : Option (List ℕ)) (space : List ℕ) (reads : List (OneRead Error))
      → LeavesNoChoiceOf (λ (r : Result ℕ Error) left. (p : ReadInputPromise {E = Error} input rest space left r) × (p.reads ≡ reads))
  -- bytes and digits
  pub between : (lo hi b : ℕ) → LeavesNoChoice (BetweenPromise lo hi b)
  pub same : (a b : List ℕ) → LeavesNoChoice (SamePromise a b)
  pub digits_at : (text : List ℕ) (at width : ℕ) → LeavesNoChoice (DigitsAtPromise text at width)
  pub put_byte : (out : List ℕ) (at b : ℕ) → LeavesNoChoiceOf (PutPromise out at (b ∷ []))
  pub put_bytes : (out : List ℕ) (at : ℕ) (src : List ℕ) → LeavesNoChoiceOf (PutPromise out at src)
  -- put_digits, and put_count for a wider number
  pub put_digits : (out : List ℕ) (at n width : ℕ) → LeavesNoChoiceOf (PutPromise out at (dig width n))
  -- answers as one number
  pub number_call : (e : Refusal) → LeavesNoChoice (NumberPromise e)
  pub index_call : (e : Refusal) → LeavesNoChoice (IndexPromise e)
  pub cap : (v : ℕ) → LeavesNoChoice (CapPromise v)
  pub answer : (number sizeOrIndex : ℕ) → LeavesNoChoice (AnswerPromise number sizeOrIndex)
  pub voted : (v : Result ℕ Refusal) → LeavesNoChoice (VotedPromise v)
  pub edited : (e : Result (Unit {0}) Refusal) → LeavesNoChoice (EditedPromise e)
  pub printed : (p : Result ℕ Refusal) → LeavesNoChoice (PrintedPromise p)
  pub wrote : (w : Result ℕ Refusal) → LeavesNoChoice (WrotePromise w)
  -- told, of which the four above are instances: of a length and of nothing, with a refusal, as the calls from outside pass them; and with
  -- any number at all, alone and with an index
  pub told_size : (s : Result ℕ Refusal) → LeavesNoChoice (ToldPromise (λ n. granted n) (λ e. says e) s)
  pub told_nothing : (s : Result (Unit {0}) Refusal) → LeavesNoChoice (ToldPromise (λ u. granted 0) (λ e. says e) s)
  pub told : (s : Result ℕ ℕ) → LeavesNoChoice (ToldPromise (λ n. granted n) (λ n. refused n) s)
  pub told_at : (s : Result ℕ (ℕ × ℕ)) → LeavesNoChoice (ToldPromise (λ n. granted n) (λ r. refused_at r.0 r.1) s)
  -- what told asks of its value and of its error: a size, nothing, a refusal, a number, and a number with an index
  pub halves_size : (n : ℕ) → LeavesNoChoice (HalvesPromise (λ n. granted n) n)
  pub halves_nothing : (u : Unit {0}) → LeavesNoChoice (HalvesPromise (λ u. granted 0) u)
  pub halves_refusal : (e : Refusal) → LeavesNoChoice (HalvesPromise (λ e. says e) e)
  pub halves_number : (n : ℕ) → LeavesNoChoice (HalvesPromise (λ n. refused n) n)
  pub halves_number_at : (r : ℕ × ℕ) → LeavesNoChoice (HalvesPromise (λ r. refused_at r.0 r.1) r)
  pub yes : (b : Bool) → LeavesNoChoice (YesPromise b)
  -- the 13 calls from outside, and the three over words that they hand on
  pub outside : OutsideCall

-- ---- "and a refusal writes nothing": the table of all calls that are lent space

pub record EveryRefusal : Type 0 where
  pub vote : (a b c out : List ℕ) → RefusalWritesNothing said_vote out (VotePromise a b c out)
  pub write : (f : Fields) (out : List ℕ) → RefusalWritesNothing said out (λ r left. WritePromise f out left r)
  pub add : (book : List ℕ) (place client wish : ℕ) → RefusalWritesNothing said book (AddPromise book place client wish)
  pub remove : (book : List ℕ) (place client : ℕ) → RefusalWritesNothing said book (RemovePromise book place client)
  -- load and load_each
  pub load : (book list : List ℕ) → RefusalWritesNothing said book (LoadPromise book list)
  pub report : (book : List ℕ) (client : ℕ) (text : List ℕ) (at : Clock) (out : List ℕ)
      → RefusalWritesNothing said out (ReportPromise book client text at out)
  pub print_refusal : (number : ℕ) (out : List ℕ) → RefusalWritesNothing said out (PrintPromise (refused_text number) out)
  pub print_page : (client : ℕ) (times : Times) (event : List ℕ) (listed : Bool) (class : ℕ) (hits out : List ℕ)
      → RefusalWritesNothing said out (PrintPromise (page_text client times event listed class hits) out)
  pub page : (input out : List ℕ) → RefusalWritesNothing said out (PagePromise input out)
  -- the lines of a page
  pub put_number : (out : List ℕ) (at : ℕ) (word : List ℕ) (n w : ℕ) → RefusalWritesNothing said_put out (PutPromise out at (number_line word w n))
  pub put_text : (out : List ℕ) (at : ℕ) (word text : List ℕ) → RefusalWritesNothing said_put out (PutPromise out at (text_line word text))
  pub put_stamp : (out : List ℕ) (at : ℕ) (word : List ℕ) (s : Stamp) → RefusalWritesNothing said_put out (PutPromise out at (stamp_line word s))
  pub put_hits : (out : List ℕ) (at : ℕ) (hits : List ℕ) → RefusalWritesNothing said_put out (PutPromise out at (hits_text hits))
  -- bytes and digits
  pub put_byte : (out : List ℕ) (at b : ℕ) → RefusalWritesNothing said_put out (PutPromise out at (b ∷ []))
  pub put_bytes : (out : List ℕ) (at : ℕ) (src : List ℕ) → RefusalWritesNothing said_put out (PutPromise out at src)
  -- put_digits and put_count
  pub put_digits : (out : List ℕ) (at n width : ℕ) → RefusalWritesNothing said_put out (PutPromise out at (dig width n))
  -- `read` is lent nothing; what it hands back of a refused text is zeros
  pub read : (text : List ℕ) (r : Result Fields Refusal) → ReadPromise text r → is_refusal (said_read r) ≡ true → fields_read r ≡ no_fields
  -- the calls from outside that are lent space
  pub outside : OutsideRefusal

-- ---- "Bad bursts, texts, clocks, books and edits are refused by the listed number": each call's numbers in its order, with the
-- condition of each. The rows are spelled out here on purpose, and not cited: this is where a reader compares them with the paper's
-- orders, and a row that is moved in a crate below no longer goes by them

pub record EveryNumber : Type 0 where
  -- vote 1, 2, 4, 13, 3
  pub vote : (a b c : List ℕ) (room : ℕ)
      → let n = voted_length (stripped a) (stripped b) (stripped c) in
      let k = clash_at (stripped a) (stripped b) (stripped c) n in
      GoesBy
      (
      refused 1 when too_long a b c
      ∷ refused 2 when eqb n 0
      ∷ refused_at 4 252 when ltb 252 n
      ∷ refused 13 when ltb room n
      ∷ refused_at 3 k when ltb k n
      ∷ []
      )
      (granted n) (vote_says a b c room)
  -- read 4 to 12: where reading stops, and with which number; in the table of fields from the left
  pub read_stops_where : (text : List ℕ) (n i : ℕ) → read_says text ≡ refused_at n i → ReadStops text n i
  pub read_from : (text : List ℕ) (n i : ℕ) → ReadStops text n i → read_says text ≡ refused_at n i
  pub table_says : (text : List ℕ) (n i : ℕ) → header.get text 0 ≡ no n i → TableStops text n i
  pub table_from : (text : List ℕ) (n i : ℕ) → TableStops text n i → header.get text 0 ≡ no n i
  -- write 6 to 11, then 13
  pub write : (a : Alert) (room : ℕ) → GoesBy
      (
      refused 6 when not (eqb (length a.origin) 3 && is_origin a.origin)
      ∷ refused 7 when not (eqb (length a.event) 3 && is_event a.event)
      ∷ refused 8 when not (within 1 31 (length a.places) && every (λ p. ltb p 1000000) a.places)
      ∷ refused 9 when not (is_duration a.minutes)
      ∷ refused 10 when not (is_issue a.day a.hour a.minute)
      ∷ refused 11 when not (eqb (length a.sender) 8 && is_sender a.sender)
      ∷ refused 13 when ltb room (length (text_of a))
      ∷ []
      )
      (granted (length (text_of a))) (write_says a room)
  -- the clock's 15; 14; what is asked of a header's fields at a clock
  pub check : (at : Clock) → GoesBy (refused 15 when not (is_clock at) ∷ []) (granted tt) (clock_says at)
  pub date_of_call : (year day : ℕ) → GoesBy (refused 14 when not (has_day year day) ∷ []) (granted (date_of year day)) (date_says year day)
  pub asked_of : (at : Clock) (day hour minute duration : ℕ) → GoesBy
      (
      refused 15 when not (is_clock at)
      ∷ refused 9 when not (is_duration duration)
      ∷ refused 10 when not (is_issue day hour minute)
      ∷ refused 14 when not (has_day (year_of at day hour minute) day)
      ∷ []
      )
      (granted tt) (asked at day hour minute duration)
  pub lifetime : (at : Clock) (day hour minute duration : ℕ)
      → lifetime_says at day hour minute duration ≡ next (asked at day hour minute duration) (λ u. granted (lifetime_of at day hour minute duration))
  pub times_of_call : (at : Clock) (day hour minute duration : ℕ)
      → times_says at day hour minute duration ≡ next (asked at day hour minute duration) (λ u. granted (times_of at day hour minute duration))
  -- add 16, 17, 18, 19, 20, 22
  pub add : (book : List ℕ) (place client wish : ℕ) → GoesBy
      (
      refused 16 when not (good form book)
      ∷ refused 17 when bad_client client
      ∷ refused 18 when bad_place place
      ∷ refused 19 when bad_wish wish
      ∷ refused 20 when stands form place client (recs book)
      ∷ refused 22 when full (recs book)
      ∷ []
      )
      (granted tt) (add_says form book place client wish)
  -- remove 16, 17, 18, 21
  pub remove : (book : List ℕ) (place client : ℕ) → GoesBy
      (
      refused 16 when not (good form book)
      ∷ refused 17 when bad_client client
      ∷ refused 18 when bad_place place
      ∷ refused 21 when not (stands form place client (recs book))
      ∷ []
      )
      (granted tt) (remove_says form book place client)
  -- load 16, then each item's
  pub load : (book list : List ℕ) → GoesBy (refused 16 when not (good form book) ∷ []) (add_all form empty (items list)) (load_says form book list)
  -- report 16, 17, the header's, 15, 14, 13
  pub report : (book : List ℕ) (client : ℕ) (text : List ℕ) (at : Clock) (room : ℕ) → GoesBy
      (
      refused 16 when not (good form book)
      ∷ refused 17 when bad_client client
      ∷ []
      )
      (next (read_says text) (λ a.
      in_order
      (
      refused 15 when not (is_clock at)
      ∷ refused 14 when not (has_day (year_of at a.day a.hour a.minute) a.day)
      ∷ refused 13 when ltb room (2 * length (hits_of client a (subs form book)))
      ∷ []
      )
      (granted (record { summary = summary_of at a (hits_of client a (subs form book)); hits = hits_of client a (subs form book) }))))
      (report_says book client text at room)
  -- what the program prints: 13
  pub print : (text : List ℕ) (room : ℕ) → GoesBy (refused 13 when ltb room (length text) ∷ []) (granted (length text)) (print_says text room)
  -- what is put at an index, bytes or lines: 13
  pub put : (bytes : List ℕ) (at room : ℕ) → GoesBy (refused 13 when ltb room (at + length bytes) ∷ []) (granted tt) (put_says bytes at room)

-- and whatever is refused has a number of the paper's list
pub record EveryNumbered : Type 0 where
  pub vote : (a b c : List ℕ) (room : ℕ) → numbered (vote_says a b c room) ≡ true
  pub read : (text : List ℕ) → numbered (read_says text) ≡ true
  pub write : (a : Alert) (room : ℕ) → numbered (write_says a room) ≡ true
  pub check : (at : Clock) → numbered (clock_says at) ≡ true
  pub date_of_call : (year day : ℕ) → numbered (date_says year day) ≡ true
  pub lifetime : (at : Clock) (day hour minute duration : ℕ) → numbered (lifetime_says at day hour minute duration) ≡ true
  pub times_of_call : (at : Clock) (day hour minute duration : ℕ) → numbered (times_says at day hour minute duration) ≡ true
  pub add : (book : List ℕ) (place client wish : ℕ) → numbered (add_says form book place client wish) ≡ true
  pub remove : (book : List ℕ) (place client : ℕ) → numbered (remove_says form book place client) ≡ true
  pub load : (book list : List ℕ) → numbered (load_says form book list) ≡ true
  pub report : (book : List ℕ) (client : ℕ) (text : List ℕ) (at : Clock) (room : ℕ) → numbered (report_says book client text at room) ≡ true
  pub print : (text : List ℕ) (room : ℕ) → numbered (print_says text room) ≡ true
  pub put : (bytes : List ℕ) (at room : ℕ) → numbered (put_says bytes at room) ≡ true

pub record Demand1 : Type 0 where
  pub every_call : EveryCall
  pub every_refusal : EveryRefusal
  pub every_number : EveryNumber
  pub every_numbered : EveryNumbered
  -- the program's, over whole inputs
  pub program_numbers : ProgramNumbers
  -- and the calls from outside say it in the low half of their answer
  pub outside_number : OutsideNumber
