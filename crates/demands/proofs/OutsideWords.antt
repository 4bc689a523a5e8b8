-- Fields and their 50 words, each way: what is pasted of fields that were read says those fields again, and fields that a text can say
-- are their words up to the last place, with zeros behind it.
use Prim.Native.Nat.{ℕ, ◌+◌, ◌-◌, ◌≤◌}
use mathlib.Core.Path.{◌≡◌, refl, sym, ap, ◌∙◌}
use mathlib.Core.Bool.{Bool, true, false, ◌||◌}
use mathlib.Core.List.{List, [], ◌∷◌, ◌++◌, map, append_assoc}
use native.Mathlib.Omega.{arith}
use lib.ListN.{length, take, drop, replicate, get_or, length-append, length-drop, length-replicate}
use lib.Seq.{take_at, drop_at, take-take, take-add, drop-drop, get_or-drop, length-take-le}
use lib.Dec.{ltb}
use borrow.Author.Tests.{lt-ltb}
use Rattle.laws.specs.Order.{choose}
use Rattle.laws.specs.Lists.{every, same}
use Rattle.laws.specs.Numbers.{within}
use Rattle.laws.specs.Space.{pasted}
use Rattle.laws.specs.Text.{ascii}
use Rattle.laws.proofs.Every.{same_eq}
use Rattle.laws.proofs.Parts.{spelled}
use Rattle.laws.proofs.Tests.{and_l, and_r, impossible, within_lo, within_hi, within_i}
use Rattle.header.specs.Header.{is_origin, is_event, is_sender_byte, is_sender, Alert}
use Rattle.header.specs.Answers.{counted, alert_in, fields_of}
use Rattle.header.specs.declared.Fields.{Fields}
use Rattle.header.proofs.Callers.{Allowed}
use Rattle.header.proofs.Says.{counted_length, counted_take}
use Rattle.c_words.specs.Words.{numbers_of, front_words, back_words, words_of, byte_of, bytes_at, places_in, fields_in}

-- ---- bytes as words: those that a field allows are their own

-- from 1 to 255
abbrev is_byte : ℕ → Bool
is_byte x = within 1 255 x

every_more : (p q : ℕ → Bool) → ((x : ℕ) → p x ≡ true → q x ≡ true) → (l : List ℕ) → every p l ≡ true → every q l ≡ true
every_more p q f [] h = refl
every_more p q f (x ∷ l) h = rw (f x (and_l (p x) (every p l) h)) (every_more p q f l (and_r (p x) (every p l) h))

event_bytes : (l : List ℕ) → is_event l ≡ true → every is_byte l ≡ true
event_bytes = every_more (within 65 90) is_byte
    (λ x h.
    let a = within_lo 65 90 x h in
    let b = within_hi 65 90 x h in
    within_i 1 255 x (omega arith) (omega arith))

sender_bytes : (l : List ℕ) → is_sender l ≡ true → every is_byte l ≡ true
sender_bytes = every_more is_sender_byte is_byte
    (λ x h.
    let k = and_l (within 32 126 x) _ h in
    let a = within_lo 32 126 x k in
    let b = within_hi 32 126 x k in
    within_i 1 255 x (omega arith) (omega arith))

origin_bytes : (l : List ℕ) → is_origin l ≡ true → every is_byte l ≡ true
origin_bytes l h = by (same l (ascii "EAS")) refl (same l (ascii "CIV")) refl (same l (ascii "WXR")) refl (same l (ascii "PEP")) refl h
  where
    is : (w : List ℕ) → same l w ≡ true → every is_byte w ≡ true → every is_byte l ≡ true
    is w e b = rw (same_eq l w e) b

    by : (a : Bool) → same l (ascii "EAS") ≡ a → (b : Bool) → same l (ascii "CIV") ≡ b
        → (c : Bool) → same l (ascii "WXR") ≡ c → (d : Bool) → same l (ascii "PEP") ≡ d
        → a || (b || (c || (d || false))) ≡ true → every is_byte l ≡ true
    by true p b q c r d s h = is (ascii "EAS") p refl
    by false p true q c r d s h = is (ascii "CIV") q refl
    by false p false q true r d s h = is (ascii "WXR") r refl
    by false p false q false r true s h = is (ascii "PEP") s refl
    by false p false q false r false s h = impossible h

-- a byte is its word
bytes_as_they_are : (l : List ℕ) → every is_byte l ≡ true → map byte_of l ≡ l
bytes_as_they_are [] h = refl
bytes_as_they_are (x ∷ l) h =
    let b = within_hi 1 255 x (and_l (is_byte x) (every is_byte l) h) in
    let e : byte_of x ≡ x = simp (lt-ltb x 256 (omega arith)) in
    λ i. e i ∷ bytes_as_they_are l (and_r (is_byte x) (every is_byte l) h) i

front_bytes : (w l rest : List ℕ) (n : ℕ) → w ≡ l ++ rest → length l ≡ n → every is_byte l ≡ true → map byte_of (take n w) ≡ l
front_bytes w l rest n e h b = ap (λ (k : List ℕ). map byte_of (take n k)) e ∙ ap (map byte_of) (take_at l rest n h) ∙ bytes_as_they_are l b

-- and a word that gives a byte other than 0 is that byte
word_of : (l : List ℕ) → every is_byte (map byte_of l) ≡ true → map byte_of l ≡ l
word_of [] h = refl
word_of (x ∷ l) h =
    let first : is_byte (byte_of x) ≡ true = and_l (is_byte (byte_of x)) (every is_byte (map byte_of l)) h in
    let others : every is_byte (map byte_of l) ≡ true = and_r (is_byte (byte_of x)) (every is_byte (map byte_of l)) h in
    λ i. its (ltb x 256) refl first i ∷ word_of l others i
  where
    its : (b : Bool) → ltb x 256 ≡ b → is_byte (choose b x 0) ≡ true → byte_of x ≡ x
    its true e k = rw e
    its false e k = impossible k

-- ---- what is pasted of fields says those fields

module _ (a : Alert) (ok : Allowed a) (d : List ℕ) where
  abbrev f : Fields
  f = fields_of a

  abbrev tail : List ℕ
  tail = drop (0 + length (words_of f)) d

  abbrev words : List ℕ
  words = pasted d 0 (words_of f)

  abbrev third : List ℕ
  third = numbers_of f ++ (f.sender ++ (f.places ++ tail))

  words_are : words ≡ f.origin ++ (f.event ++ third)
  unfolding pasted words_of front_words back_words
  words_are = simp append_assoc

  places_long : length f.places ≡ 31
  places_long =
      let ps : List ℕ = a.places in
      length-append ps (replicate (31 - length ps) 0) ∙ omega (arith, length-replicate {A = ℕ} (31 - length ps) 0, ok.most)

  from_3 : drop 3 words ≡ f.event ++ third
  from_3 = ap (drop 3) words_are ∙ drop_at f.origin (f.event ++ third) 3 ok.origin.0

  from_6 : drop 6 words ≡ third
  from_6 = sym (drop-drop 3 3 words) ∙ ap (drop 3) from_3 ∙ drop_at f.event third 3 ok.event.0

  from_11 : drop 11 words ≡ f.sender ++ (f.places ++ tail)
  from_11 = sym (drop-drop 5 6 words) ∙ ap (drop 5) from_6

  from_19 : drop 19 words ≡ f.places ++ tail
  from_19 = sym (drop-drop 8 11 words) ∙ ap (drop 8) from_11 ∙ drop_at f.sender (f.places ++ tail) 8 ok.sender.0

  its : (k : ℕ) → get_or words (6 + k) 0 ≡ get_or third k 0
  its k = sym (get_or-drop 6 words k 0) ∙ ap (λ (l : List ℕ). get_or l k 0) from_6

  pub fields_back : fields_in words ≡ fields_of a
  unfolding fields_in places_in
  fields_back =
      let o : bytes_at 3 0 words ≡ f.origin =
      front_bytes words f.origin (f.event ++ third) 3 words_are ok.origin.0 (origin_bytes f.origin ok.origin.1) in
      let e : bytes_at 3 3 words ≡ f.event = front_bytes (drop 3 words) f.event third 3 from_3 ok.event.0 (event_bytes f.event ok.event.1) in
      let s : bytes_at 8 11 words ≡ f.sender =
      front_bytes (drop 11 words) f.sender (f.places ++ tail) 8 from_11 ok.sender.0 (sender_bytes f.sender ok.sender.1) in
      let p : take 31 (drop 19 words) ≡ f.places = ap (take 31) from_19 ∙ take_at f.places tail 31 places_long in
      λ i. record {
        origin = o i;
        event = e i;
        places = p i;
        count = its 0 i;
        duration = its 1 i;
        day = its 2 i;
        hour = its 3 i;
        minute = its 4 i;
        sender = s i;
      }

-- ---- fields that a text can say are their words

module _ (w : List ℕ) (long : 50 ≤ length w) where
  abbrev n : ℕ
  n = get_or w 6 0

  module _ (ok : Allowed (alert_in (fields_in w))) where
    few : n ≤ 31
    unfolding fields_in
    few = omega (arith, ok.most, counted_length (places_in w) n)

    abbrev zeros : List ℕ
    zeros = replicate (31 - n) 0

    -- the parts of the first 19 + n words, put together
    together : ((take 3 w ++ take 3 (drop 3 w)) ++ (n ∷ get_or w 7 0 ∷ get_or w 8 0 ∷ get_or w 9 0 ∷ get_or w 10 0 ∷ []))
        ++ (take 8 (drop 11 w) ++ (take n (drop 19 w) ++ zeros)) ≡ take (19 + n) w ++ zeros
    together =
        let numbers : List ℕ = n ∷ get_or w 7 0 ∷ get_or w 8 0 ∷ get_or w 9 0 ∷ get_or w 10 0 ∷ [] in
        let five : take 5 (drop 6 w) ≡ numbers = spelled w 6 4 (omega arith) in
        let eleven : (take 3 w ++ take 3 (drop 3 w)) ++ numbers ≡ take 11 w = (λ i. sym (take-add 3 3 w) i ++ sym five i) ∙ sym (take-add 6 5 w) in
        let nineteen : ((take 3 w ++ take 3 (drop 3 w)) ++ numbers) ++ take 8 (drop 11 w) ≡ take 19 w =
        ap (λ (l : List ℕ). l ++ take 8 (drop 11 w)) eleven ∙ sym (take-add 11 8 w) in
        sym (append_assoc ((take 3 w ++ take 3 (drop 3 w)) ++ numbers) (take 8 (drop 11 w)) (take n (drop 19 w) ++ zeros))
        ∙ ap (λ (l : List ℕ). l ++ (take n (drop 19 w) ++ zeros)) nineteen
        ∙ sym (append_assoc (take 19 w) (take n (drop 19 w)) zeros)
        ∙ ap (λ (l : List ℕ). l ++ zeros) (sym (take-add 19 n w))

    pub words_back : words_of (fields_of (alert_in (fields_in w))) ≡ take (19 + n) w ++ zeros
    unfolding words_of front_words back_words fields_in places_in
    words_back =
        let o : bytes_at 3 0 w ≡ take 3 w = word_of (take 3 w) (origin_bytes (bytes_at 3 0 w) ok.origin.1) in
        let e : bytes_at 3 3 w ≡ take 3 (drop 3 w) = word_of (take 3 (drop 3 w)) (event_bytes (bytes_at 3 3 w) ok.event.1) in
        let s : bytes_at 8 11 w ≡ take 8 (drop 11 w) = word_of (take 8 (drop 11 w)) (sender_bytes (bytes_at 8 11 w) ok.sender.1) in
        let l : length (places_in w) ≡ 31 = length-take-le 31 (drop 19 w) (omega (arith, length-drop 19 w)) in
        let p : counted (places_in w) n ≡ take n (drop 19 w) = counted_take (places_in w) n (omega (arith, few)) ∙ take-take n 31 (drop 19 w) few in
        let c : length (counted (places_in w) n) ≡ n = counted_length (places_in w) n in
        (λ i. ((o i ++ e i) ++ (c i ∷ get_or w 7 0 ∷ get_or w 8 0 ∷ get_or w 9 0 ∷ get_or w 10 0 ∷ [])) ++ (s i ++ (p i ++ replicate (31 - c i) 0))) ∙ together
