-- Paper 01, "The book": its rules, word by word.
use Rattle.std.specs.Prelude.{ℕ, ◌+◌, ◌-◌, ◌*◌, Bool, ◌&&◌, ◌||◌, List, [], ◌∷◌, ◌++◌, length, get_or, replicate, leb, ltb, eqb}
use Rattle.laws.specs.Lists.{all, table, tally}
use Rattle.laws.specs.Numbers.{within}
use Rattle.place.specs.FirstWord.{state_of}
use Rattle.book_rules.specs.Form.{Form}

-- a record is two words: SS × 10,000 + CCC × 10 + P, and what the form makes of client and wish
pub record Rec : Type 0 where
  pub first : ℕ
  pub second : ℕ

-- SS of a record
abbrev pub rec_state : Rec → ℕ
rec_state r = state_of r.first

-- (first word, client) of one record is below that of another
unfoldable pub pair_below : Form → Rec → Rec → Bool
pair_below f r q = ltb r.first q.first || (eqb r.first q.first && ltb (f.who r.second) (f.who q.second))

-- ---- the words of a book

-- word 100 the total
abbrev pub total : List ℕ → ℕ
total w = get_or w 100 0

-- after words 0 to 100, records of two words
abbrev pub rec_at : List ℕ → ℕ → Rec
rec_at w i = record { first = get_or w (101 + 2 * i) 0; second = get_or w (102 + 2 * i) 0 }

unfoldable pub recs : List ℕ → List Rec
recs w = table (total w) (rec_at w)

-- how many of some records have SS below s
unfoldable pub below : List Rec → ℕ → ℕ
below records s = tally (λ r. ltb (rec_state r) s) records

-- ---- the rules; n is the total

-- word s is the number of records with SS below s
unfoldable pub counts_right : List ℕ → ℕ → Bool
counts_right w n = all 101 (λ s. eqb (get_or w s 0) (below (table n (rec_at w)) s))

-- SS is 1 to 99, client 1 to 9,999, wish 1 to 63
unfoldable pub ok_rec : Form → Rec → Bool
ok_rec f r = within 1 99 (rec_state r) && f.fine r.second

unfoldable pub records_right : Form → List ℕ → ℕ → Bool
records_right f w n = all n (λ i. ok_rec f (rec_at w i))

-- strictly rising order of (first word, client)
unfoldable pub rising : Form → List ℕ → ℕ → Bool
rising f w n = all (n - 1) (λ i. pair_below f (rec_at w i) (rec_at w (i + 1)))

-- unused records are zero
unfoldable pub unused_zero : List ℕ → ℕ → Bool
unused_zero w n = all (8192 - 2 * n) (λ j. eqb (get_or w (101 + 2 * n + j) 0) 0)

-- 8,293 words: 101 counts and 4,096 records of two words; a book that keeps every rule
unfoldable pub good : Form → List ℕ → Bool
good f w =
    eqb (length w) 8293
    && (leb (total w) 4096
    && (records_right f w (total w)
    && (rising f w (total w)
    && (counts_right w (total w)
    && unused_zero w (total w)))))

-- ---- the book that holds some records: the counts, the records' words, zeros

unfoldable pub words : List Rec → List ℕ
words [] = []
words (r ∷ records) = r.first ∷ r.second ∷ words records

unfoldable pub layout : List Rec → List ℕ
layout records = table 101 (below records) ++ (words records ++ replicate (8192 - 2 * length records) 0)

-- an empty book is all zeros
abbrev pub empty : List ℕ
empty = replicate 8293 0
