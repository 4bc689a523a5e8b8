-- Paper 01, "Numbers and what they leave": an addition and a removal, as checks in order and then an effect on the book.
use Rattle.std.specs.Prelude.{ℕ, Bool, not, ◌&&◌, List, [], ◌∷◌, ◌++◌, length, take, drop, leb, eqb}
use Rattle.laws.specs.Order.{Said, granted, refused, Row, ◌when◌, in_order}
use Rattle.laws.specs.Lists.{some, tally, keep}
use Rattle.place.specs.FirstWord.{first_word, bad_place}
use Rattle.book_rules.specs.Form.{Form, bad_client, bad_wish}
use Rattle.book_rules.specs.Rules.{Rec, pair_below, recs, good, layout}

-- ---- what the conditions ask

-- the record of a subscription
abbrev pub rec_of : Form → ℕ → ℕ → ℕ → Rec
rec_of f place client wish = record { first = first_word place; second = f.made client wish }

-- it is for this place and this client, whatever its wish
abbrev pub is_for : Form → ℕ → ℕ → Rec → Bool
is_for f place client r = eqb r.first (first_word place) && eqb (f.who r.second) client

unfoldable pub stands : Form → ℕ → ℕ → List Rec → Bool
stands f place client records = some (is_for f place client) records

-- 4,096 stand
unfoldable pub full : List Rec → Bool
full records = leb 4096 (length records)

-- ---- rows that several calls share

-- the book is good
abbrev pub book_row : {A : Type 0} → Form → List ℕ → List (Row (Said A))
book_row f w = refused 16 when not (good f w) ∷ []

-- the client is one
abbrev pub client_row : {A : Type 0} → ℕ → List (Row (Said A))
client_row client = refused 17 when bad_client client ∷ []

-- the place is one that a book takes
abbrev pub place_row : {A : Type 0} → ℕ → List (Row (Said A))
place_row place = refused 18 when bad_place place ∷ []

-- ---- the rows of an edit after 16, for book and history alike: by whether the pair of place and client stands, and whether 4,096 stand

-- an addition: 17, 18, 19, 20, 22
abbrev pub adding_rows : ℕ → ℕ → ℕ → Bool → Bool → List (Row (Said (Unit {0})))
adding_rows place client wish alreadyStands fullBook =
    client_row client
    ++ (place_row place
    ++ (refused 19 when bad_wish wish
    ∷ refused 20 when alreadyStands
    ∷ refused 22 when fullBook
    ∷ []))

-- a removal: 17, 18, 21
abbrev pub removing_rows : ℕ → ℕ → Bool → List (Row (Said (Unit {0})))
removing_rows place client itStands =
    client_row client
    ++ (place_row place
    ++ (refused 21 when not itStands
    ∷ []))

-- ---- an addition: 16, 17, 18, 19, 20, 22

abbrev pub add_rows : Form → List ℕ → ℕ → ℕ → ℕ → List (Row (Said (Unit {0})))
add_rows f w place client wish = book_row f w ++ adding_rows place client wish (stands f place client (recs w)) (full (recs w))

unfoldable pub add_says : Form → List ℕ → ℕ → ℕ → ℕ → Said (Unit {0})
add_says f w place client wish = in_order (add_rows f w place client wish) (granted tt)

-- how many records are below it in the order of (first word, client); a record put in after those
unfoldable pub ahead : Form → List Rec → Rec → ℕ
ahead f records r = tally (λ q. pair_below f q r) records

unfoldable pub insert : Form → Rec → List Rec → List Rec
insert f r records = take (ahead f records r) records ++ (r ∷ drop (ahead f records r) records)

unfoldable pub added : Form → ℕ → ℕ → ℕ → List ℕ → List ℕ
added f place client wish w = layout (insert f (rec_of f place client wish) (recs w))

-- ---- a removal: 16, 17, 18, 21

abbrev pub remove_rows : Form → List ℕ → ℕ → ℕ → List (Row (Said (Unit {0})))
remove_rows f w place client = book_row f w ++ removing_rows place client (stands f place client (recs w))

unfoldable pub remove_says : Form → List ℕ → ℕ → ℕ → Said (Unit {0})
remove_says f w place client = in_order (remove_rows f w place client) (granted tt)

-- all records but those for this place and client
unfoldable pub without : Form → ℕ → ℕ → List Rec → List Rec
without f place client records = keep (λ r. not (is_for f place client r)) records

unfoldable pub removed : Form → ℕ → ℕ → List ℕ → List ℕ
removed f place client w = layout (without f place client (recs w))
