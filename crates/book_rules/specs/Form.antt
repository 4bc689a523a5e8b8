-- Paper 01, "The book": the second word of a record, client × 64 + wish.
-- A form is a value, so that two forms can stand side by side.
use Rattle.std.specs.Prelude.{ℕ, ◌+◌, ◌*◌, ◌/◌, ◌%◌, ◌≤◌, Bool, true, ◌&&◌, not, ◌≡◌}
use Rattle.laws.specs.Numbers.{within}

pub record Form : Type 0 where
  -- the client and the wish that a second word says
  pub who : ℕ → ℕ
  pub wish : ℕ → ℕ
  -- the second word of a client and a wish
  pub made : ℕ → ℕ → ℕ
  -- a second word that may stand
  pub fine : ℕ → Bool

-- client 1 to 9,999; a wish is 1 to 63
unfoldable pub bad_client : ℕ → Bool
bad_client client = not (within 1 9999 client)

unfoldable pub bad_wish : ℕ → Bool
bad_wish wish = not (within 1 63 wish)

-- client × 64 + wish
unfoldable pub client_and_wish : Form
client_and_wish = record {
  who = λ m. m / 64;
  wish = λ m. m % 64;
  made = λ client wish. client * 64 + wish;
  fine = λ m. within 1 9999 (m / 64) && within 1 63 (m % 64);
}

-- what a form has to keep: a client and a wish in range are read back, and a fine word is that of its client and wish
pub record FormLaws (f : Form) : Type 0 where
  pub who_made : (client wish : ℕ) → wish ≤ 63 → f.who (f.made client wish) ≡ client
  pub wish_made : (client wish : ℕ) → wish ≤ 63 → f.wish (f.made client wish) ≡ wish
  pub made_fine : (client wish : ℕ) → 1 ≤ client → client ≤ 9999 → 1 ≤ wish → wish ≤ 63 → f.fine (f.made client wish) ≡ true
  pub fine_made : (m : ℕ) → f.fine m ≡ true → f.made (f.who m) (f.wish m) ≡ m
  pub fine_who : (m : ℕ) → f.fine m ≡ true → (1 ≤ f.who m) × (f.who m ≤ 9999)
  pub fine_wish : (m : ℕ) → f.fine m ≡ true → (1 ≤ f.wish m) × (f.wish m ≤ 63)

-- the form that is in use
unfoldable pub form : Form
form = client_and_wish
