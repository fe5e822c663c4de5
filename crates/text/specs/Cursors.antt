-- What the cursor's methods answer. The legend:
--
--   dated_row, timed_row, parted_row, zoned_row   what was read, as a row of numbers
--   dated_to, timed_to, parted_to, zoned_to n r   the next cursor stands at n; of a refusal nothing is said
--   joined_to s at r             a `T` stands at `at`, and the next cursor behind it; of a refusal, that none stands there
use Rattle.std.specs.Prelude.{◌≡◌, ℕ, ◌+◌, List, [], ◌∷◌, Bool, true, false, slice_index, Option, Some, None}
use Rattle.format.specs.Words.{Outcome, accepted, refused}
use Rattle.format.specs.Fields.{Field, digits, after, when}
use Rattle.calendar.specs.declared.Date.{Date}
use Rattle.text.specs.declared.cursor.Cursor.{Cursor}
use Rattle.text.specs.declared.parts.Zone.{Zone}
use Rattle.text.specs.Parts.{minus_of}

abbrev pub dated_row : Option (Date × Cursor) → Outcome (List ℕ)
dated_row (Some (x, c)) = accepted (x.year ∷ x.month ∷ x.day ∷ [])
dated_row None = refused 6

abbrev pub timed_row : Option (ℕ × ℕ × ℕ × Cursor) → Outcome (List ℕ)
timed_row (Some (h, m, n, c)) = accepted (h ∷ m ∷ n ∷ [])
timed_row None = refused 6

abbrev pub parted_row : Option (ℕ × Cursor) → Outcome (List ℕ)
parted_row (Some (u, c)) = accepted (u ∷ [])
parted_row None = refused 6

abbrev pub zoned_row : Option (Zone × Cursor) → Outcome (List ℕ)
zoned_row (Some (x, c)) = accepted (minus_of x.minus ∷ x.hours ∷ x.minutes ∷ [])
zoned_row None = refused 6

abbrev pub dated_to : ℕ → Option (Date × Cursor) → Type 0
dated_to n (Some (x, c)) = c.at ≡ n
dated_to n None = Unit {0}

abbrev pub timed_to : ℕ → Option (ℕ × ℕ × ℕ × Cursor) → Type 0
timed_to n (Some (h, m, s, c)) = c.at ≡ n
timed_to n None = Unit {0}

abbrev pub parted_to : ℕ → Option (ℕ × Cursor) → Type 0
parted_to n (Some (u, c)) = c.at ≡ n
parted_to n None = Unit {0}

abbrev pub zoned_to : ℕ → Option (Zone × Cursor) → Type 0
zoned_to n (Some (x, c)) = c.at ≡ n
zoned_to n None = Unit {0}

abbrev pub joined_to : List ℕ → ℕ → Option Cursor → Type 0
joined_to s at (Some c) = (slice_index s at ≡ 84) × (c.at ≡ at + 1)
joined_to s at None = slice_index s at ≡ 84 → ⊥

-- the same where the `T` stands only if b holds
abbrev pub joint_by : Bool → List ℕ → ℕ → Option Cursor → Type 0
joint_by true s at r = joined_to s at r
joint_by false s at (Some c) = c.at ≡ at
joint_by false s at None = ⊥

-- hour, minute and second where a kind has them
abbrev pub pairs_by : Bool → List Field
pairs_by b = when b (digits 2) ∷ when b (after 58 2) ∷ when b (after 58 2) ∷ []
