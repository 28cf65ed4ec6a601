-- The invariant of a board of counters (own): each counter equals what the seats together have
-- counted, counters and allowances make 2^63, and no last reading is above its counter.
use Rattle.std.specs.Prelude.{ℕ, ◌≡◌, ◌+◌, ◌-◌, ◌/◌, ◌^◌, ◌≤◌, length, sum, sum_by, slice_index, slice_set}
use mathlib.Core.Option.{some}
use lib.ListN.{get_elem?}
use Rattle.atomic_table.specs.Table.{State, Me, Step}
use Rattle.stat_board.specs.declared.note.Note.{Note}
use Rattle.stat_board.specs.Rows.{NOTHING, added, greatest, raised}

-- what all seats of a board may count
abbrev pub BOARD_LIMIT : ℕ
BOARD_LIMIT = 2 ^ 63

-- The rule of a board, between any two of its steps.
pub record IsCounted {S : Type 0} (s : State S Note) : Type 0 where
  pub words : length s.words ≡ 8
  -- each word is the sum of the seats' own counts
  pub counted : (place : ℕ)
      → slice_index s.words place ≡ sum_by (λ seat. slice_index seat.counts place) s.views
  -- words and allowances together make 2^63
  pub whole : sum s.words + sum_by (λ seat. seat.allowance) s.views ≡ BOARD_LIMIT
  -- no seat's last reading is above the word
  pub read : (id : ℕ) (seat : Note) → get_elem? s.views id ≡ some seat
      → (place : ℕ) → slice_index seat.readings place ≤ slice_index s.words place

-- the first seat may count everything
abbrev pub first_note : Note
first_note = record { allowance = BOARD_LIMIT; counts = NOTHING; readings = NOTHING }

-- a seat counted one more at this place
abbrev pub counted_at : Note → ℕ → Note
counted_at seat place = record seat {
  allowance = seat.allowance - 1;
  counts = raised seat.counts place;
}

-- a seat read this word at this place
abbrev pub noted : Note → ℕ → ℕ → Note
noted seat place word = record seat { readings = slice_set seat.readings place word }

-- a seat hands over half of its allowance, rounded down, and nothing else
abbrev pub handing : Note → Note
handing seat = record seat { allowance = seat.allowance - seat.allowance / 2 }

-- the new seat has counted nothing, and knows the same readings
abbrev pub handed : Note → Note
handed seat = record { allowance = seat.allowance / 2; counts = NOTHING; readings = seat.readings }

-- two seats are one
abbrev pub united : Note → Note → Note
united seat other = record {
  allowance = seat.allowance + other.allowance;
  counts = added seat.counts other.counts;
  readings = greatest seat.readings other.readings;
}

-- what is left of a seat that was joined to another
abbrev pub nobody : Note
nobody = record { allowance = 0; counts = NOTHING; readings = NOTHING }

-- what a seat may count and has counted is within the limit
abbrev pub IsWithin : Note → Type 0
IsWithin seat = seat.allowance + sum seat.counts ≤ BOARD_LIMIT

module _ {S : Type 0} where
  -- after the step that raises a word, its seat has counted there
  abbrev pub raising : Step S → Me S Note → ℕ → Me S Note → Type 0
  raising st before found after = after ≡ (counted_at before.0 st.word, before.1)

  -- the step that reads a word: it is at least what the seat counted or read there, and leaves room
  -- for what the seat may count.
  pub record Looks (st : Step S) (before : Me S Note) (found : ℕ) (after : Me S Note) : Type 0 where
    pub noted : after ≡ (noted before.0 st.word found, before.1)
    pub counted : slice_index before.0.counts st.word ≤ found
    pub read : slice_index before.0.readings st.word ≤ found
    pub most : found + before.0.allowance ≤ BOARD_LIMIT

  -- by a step a seat learns that its numbers are within the limit
  abbrev pub weighing : Step S → Me S Note → ℕ → Me S Note → Type 0
  weighing st before found after = (after ≡ before) × IsWithin before.0
