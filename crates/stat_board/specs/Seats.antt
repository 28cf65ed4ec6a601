-- What counting, reading, splitting and joining do to a seat (own).
use Rattle.std.specs.Prelude.{ℕ, ◌≡◌, ◌+◌, ◌/◌, List, slice_set}
use Rattle.atomic_table.specs.Seated.{TableId}
use Rattle.stat_board.specs.Rows.{NOTHING, added, greatest, raised}
use Rattle.stat_board.specs.Counts.{BOARD_LIMIT}

-- A seat as clauses see it: the board that it is of, how much it may still count, what it has
-- counted by the places of the counters, and its last reading of each word.
pub record SeatView : Type 0 where
  pub board : TableId
  pub allowance : ℕ
  pub counts : List ℕ
  pub readings : List ℕ

-- a board's first seat may count everything, and has counted and read nothing
pub record IsFirst (seat : SeatView) : Type 0 where
  pub allowance : seat.allowance ≡ BOARD_LIMIT
  pub counts : seat.counts ≡ NOTHING
  pub readings : seat.readings ≡ NOTHING

-- a seat hands half of its allowance, rounded down, to a new seat without counts and with the same
-- readings
pub record Splits (old new part : SeatView) : Type 0 where
  pub board : (new.board ≡ old.board) × (part.board ≡ old.board)
  pub half : part.allowance ≡ old.allowance / 2
  pub rest : new.allowance + part.allowance ≡ old.allowance
  pub counts : (new.counts ≡ old.counts) × (part.counts ≡ NOTHING)
  pub readings : (new.readings ≡ old.readings) × (part.readings ≡ old.readings)

-- two seats of a board become one: allowances and counts are added up, and the greater readings
-- kept
pub record JoinsUp (old other new : SeatView) : Type 0 where
  pub board : new.board ≡ old.board
  pub allowance : new.allowance ≡ old.allowance + other.allowance
  pub counts : new.counts ≡ added old.counts other.counts
  pub readings : new.readings ≡ greatest old.readings other.readings

-- one more was counted at this place
pub record Raises (old : SeatView) (place : ℕ) (new : SeatView) : Type 0 where
  pub board : new.board ≡ old.board
  pub allowance : new.allowance + 1 ≡ old.allowance
  pub counts : new.counts ≡ raised old.counts place
  pub readings : new.readings ≡ old.readings

-- this word was read at this place
pub record Reads (old : SeatView) (place word : ℕ) (new : SeatView) : Type 0 where
  pub board : new.board ≡ old.board
  pub allowance : new.allowance ≡ old.allowance
  pub counts : new.counts ≡ old.counts
  pub readings : new.readings ≡ slice_set old.readings place word
