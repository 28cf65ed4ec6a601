-- The invariant of the fields of a seat (internal).
use Rattle.std.specs.Prelude.{◌≡◌, []}
use Rattle.stat_board.specs.Counts.{IsWithin}
use Rattle.stat_board.specs.Seats.{SeatView}
use Rattle.stat_board.specs.declared.seat.BoardSeat.TheInside.{Inside}

-- a seat by its fields
abbrev pub seat_of : Inside → SeatView
seat_of s = record {
  board = s.place.table_id;
  allowance = s.allowance;
  counts = s.counts;
  readings = s.readings;
}

-- its fields agree with the notes of its place at the board
pub record IsSeat (s : Inside) : Type 0 where
  pub empty : s.place.me.1 ≡ []
  pub allowance : s.place.me.0.allowance ≡ s.allowance
  pub counts : s.place.me.0.counts ≡ s.counts
  pub readings : s.place.me.0.readings ≡ s.readings
  pub within : IsWithin s.place.me.0
