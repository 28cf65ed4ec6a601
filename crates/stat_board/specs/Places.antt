-- The place of each counter on the board (own).
use Rattle.std.specs.Prelude.{ℕ}
use Rattle.stat_board.specs.declared.counter.Counter.{Counter}
use Rattle.stat_board.specs.declared.counter.Counter.TheVariants.{Spent, Unknown, NoPeer, NoLink, Forwarded, Sent, Ended, Failed}

-- the place of a counter's word
abbrev pub place_of : Counter → ℕ
place_of Spent = 0
place_of Unknown = 1
place_of NoPeer = 2
place_of NoLink = 3
place_of Forwarded = 4
place_of Sent = 5
place_of Ended = 6
place_of Failed = 7
