-- How the words of a node's board are read (own). `ReadsAll`: one after another by a seat, each of
-- them its last reading of that word from then on.
use Rattle.std.specs.Prelude.{ℕ, ◌≡◌, ◌+◌, ◌≤◌, List, [], ◌∷◌, slice_index}
use Rattle.stat_board.specs.declared.counter.Counter.{Counter}
use Rattle.stat_board.specs.declared.counter.Counter.TheVariants.{Spent, Unknown, NoPeer, NoLink, Forwarded, Sent, Ended, Failed}
use Rattle.stat_board.specs.Counts.{BOARD_LIMIT}
use Rattle.stat_board.specs.Places.{place_of}
use Rattle.stat_board.specs.Seats.{SeatView, Reads}

-- The word at this place was read by a seat: it isn't below what the seat counted or read there,
-- and leaves room for what it may count.
pub record ReadsWord (old : SeatView) (place word : ℕ) (new : SeatView) : Type 0 where
  pub read : Reads old place word new
  pub counted : slice_index old.counts place ≤ word
  pub again : slice_index old.readings place ≤ word
  pub most : word + old.allowance ≤ BOARD_LIMIT

-- the words of these counters were read, in their order
abbrev pub ReadsAll : List Counter → SeatView → List ℕ → SeatView → Type 0
ReadsAll [] old words new = (words ≡ []) × (new ≡ old)
ReadsAll (counter ∷ more) old words new = (word : ℕ) × (rest : List ℕ) × (words ≡ word ∷ rest)
    × (next : SeatView) × ReadsWord old (place_of counter) word next × ReadsAll more next rest new

-- all counters, by their places
abbrev pub counters : List Counter
counters = Spent ∷ Unknown ∷ NoPeer ∷ NoLink ∷ Forwarded ∷ Sent ∷ Ended ∷ Failed ∷ []

-- some seat read these words of its board
abbrev pub AreRead : List ℕ → Type 0
AreRead words = (old : SeatView) × (new : SeatView) × ReadsAll counters old words new
