-- Calls counted by their kind, with the sums of their numbers modulo 2^128 (own).
use Rattle.std.specs.Prelude.{ℕ, ◌≡◌, ◌+◌, ◌%◌, ◌^◌, ◌==◌, Bool, List, [], ◌∷◌, slice_index, slice_range, slice_index_or, if◌then◌else◌, count_by, sum_by}
use Rattle.node_core.specs.declared.exchange.Exchange.{Exchange}
use Rattle.locked_node.specs.CallNumbers.{kind_of, index_of, numbers_of}
use Rattle.locked_node.specs.declared.tally.TheConstants.{START}
use Rattle.locked_node.specs.declared.tally.Tally.{Tally}
use Rattle.locked_node.specs.declared.call_note.CallNote.{CallNote}

-- whether a call is of the kind at this place
abbrev pub is_of : ℕ → Exchange → Bool
is_of kind call = index_of (kind_of call) == kind

-- how many of these calls are of the kind
abbrev pub calls_in : ℕ → List Exchange → ℕ
calls_in kind calls = count_by (is_of kind) calls

-- the number at this position of a call of the kind, and 0 of another call
abbrev pub number_at : ℕ → ℕ → Exchange → ℕ
number_at kind position call = if is_of kind call then slice_index (numbers_of call) position else 0

-- the sum of the numbers at this position of these calls of the kind
abbrev pub sum_in : ℕ → ℕ → List Exchange → ℕ
sum_in kind position calls = sum_by (number_at kind position) calls

-- the calls of one kind: how many they are, and the sums of their numbers by position, modulo 2^128
pub record Row : Type 0 where
  pub calls : ℕ
  pub sums : List ℕ

-- The rows in these cells that begin at these places, each a count and then its sums. At the last
-- place they end.
abbrev pub rows_in : List ℕ → List ℕ → List Row
rows_in [] cells = []
rows_in (from ∷ []) cells = []
rows_in (from ∷ to ∷ places) cells =
    record { calls = slice_index cells from; sums = slice_range cells (from + 1) to }
    ∷ rows_in (to ∷ places) cells

-- what a tally says of each kind
unfoldable pub rows : Tally → List Row
rows tally = rows_in START tally.cells

-- what a tally says of a kind
abbrev pub row_at : Tally → ℕ → Row
row_at tally kind = slice_index_or (rows tally) kind (record { calls = 0; sums = [] })

-- a tally's count of the calls of a kind
abbrev pub calls_at : Tally → ℕ → ℕ
calls_at tally kind = (row_at tally kind).calls

-- a tally's sum of their numbers at a position
abbrev pub sum_at : Tally → ℕ → ℕ → ℕ
sum_at tally kind position = slice_index (row_at tally kind).sums position

-- a tally's count of all calls
abbrev pub all_calls : Tally → ℕ
all_calls tally = sum_by (λ row. row.calls) (rows tally)

-- equal modulo 2^128
abbrev pub SameSum : ℕ → ℕ → Type 0
SameSum a b = a % 2 ^ 128 ≡ b % 2 ^ 128

-- this was noted of a call: its kind and its numbers
pub record IsCountOf (call : Exchange) (note : CallNote) : Type 0 where
  pub kind : note.kind ≡ kind_of call
  pub numbers : note.numbers ≡ numbers_of call

-- a tally of no call
pub record IsEmpty (tally : Tally) : Type 0 where
  pub calls : (kind : ℕ) → calls_at tally kind ≡ 0
  pub sums : (kind position : ℕ) → sum_at tally kind position ≡ 0
  pub all : all_calls tally ≡ 0

-- two tallies say the same of each kind
pub record SameTotals (one other : Tally) : Type 0 where
  pub calls : (kind : ℕ) → calls_at one kind ≡ calls_at other kind
  pub sums : (kind position : ℕ) → SameSum (sum_at one kind position) (sum_at other kind position)
  pub all : all_calls one ≡ all_calls other

-- one more call is counted, and its numbers are added
pub record Counts (old : Tally) (call : Exchange) (new : Tally) : Type 0 where
  pub calls : (kind : ℕ)
      → calls_at new kind ≡ calls_at old kind + (if is_of kind call then 1 else 0)
  pub sums : (kind position : ℕ)
      → SameSum (sum_at new kind position) (sum_at old kind position + number_at kind position call)
  pub all : all_calls new ≡ all_calls old + 1

-- two tallies are added up
pub record AddsUp (one other both : Tally) : Type 0 where
  pub calls : (kind : ℕ) → calls_at both kind ≡ calls_at one kind + calls_at other kind
  pub sums : (kind position : ℕ)
      → SameSum (sum_at both kind position) (sum_at one kind position + sum_at other kind position)
  pub all : all_calls both ≡ all_calls one + all_calls other
