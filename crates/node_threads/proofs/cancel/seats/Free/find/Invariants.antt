use Rattle.std.proofs.Common.{◌≡◌, ◌<◌, ℕ, slice_index_or}
use Rattle.node_threads.proofs.cancel.seats.Free.find.Given as goal

-- none of the seats so far is taken for this
abbrev pub invariant-loop-place : goal.invariant-loop-place
invariant-loop-place l = (k : ℕ) → k < l.place
    → slice_index_or l.self.taken.items k l.purpose ≡ l.purpose → ⊥
