use Rattle.std.proofs.Common.{◌≡◌, ℕ, List, Option, None, Some, ◌+◌, ◌*◌, length}
use Rattle.session_io.specs.LoggingIn.{HasCome}
use Rattle.session_io.proofs.login.server.take_pieces.Given as goal

-- what came up to the start came up to here
abbrev pub invariant-loop-piece : goal.invariant-loop-piece
invariant-loop-piece l = ((limit : ℕ) (stream : List ℕ)
    → HasCome limit stream l.fn.place l.fn.login l.fn.flow
    → HasCome limit stream l.place l.login l.flow) × (l.flow.limit ≡ l.fn.flow.limit)

abbrev in_frame : Option ℕ → ℕ
in_frame None = 0
in_frame (Some left) = 1

-- a head and a part take bytes, and a tail ends a frame
abbrev pub decreases-loop-piece : goal.decreases-loop-piece
decreases-loop-piece l = 2 * length l.flow.bytes + in_frame l.flow.left
