use Rattle.std.proofs.Common.{◌≡◌, ℕ, List, Option, None, Some, ◌+◌, ◌*◌, length}
use Rattle.session_io.specs.Progress.{HandedOut}
use Rattle.session_io.proofs.session.replies.hand_out.Given as goal

-- what was handed out so far, and the session as it was
abbrev pub invariant-loop-status : goal.invariant-loop-status
invariant-loop-status l = ((limit : ℕ) (stream written : List ℕ)
    → HandedOut limit stream written l.fn.place l.fn.flow
    → HandedOut limit stream written l.place l.flow)
    × (l.session ≡ l.fn.session)

abbrev in_frame : Option ℕ → ℕ
in_frame None = 0
in_frame (Some left) = 1

-- a head and a part take bytes, and a tail ends a frame
abbrev pub decreases-loop-status : goal.decreases-loop-status
decreases-loop-status l = 2 * length l.flow.bytes + in_frame l.flow.left
