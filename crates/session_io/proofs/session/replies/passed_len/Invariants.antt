use Rattle.std.proofs.Common.{◌≤◌, ◌-◌, [], length}
use Rattle.session_io.specs.declared.session.place.Place.TheVariants.{Between}
use Rattle.session_io.specs.Progress.{HandedOut}
use Rattle.session_io.proofs.RunLemmas.{scanned}
use Rattle.session_io.proofs.session.replies.passed_len.Given as goal

-- so far there are whole frames that are passed on
abbrev pub invariant-loop-head : goal.invariant-loop-head
invariant-loop-head l = (l.at ≤ length l.bytes)
    × HandedOut l.limit l.bytes [] Between (scanned l.limit l.bytes l.at)

-- each frame takes bytes
abbrev pub decreases-loop-head : goal.decreases-loop-head
decreases-loop-head l = length l.bytes - l.at
