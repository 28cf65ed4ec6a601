use Rattle.std.proofs.Common.{◌≡◌, ◌+◌, ◌++◌, drop}
use Rattle.std.specs.String.{string_bytes}
use Rattle.world_script.specs.Outcome.{ended, event_lines}
use Rattle.world_script.proofs.outcome.write_events.Given as goal

-- what the events that are left add to the text, all of them add to the first text
abbrev pub invariant-loop-place : goal.invariant-loop-place
invariant-loop-place l =
    string_bytes l.text ++ ended (event_lines (l.place + 1) (drop l.place l.took))
    ≡ string_bytes l.fn.text ++ ended (event_lines 1 l.took)
