use Rattle.std.proofs.Common.{◌≡◌, ◌++◌, take}
use Rattle.telemetry.specs.MetricsText.{escaped}
use Rattle.telemetry.proofs.metrics.text.put_escaped.Given as goal

-- the bytes so far stand behind what the text had
abbrev pub invariant-loop-byte : goal.invariant-loop-byte
invariant-loop-byte l =
    l.text.items ≡ l.fn.text.items ++ escaped (take l.byte-index l.value)
