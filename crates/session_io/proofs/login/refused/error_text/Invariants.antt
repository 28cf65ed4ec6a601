use Rattle.std.proofs.Common.{◌-◌, length}
use Rattle.session_io.proofs.RefusedLemmas.{ReadsSo}
use Rattle.session_io.proofs.login.refused.error_text.Given as goal

-- so far the beginning and what was read behind it are told
abbrev pub invariant-text : goal.invariant-text
invariant-text g l = ReadsSo g.L.WriteCalls.wrote g.L.ReadCalls.gave l.fn.stream l.begun l.wanted
    l.text.items l.stream

abbrev pub decreases-text : goal.decreases-text
decreases-text g l = l.wanted - length l.text.items
