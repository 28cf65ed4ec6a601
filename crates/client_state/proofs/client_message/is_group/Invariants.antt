use Rattle.std.proofs.Common.{◌-◌, length}
use Rattle.client_state.proofs.RequestLemmas.{SoFar}
use Rattle.client_state.proofs.client_message.is_group.Given as goal

-- what stands before the place is gathered
abbrev pub invariant-messages : goal.invariant-messages
invariant-messages l = SoFar l.fn.limit l.fn.bytes l.at

-- each message takes bytes
abbrev pub decreases-messages : goal.decreases-messages
decreases-messages l = length l.fn.bytes - l.at
