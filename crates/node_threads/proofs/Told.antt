-- Replies of which only a part is reported.
use Rattle.std.proofs.Common.{ap}
use Rattle.node_core.specs.declared.exchange.Exchange.{Exchange}
use Rattle.locked_node.specs.Lock.{CallerView, Counted}

-- a counted call is counted, whatever part of its reply is reported
pub said-counted : {R Q : Type 0} (say : R → Q) (call : Exchange) (reply at_end : R)
    (old new : CallerView) → Counted call reply at_end old new
    → Counted call (say reply) (say at_end) old new
said-counted say call reply at_end old new counted = record {
  made = counted.made;
  spent = λ none. (ap say (counted.spent none).0, (counted.spent none).1);
  same = counted.same;
}
