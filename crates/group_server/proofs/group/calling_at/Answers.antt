use Rattle.std.proofs.Common.{slice_get, IfOk, subst}
use Rattle.std.specs.Option.{ForSome}
use Rattle.node_core.specs.View.{IsFresh}
use Rattle.group_server.proofs.group.calling_at.Goals as goal

pub returns-clause-fresh : goal.returns-clause-fresh
returns-clause-fresh g c = subst
    (λ boot. IfOk c.new.result (λ calling. ForSome (slice_get c.args.at.group c.args.at.place)
    (λ settings. IsFresh settings boot calling.caller.start.view)))
    c.boot_of.ensures c.new.ensures.fresh
