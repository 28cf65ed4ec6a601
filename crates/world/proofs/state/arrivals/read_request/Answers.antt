use Rattle.std.proofs.Common.{Ok, Err}
use Rattle.world.proofs.Orders.{no_request, no_key, reads_from}
use Rattle.world.proofs.state.arrivals.read_request.Goals as goal

pub returns-in-Ok-clause-other : goal.returns-in-Ok-clause-other
returns-in-Ok-clause-other c =
    no_key c.args.bytes.now c.in-Ok.first c.key_of.result c.key_of.ensures.none
    (reads_from c.new.result c.as_slice.result.now c.args.bytes.now (Ok c.in-Ok.first) c.new.ensures c.as_slice.ensures c.in-Ok.ensures.only)

pub returns-in-Err-clause-other : goal.returns-in-Err-clause-other
returns-in-Err-clause-other c =
    no_request c.args.bytes.now (Err c.in-Err.field-0) (λ key same. absurd (cc))
    (reads_from c.new.result c.as_slice.result.now c.args.bytes.now (Err c.in-Err.field-0) c.new.ensures c.as_slice.ensures c.in-Err.ensures.only)
