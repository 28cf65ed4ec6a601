use Rattle.session_io.proofs.AboveLemmas.{found_between}
use Rattle.session_io.proofs.session.above.next_above.Goals as goal

pub returns : goal.returns
returns c =
    found_between c.args.flow.now c.next.follows.lender-at-none c.next.result c.limit.result
    c.pending.result.now c.length_above.result c.next.follows.holds-at-none c.if-is_some.ensures
    c.limit.ensures c.pending.ensures c.length_above.ensures
