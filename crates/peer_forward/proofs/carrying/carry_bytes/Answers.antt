use Rattle.peer_forward.proofs.CarryingLemmas.{carried_whole, carried_not}
use Rattle.peer_forward.proofs.carrying.carry_bytes.Goals as goal

pub returns-then-write_whole : goal.returns-then-write_whole
returns-then-write_whole g c =
    let wrote = c.if-write_whole.ensures.writes in
    let read = c.await_end.ensures in
    carried_whole _ _ _ _ _ c.args.bytes.now wrote.0 read.0 read.1 c.await_end.result wrote.1
    wrote.2
    read.2 read.3 read.4

pub returns-else-write_whole : goal.returns-else-write_whole
returns-else-write_whole g c =
    let wrote = c.if-write_whole.ensures.writes in
    carried_not _ _ _ _ c.args.bytes.now wrote.0 wrote.1 wrote.2
