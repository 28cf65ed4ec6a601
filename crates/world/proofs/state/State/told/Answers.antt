use Rattle.std.proofs.Common.{sym}
use Rattle.world.proofs.Possible.{ticket_node}
use Rattle.world.proofs.state.State.told.Goals as goal

pub ended-reply-requires : goal.ended-reply-requires
ended-reply-requires c =
    let f = rw (← c.self.view_is) at c.requires in
    rw c.node.ensures record { has = ticket_node _ f _ c.in-Some.connection (sym c.in-Some.ensures) }
