use Rattle.std.proofs.Common.{sym}
use Rattle.world.proofs.Possible.{ticket_node}
use Rattle.world.proofs.state.State.broken.Goals as goal

pub failed-reply-requires : goal.failed-reply-requires
failed-reply-requires c =
    let f = rw (← c.self.view_is) at c.requires in
    rw c.node.ensures record { has = ticket_node _ f _ c.in-Some.connection (sym c.in-Some.ensures) }
