use Rattle.std.proofs.Common.{rules, ◌≡◌, Some, length, arith, vec_len}
use Rattle.std.proofs.lemmas.Option.{slice_get_within}
use Rattle.node_core.specs.ViewOf.{node_of}
use Rattle.node_core.proofs.Clients.{entry_of, left_view}
use Rattle.node_core.proofs.node.NodeCore.leave.Goals as goal

pub retire-requires : goal.retire-requires
retire-requires g c =
    let there = rw (← c.self.view_is) at c.in-Some.ensures.found.there in
    rw c.slot-slot.ensures (entry_of _ _ _ _ c.self.invariant.live there)

pub index_mut-requires : goal.index_mut-requires
index_mut-requires g c =
    let there = rw (← c.self.view_is) at c.in-Some.ensures.found.there in
    let clients = (node_of c.self.inside).view.clients in
    let within = slice_get_within clients _ (Some c.in-Some._client) there in
    let len : vec_len c.self.inside.clients ≡ length c.self.inside.clients.items = search rules in
    let same = c.get.ensures in
    omega (arith, within, len, same)

pub invariant_of-self-in-Left : goal.invariant_of-self-in-Left
invariant_of-self-in-Left g c =
    let there = rw (← c.self.view_is) at c.in-Some.ensures.found.there in
    let step = rw c.slot-slot.ensures at c.in-Left.ensures.step in
    let freed = rw c.slot-slot.ensures at c.retire.ensures in
    rw (c.get.ensures, c.slot-slot.ensures)
    (left_view _ _ _ _ _ c.self.invariant there step.0 step.1 freed.freed freed.next)
