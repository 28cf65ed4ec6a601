use Rattle.std.proofs.Common.{rules, ◌≡◌, None, length, arith, vec_len, sym}
use Rattle.std.proofs.lemmas.Option.{slice_get_within}
use Rattle.node_core.specs.ViewOf.{node_of}
use Rattle.node_core.proofs.Clients.{free_client, joined_view}
use Rattle.node_core.proofs.node.NodeCore.join.Goals as goal

pub index_mut-requires : goal.index_mut-requires
index_mut-requires g c =
    let node = (node_of c.self.inside).view in
    let slot = c.in-Some.slot in
    let nobody = free_client node.keys.entries node.clients slot c.self.invariant.live
    c.in-Some.ensures.free in
    let within = slice_get_within node.clients slot None nobody in
    let len : vec_len c.self.inside.clients ≡ length c.self.inside.clients.items = search rules in
    let same = c.get.ensures in
    omega (arith, within, len, same)

pub invariant_of-self-2 : goal.invariant_of-self-2
invariant_of-self-2 g c =
    let next = c.in-Some.ensures in
    let given = c.in-Some-give.ensures.given in
    let key = c.in-Ok.ensures in
    let known = rw (← c.self.view_is) at c.requires in
    let serial = c.advance.ensures.within c.self.invariant.numbers.1 in
    rw c.get.ensures (joined_view _ _ _ _ _ _ _ _ _ c.self.invariant next.free (sym next.value)
    key.issued key.next known given.0 given.2 (omega (arith, given), serial))
