use Rattle.std.proofs.Common.{rules, ◌≡◌, arith, None, replicate}
use Rattle.link_pool.specs.PoolStep.{fresh}
use Rattle.node_core.proofs.Clients.{none_view}
use Rattle.node_core.proofs.Links.{sizes_made}
use Rattle.node_core.proofs.node.NodeCore.new.Goals as goal

pub invariant_of-result : goal.invariant_of-result
invariant_of-result g c =
    let limit = c.max_client_conn-limit.result in
    let pools = c.in_ok-pools.pools.items in
    let made : c.in_ok-links.links.view ≡ fresh c.peer_id-me.result pools limit = search rules in
    let free : c.in_ok-vec.field-0.items ≡ replicate limit None = search rules in
    let keys = c.in_ok-new.ensures in
    let first = c.new-3.ensures in
    none_view _ limit keys.peer (rw made) keys.next keys.free free (rw made)
    (rw made (sizes_made pools)) (omega (arith, first))
