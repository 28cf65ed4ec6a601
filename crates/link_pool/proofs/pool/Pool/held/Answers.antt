use Rattle.std.proofs.Common.{◌≡◌, ◌<◌, ℕ, Some, IfNone, length, slice_get, sym, ap, subst, ◌∙◌}
use Rattle.std.proofs.lemmas.Bool.{ltb-true}
use Rattle.link_pool.specs.PoolStep.{StaleLease}
use Rattle.link_pool.proofs.Changes.{was_read}
use Rattle.link_pool.proofs.Entries.{stale_seen}
use Rattle.link_pool.proofs.pool.Pool.held.Goals as goal

pub returns-clause-stale : goal.returns-clause-stale
returns-clause-stale g c =
    let lease = c.args.lease.now in
    let pools = c.self.inside.pools.items in
    let found = c.in-Some.ensures.lookup in
    let within : c.get.result < length c.deref.result.now = ltb-true c.get.result (length c.deref.result.now) (sym found.0) in
    let read = was_read c.deref.result.now c.get.result lease.at.database c.in-Some.pool.now c.get.ensures within found.1 in
    let there : slice_get pools lease.at.database ≡ Some c.in-Some.pool.now = ap (λ ps. slice_get ps lease.at.database) (sym c.deref.ensures.value) ∙ read in
    subst (λ w. IfNone c.held.result (StaleLease lease w.view)) c.self.view_is (stale_seen c.self.inside lease c.in-Some.pool.now c.held.result there c.held.ensures.stale)
