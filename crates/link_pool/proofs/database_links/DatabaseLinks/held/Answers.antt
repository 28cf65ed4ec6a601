use Rattle.std.proofs.Common.{◌≡◌, ◌<◌, ℕ, Some, length, slice_get, sym, refl}
use Rattle.std.proofs.lemmas.Bool.{ltb-true}
use Rattle.link_pool.proofs.Changes.{was_read}
use Rattle.link_pool.proofs.database_links.DatabaseLinks.held.Goals as goal

pub returns-clause-stale : goal.returns-clause-stale
returns-clause-stale g c =
    let i : ℕ = c.args.lease.now.at.index in
    let found = c.in-Some.ensures.lookup in
    let within : i < length c.deref.result.now = ltb-true i (length c.deref.result.now) (sym found.0) in
    let there : slice_get c.deref.result.now i ≡ Some c.in-Some.entry.now = was_read c.deref.result.now i i c.in-Some.entry.now refl within found.1 in
    rw (← c.self.view_is, ← c.deref.ensures.value, there) c.held.ensures.stale
