use Rattle.std.proofs.Common.{rules, ◌≡◌, IfNone, ℕ, false, slice_get, subst}
use Rattle.link_pool.specs.Stacks.{top}
use Rattle.link_pool.specs.Entries.{free_entry}
use Rattle.link_pool.proofs.Stacking.{none_next}
use Rattle.link_pool.proofs.database_links.DatabaseLinks.next_free.Goals as goal

pub returns-clause-none : goal.returns-clause-none
returns-clause-none g c =
    let next : c.copied.result ≡ top c.self.inside.free.items = search rules in
    subst (λ p. IfNone c.copied.result ((i : ℕ) → free_entry (slice_get p.entries i) ≡ false)) c.self.view_is
    (none_next free_entry c.self.inside.entries.items c.self.inside.free.items c.copied.result c.self.invariant.4 next)
