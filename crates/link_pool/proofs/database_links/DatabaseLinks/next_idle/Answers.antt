use Rattle.std.proofs.Common.{rules, ◌≡◌, IfNone, IfSome, ℕ, true, false, slice_get, subst}
use Rattle.link_pool.specs.Stacks.{top}
use Rattle.link_pool.specs.Entries.{idle_entry}
use Rattle.link_pool.proofs.Stacking.{none_next, next_listed}
use Rattle.link_pool.proofs.database_links.DatabaseLinks.next_idle.Goals as goal

pub returns : goal.returns
returns g c =
    let next : c.copied.result ≡ top c.self.inside.idle.items = search rules in
    record {
      idle = subst (λ p. IfSome c.copied.result (λ index. idle_entry (slice_get p.entries index) ≡ true)) c.self.view_is
          (next_listed idle_entry c.self.inside.entries.items c.self.inside.idle.items c.copied.result c.self.invariant.2 next);
      none = subst (λ p. IfNone c.copied.result ((i : ℕ) → idle_entry (slice_get p.entries i) ≡ false)) c.self.view_is
          (none_next idle_entry c.self.inside.entries.items c.self.inside.idle.items c.copied.result c.self.invariant.2 next);
    }
