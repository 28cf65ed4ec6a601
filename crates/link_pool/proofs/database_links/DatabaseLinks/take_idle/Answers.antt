use Rattle.std.proofs.Common.{rules, ◌≡◌, ℕ, false, length, slice_get, vec_len, sym, subst, arith, ◌∙◌, refl}
use Rattle.std.proofs.lemmas.Option.{slice_get_within, same_Some}
use Rattle.link_pool.specs.declared.entry.Entry.TheVariants as entry
use Rattle.link_pool.specs.PoolStep.{new_hold}
use Rattle.link_pool.specs.Entries.{idle_entry, free_entry}
use Rattle.link_pool.proofs.Stacking.{last_of, none_listed, popped, relisted}
use Rattle.link_pool.proofs.Changes.{was_read}
use Rattle.link_pool.proofs.Entries.{idle_one}
use Rattle.link_pool.proofs.database_links.DatabaseLinks.take_idle.Goals as goal

pub returns-in_default-clause-none : goal.returns-in_default-clause-none
returns-in_default-clause-none g c =
    let len : vec_len c.self.inside.idle ≡ length c.self.inside.idle.items = search rules in
    let empty = c.in_default.ensures.cases in
    subst (λ p. (i : ℕ) → idle_entry (slice_get p.entries i) ≡ false) c.self.view_is (none_listed idle_entry c.self.inside.entries.items c.self.inside.idle.items c.self.invariant.2 (omega (arith, len, empty)))

pub index_mut-entry-requires : goal.index_mut-entry-requires
index_mut-entry-requires g c =
    let len : vec_len c.self.inside.entries ≡ length c.self.inside.entries.items = search rules in
    let top = idle_one (slice_get c.self.inside.entries.items c.in-Some.index) (last_of idle_entry c.self.inside.entries.items c.self.inside.idle.items c.pop.new.self.items c.in-Some.index c.in-Some.ensures.items c.self.invariant.2) in
    let within = slice_get_within c.self.inside.entries.items c.in-Some.index (entry.Idle top.link top.key) top.is in
    omega (arith, len, within)

pub invariant_of-self-2 : goal.invariant_of-self-2
invariant_of-self-2 g c =
    let entries = c.self.inside.entries.items in
    let index : ℕ = c.in-Some.index in
    let top = idle_one (slice_get entries index) (last_of idle_entry entries c.self.inside.idle.items c.pop.new.self.items index c.in-Some.ensures.items c.self.invariant.2) in
    let within = slice_get_within entries index (entry.Idle top.link top.key) top.is in
    let is : c.index_mut-entry.result.now ≡ entry.Idle top.link top.key = same_Some c.index_mut-entry.result.now (entry.Idle top.link top.key) (sym (was_read entries index index c.index_mut-entry.result.now refl within c.index_mut-entry.ensures.value) ∙ top.is) in
    let room = c.self.invariant.1 in
    let capacity = c.pop.ensures.capacity in
    rw (c.lend_idle.ensures.entry, is) (
      c.self.invariant.0,
      omega (arith, room, capacity),
      popped idle_entry entries c.self.inside.idle.items c.pop.new.self.items index (entry.Idle top.link top.key) (entry.Held top.link.details top.key new_hold c.args.slot) c.in-Some.ensures.items top.is refl c.self.invariant.2,
      c.self.invariant.3,
      relisted free_entry entries c.self.inside.free.items index (entry.Idle top.link top.key) (entry.Held top.link.details top.key new_hold c.args.slot) top.is refl c.self.invariant.4,
    )

pub returns : goal.returns
returns g c =
    let entries = c.self.inside.entries.items in
    let index : ℕ = c.in-Some.index in
    let top = idle_one (slice_get entries index) (last_of idle_entry entries c.self.inside.idle.items c.pop.new.self.items index c.in-Some.ensures.items c.self.invariant.2) in
    let within = slice_get_within entries index (entry.Idle top.link top.key) top.is in
    let is : c.index_mut-entry.result.now ≡ entry.Idle top.link top.key = same_Some c.index_mut-entry.result.now (entry.Idle top.link top.key) (sym (was_read entries index index c.index_mut-entry.result.now refl within c.index_mut-entry.ensures.value) ∙ top.is) in
    record {
      taken = rw (c.lend_idle.ensures.lease, c.lend_idle.ensures.entry, is, ← c.self.view_is) (record { index = index; key = top.key; was = top.is; after = refl });
      none = rw (c.lend_idle.ensures.lease, is) tt;
      same = rw (c.lend_idle.ensures.lease, is) tt;
    }

pub lend_idle-requires : goal.lend_idle-requires
lend_idle-requires g c =
    let entries = c.self.inside.entries.items in
    let index : ℕ = c.in-Some.index in
    let top = idle_one (slice_get entries index) (last_of idle_entry entries c.self.inside.idle.items c.pop.new.self.items index c.in-Some.ensures.items c.self.invariant.2) in
    let within = slice_get_within entries index (entry.Idle top.link top.key) top.is in
    let is : c.index_mut-entry.result.now ≡ entry.Idle top.link top.key = same_Some c.index_mut-entry.result.now (entry.Idle top.link top.key) (sym (was_read entries index index c.index_mut-entry.result.now refl within c.index_mut-entry.ensures.value) ∙ top.is) in
    rw is refl
