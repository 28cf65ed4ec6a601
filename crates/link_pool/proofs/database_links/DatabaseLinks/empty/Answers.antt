use Rattle.std.proofs.Common.{rules, ◌≡◌, ap, ◌∙◌, arith, refl, length, vec_len}
use Rattle.std.proofs.lemmas.List.{length-replicate}
use Rattle.link_pool.specs.declared.entry.Entry.TheVariants as entry
use Rattle.link_pool.specs.Entries.{free_entry}
use Rattle.link_pool.proofs.NewLinks.{none_listed_idle}
use Rattle.link_pool.proofs.Stacking.{all_stacked}
use Rattle.link_pool.proofs.database_links.DatabaseLinks.empty.Goals as goal

pub invariant_of-self : goal.invariant_of-self
invariant_of-self g c =
    let all = c.free_places.ensures in
    let len : vec_len c.free_places.new.entries ≡ length c.free_places.new.entries.items = search rules in
    let size : length c.free_places.new.entries.items ≡ c.len-size.result = ap length all ∙ length-replicate c.len-size.result entry.Free in
    let was = c.len-size.ensures in
    let few = c.self.invariant.0 in
    let room = c.self.invariant.1 in
    let kept = c.clear-3.ensures.capacity in
    let free_room = c.self.invariant.3 in
    let free_kept = c.clear-2.ensures.capacity in
    let capacity = c.stack_all.ensures.capacity in (
      omega (arith, len, size, was, few),
      omega (arith, len, size, was, room, kept),
      rw (all, c.clear-3.ensures.items) (none_listed_idle g.row.S.Denot c.len-size.result),
      omega (arith, len, size, was, free_room, free_kept, capacity),
      rw (all, c.stack_all.ensures.places) (all_stacked free_entry entry.Free c.len-size.result refl refl),
    )
