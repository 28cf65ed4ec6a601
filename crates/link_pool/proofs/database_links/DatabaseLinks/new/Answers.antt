use Rattle.std.proofs.Common.{rules, ◌≡◌, ap, ◌∙◌, arith, refl, length, vec_len}
use Rattle.std.proofs.lemmas.List.{length-replicate}
use Rattle.link_pool.specs.declared.entry.Entry.TheVariants as entry
use Rattle.link_pool.specs.Entries.{free_entry}
use Rattle.link_pool.proofs.NewLinks.{none_listed_idle}
use Rattle.link_pool.proofs.Stacking.{all_stacked}
use Rattle.link_pool.proofs.database_links.DatabaseLinks.new.Goals as goal

pub invariant_of-result : goal.invariant_of-result
invariant_of-result g c =
    let all = c.free_places.ensures in
    let len : vec_len c.free_places.new.entries ≡ length c.free_places.new.entries.items = search rules in
    let size : length c.free_places.new.entries.items ≡ c.args.size = ap length all ∙ length-replicate c.args.size entry.Free in
    let exact = c.in_ok-idle.ensures.exact in
    let room = c.in_ok-free.ensures.exact in
    let capacity = c.stack_all.ensures.capacity in
    let fits = c.ranges.size in (
      omega (arith, len, size, fits),
      omega (arith, len, size, exact),
      rw (all, c.in_ok-idle.ensures.items) (none_listed_idle g.row.S.Denot c.args.size),
      omega (arith, len, size, room, capacity),
      rw (all, c.stack_all.ensures.places) (all_stacked free_entry entry.Free c.args.size refl refl),
    )
