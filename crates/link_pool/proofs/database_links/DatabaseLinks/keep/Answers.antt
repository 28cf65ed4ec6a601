use Rattle.std.proofs.Common.{rules, ◌≡◌, ◌-◌, ℕ, Some, take, length, slice_get, vec_len, sym, ap, subst, arith, ◌∙◌, refl}
use Rattle.std.proofs.lemmas.Option.{slice_get_within}
use Rattle.link_pool.specs.declared.entry.Entry.TheVariants as entry
use Rattle.link_pool.specs.Stacks.{top, under_top}
use Rattle.link_pool.specs.Entries.{idle_entry, free_entry}
use Rattle.link_pool.proofs.Stacking.{of_top, topped, relisted}
use Rattle.link_pool.proofs.Entries.{free_one}
use Rattle.link_pool.proofs.database_links.DatabaseLinks.keep.Goals as goal

pub index_mut-requires : goal.index_mut-requires
index_mut-requires g c =
    let entries = c.self.inside.entries.items in
    let next : top c.self.inside.free.items ≡ Some c.args.index = subst (λ p. top p.free ≡ Some c.args.index) (sym c.self.view_is) c.requires in
    let is = free_one (slice_get entries c.args.index) (of_top free_entry entries c.self.inside.free.items c.args.index c.self.invariant.4 next) in
    let within = slice_get_within entries c.args.index entry.Free is in
    let len : vec_len c.self.inside.entries ≡ length entries = search rules in
    omega (arith, within, len)

pub invariant_of-self : goal.invariant_of-self
invariant_of-self g c =
    let entries = c.self.inside.entries.items in
    let free = c.self.inside.free.items in
    let next : top free ≡ Some c.args.index = subst (λ p. top p.free ≡ Some c.args.index) (sym c.self.view_is) c.requires in
    let is = free_one (slice_get entries c.args.index) (of_top free_entry entries free c.args.index c.self.invariant.4 next) in
    let now = entry.Open c.args.permit c.args.slot in
    let len : vec_len c.self.inside.free ≡ length free = search rules in
    let less : c.pop-index.new.self.items ≡ under_top free = c.pop-index.ensures.rest ∙ ap (λ (n : ℕ). take (n - 1) free) len in
    let room = c.self.invariant.3 in
    let capacity = c.pop-index.ensures.capacity in (
      c.self.invariant.0,
      c.self.invariant.1,
      relisted idle_entry entries c.self.inside.idle.items c.args.index entry.Free now is refl c.self.invariant.2,
      omega (arith, room, capacity),
      rw less (topped free_entry entries free c.args.index entry.Free now next is refl c.self.invariant.4),
    )

pub returns : goal.returns
returns g c =
    let free = c.self.inside.free.items in
    let len : vec_len c.self.inside.free ≡ length free = search rules in
    let less : c.pop-index.new.self.items ≡ under_top free = c.pop-index.ensures.rest ∙ ap (λ (n : ℕ). take (n - 1) free) len in
    rw (less, ← c.self.view_is) refl
