use Rattle.std.proofs.Common.{rules, ◌≡◌, ◌<◌, false, length, slice_get, get_or, vec_len, sym, ap, subst, arith, ◌∙◌}
use Rattle.std.proofs.lemmas.Option.{slice_get-get_or}
use Rattle.link_pool.specs.Entries.{idle_entry, free_entry}
use Rattle.link_pool.proofs.Stacking.{not_each, relisted}
use Rattle.link_pool.proofs.database_links.DatabaseLinks.put.Goals as goal

pub push_if-requires : goal.push_if-requires
push_if-requires g c =
    let entries = c.self.inside.entries.items in
    let within : c.args.index < length entries = subst (λ p. c.args.index < length p.entries) (sym c.self.view_is) c.requires.there in
    let out : idle_entry (slice_get entries c.args.index) ≡ false = subst (λ p. idle_entry (slice_get p.entries c.args.index) ≡ false) (sym c.self.view_is) c.requires.not_idle in
    let was = slice_get-get_or entries c.args.index c.args.entry within in
    let few = not_each idle_entry entries c.args.index (get_or entries c.args.index c.args.entry) was (ap idle_entry (sym was) ∙ out) in
    let counted = c.self.invariant.2.counted in
    let room = c.self.invariant.1 in
    let len : vec_len c.self.inside.entries ≡ length entries = search rules in
    λ is. omega (arith, few, counted, room, len)

pub push_if-requires-2 : goal.push_if-requires-2
push_if-requires-2 g c =
    let entries = c.self.inside.entries.items in
    let within : c.args.index < length entries = subst (λ p. c.args.index < length p.entries) (sym c.self.view_is) c.requires.there in
    let out : free_entry (slice_get entries c.args.index) ≡ false = subst (λ p. free_entry (slice_get p.entries c.args.index) ≡ false) (sym c.self.view_is) c.requires.not_free in
    let was = slice_get-get_or entries c.args.index c.args.entry within in
    let few = not_each free_entry entries c.args.index (get_or entries c.args.index c.args.entry) was (ap free_entry (sym was) ∙ out) in
    let counted = c.self.invariant.4.counted in
    let room = c.self.invariant.3 in
    let len : vec_len c.self.inside.entries ≡ length entries = search rules in
    λ is. omega (arith, few, counted, room, len)

pub invariant_of-self : goal.invariant_of-self
invariant_of-self g c =
    let entries = c.self.inside.entries.items in
    let within : c.args.index < length entries = subst (λ p. c.args.index < length p.entries) (sym c.self.view_is) c.requires.there in
    let out : idle_entry (slice_get entries c.args.index) ≡ false = subst (λ p. idle_entry (slice_get p.entries c.args.index) ≡ false) (sym c.self.view_is) c.requires.not_idle in
    let was = slice_get-get_or entries c.args.index c.args.entry within in
    let busy : free_entry (slice_get entries c.args.index) ≡ false = subst (λ p. free_entry (slice_get p.entries c.args.index) ≡ false) (sym c.self.view_is) c.requires.not_free in
    let room = c.self.invariant.1 in
    let capacity = c.push_if.ensures.capacity in
    let free_room = c.self.invariant.3 in
    let free_capacity = c.push_if-2.ensures.capacity in
    rw (c.push_if.ensures.places, c.push_if-2.ensures.places, c.is_idle-is_idle.ensures, c.is_free-is_free.ensures) (
      c.self.invariant.0,
      omega (arith, room, capacity),
      relisted idle_entry entries c.self.inside.idle.items c.args.index (get_or entries c.args.index c.args.entry) c.args.entry was (ap idle_entry (sym was) ∙ out) c.self.invariant.2,
      omega (arith, free_room, free_capacity),
      relisted free_entry entries c.self.inside.free.items c.args.index (get_or entries c.args.index c.args.entry) c.args.entry was (ap free_entry (sym was) ∙ busy) c.self.invariant.4,
    )
