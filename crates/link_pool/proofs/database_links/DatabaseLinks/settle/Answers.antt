use Rattle.std.proofs.Common.{rules, ◌≡◌, ◌<◌, false, Some, length, slice_get, vec_len, sym, ap, subst, arith, ◌∙◌, refl}
use Rattle.std.proofs.lemmas.Option.{same_Some}
use Rattle.link_pool.specs.Entries.{idle_entry, free_entry, leaving}
use Rattle.link_pool.proofs.Changes.{was_read}
use Rattle.link_pool.proofs.Stacking.{not_each, relisted}
use Rattle.link_pool.proofs.database_links.DatabaseLinks.settle.Goals as goal

pub push_if-requires : goal.push_if-requires
push_if-requires g c =
    let entries = c.self.inside.entries.items in
    let within : c.args.index < length entries = subst (λ p. c.args.index < length p.entries) (sym c.self.view_is) c.requires.there in
    let out : idle_entry (slice_get entries c.args.index) ≡ false = subst (λ p. idle_entry (slice_get p.entries c.args.index) ≡ false) (sym c.self.view_is) c.requires.not_idle in
    let was = was_read entries c.args.index c.args.index c.index_mut-entry.result.now refl within c.index_mut-entry.ensures.value in
    let few = not_each idle_entry entries c.args.index c.index_mut-entry.result.now was (ap idle_entry (sym was) ∙ out) in
    let counted = c.self.invariant.2.counted in
    let room = c.self.invariant.1 in
    let len : vec_len c.self.inside.entries ≡ length entries = search rules in
    λ is. omega (arith, few, counted, room, len)

pub push_if-requires-2 : goal.push_if-requires-2
push_if-requires-2 g c =
    let entries = c.self.inside.entries.items in
    let within : c.args.index < length entries = subst (λ p. c.args.index < length p.entries) (sym c.self.view_is) c.requires.there in
    let out : free_entry (slice_get entries c.args.index) ≡ false = subst (λ p. free_entry (slice_get p.entries c.args.index) ≡ false) (sym c.self.view_is) c.requires.not_free in
    let was = was_read entries c.args.index c.args.index c.index_mut-entry.result.now refl within c.index_mut-entry.ensures.value in
    let few = not_each free_entry entries c.args.index c.index_mut-entry.result.now was (ap free_entry (sym was) ∙ out) in
    let counted = c.self.invariant.4.counted in
    let room = c.self.invariant.3 in
    let len : vec_len c.self.inside.entries ≡ length entries = search rules in
    λ is. omega (arith, few, counted, room, len)

pub invariant_of-self : goal.invariant_of-self
invariant_of-self g c =
    let entries = c.self.inside.entries.items in
    let within : c.args.index < length entries = subst (λ p. c.args.index < length p.entries) (sym c.self.view_is) c.requires.there in
    let out : idle_entry (slice_get entries c.args.index) ≡ false = subst (λ p. idle_entry (slice_get p.entries c.args.index) ≡ false) (sym c.self.view_is) c.requires.not_idle in
    let was = was_read entries c.args.index c.args.index c.index_mut-entry.result.now refl within c.index_mut-entry.ensures.value in
    let busy : free_entry (slice_get entries c.args.index) ≡ false = subst (λ p. free_entry (slice_get p.entries c.args.index) ≡ false) (sym c.self.view_is) c.requires.not_free in
    let room = c.self.invariant.1 in
    let capacity = c.push_if.ensures.capacity in
    let free_room = c.self.invariant.3 in
    let free_capacity = c.push_if-2.ensures.capacity in
    rw (c.push_if.ensures.places, c.push_if-2.ensures.places, c.is_idle-is_idle.ensures, c.is_free-is_free.ensures) (
      c.self.invariant.0,
      omega (arith, room, capacity),
      relisted idle_entry entries c.self.inside.idle.items c.args.index c.index_mut-entry.result.now c.settle-stream.new.self was (ap idle_entry (sym was) ∙ out) c.self.invariant.2,
      omega (arith, free_room, free_capacity),
      relisted free_entry entries c.self.inside.free.items c.args.index c.index_mut-entry.result.now c.settle-stream.new.self was (ap free_entry (sym was) ∙ busy) c.self.invariant.4,
    )

pub returns : goal.returns
returns g c = λ was h.
    let entries = c.self.inside.entries.items in
    let within : c.args.index < length entries = subst (λ p. c.args.index < length p.entries) (sym c.self.view_is) c.requires.there in
    let read = was_read entries c.args.index c.args.index c.index_mut-entry.result.now refl within c.index_mut-entry.ensures.value in
    let there : slice_get entries c.args.index ≡ Some was = subst (λ p. slice_get p.entries c.args.index ≡ Some was) (sym c.self.view_is) h in
    let is : c.index_mut-entry.result.now ≡ was = same_Some c.index_mut-entry.result.now was (sym read ∙ there) in
    (c.settle-stream.ensures.stream ∙ ap (leaving c.args.hold) is, rw (c.push_if-2.ensures.places, c.is_free-is_free.ensures, c.settle-stream.ensures.entry, is, ← c.self.view_is) refl)
