use Rattle.std.proofs.Common.{◌≡◌, false, None, Some, slice_get, sym, subst, ◌∙◌, refl}
use Rattle.std.proofs.lemmas.Option.{slice_get_within, same_Some}
use Rattle.link_pool.specs.declared.entry.Entry.TheVariants as entry
use Rattle.link_pool.specs.Entries.{idle_entry, free_entry, IsQuarantined}
use Rattle.link_pool.proofs.Changes.{was_read}
use Rattle.link_pool.proofs.Stacking.{relisted}
use Rattle.link_pool.proofs.database_links.DatabaseLinks.forget_giver.Goals as goal

pub invariant_of-self : goal.invariant_of-self
invariant_of-self g c =
    let entries = c.self.inside.entries.items in
    let q : IsQuarantined (slice_get entries c.args.index) = subst (λ p. IsQuarantined (slice_get p.entries c.args.index)) (sym c.self.view_is) c.requires.quarantined in
    let was = entry.Quarantined q.link q.key q.hold q.giver in
    let now = entry.Quarantined q.link q.key q.hold None in
    let within = slice_get_within entries c.args.index was q.is in
    let is : c.index_mut-entry.result.now ≡ was = same_Some c.index_mut-entry.result.now was (sym (was_read entries c.args.index c.args.index c.index_mut-entry.result.now refl within c.index_mut-entry.ensures.value) ∙ q.is) in
    rw (c.forget_giver.ensures, is) (
      c.self.invariant.0,
      c.self.invariant.1,
      relisted idle_entry entries c.self.inside.idle.items c.args.index was now q.is (refl {a = false}) c.self.invariant.2,
      c.self.invariant.3,
      relisted free_entry entries c.self.inside.free.items c.args.index was now q.is (refl {a = false}) c.self.invariant.4,
    )

pub returns : goal.returns
returns g c = λ was h.
    let entries = c.self.inside.entries.items in
    let there : slice_get entries c.args.index ≡ Some was = subst (λ p. slice_get p.entries c.args.index ≡ Some was) (sym c.self.view_is) h in
    let read = was_read entries c.args.index c.args.index c.index_mut-entry.result.now refl (slice_get_within entries c.args.index was there) c.index_mut-entry.ensures.value in
    let is : c.index_mut-entry.result.now ≡ was = same_Some c.index_mut-entry.result.now was (sym read ∙ there) in
    let q : IsQuarantined (slice_get entries c.args.index) = subst (λ p. IsQuarantined (slice_get p.entries c.args.index)) (sym c.self.view_is) c.requires.quarantined in
    let quarantined : was ≡ entry.Quarantined q.link q.key q.hold q.giver = same_Some was (entry.Quarantined q.link q.key q.hold q.giver) (sym there ∙ q.is) in
    rw (c.forget_giver.ensures, is, quarantined, ← c.self.view_is) refl
