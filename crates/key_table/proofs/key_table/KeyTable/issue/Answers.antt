use Rattle.std.proofs.Common.{arith, ◌≡◌, None, Some, ap, ◌∙◌}
use Rattle.std.proofs.lemmas.Grind.{common_steps}
use Rattle.std.proofs.lemmas.Option.{slice_get_within}
use Rattle.pg_ids.specs.AnyKey.{short_of}
use Rattle.pg_ids.specs.declared.client_key.ClientKey.{ClientKey}
use Rattle.key_table.specs.Live.{slots_of}
use Rattle.key_table.proofs.Places.{slice_get-set_same}
use Rattle.key_table.proofs.Tables.{is_next}
use Rattle.key_table.proofs.key_table.KeyTable.issue.Goals as goal

pub returns-clause-live : goal.returns-clause-live
returns-clause-live c =
    let live = c.self.inside.live in
    let free = rw (← c.self.view_is) at c.in-Some.ensures.free in
    let within = slice_get_within (slots_of live) c.in-Some.slot None free in
    let next : live.vacant_key ≡ c.in-Some.slot = grind (arith, common_steps) in
    let slot : (short_of c.new-issued.result.key).slot ≡ c.in-Some.slot = ap (λ (k : ClientKey). k.slot) (c.new-issued.ensures.short ∙ c.new-first.ensures) in
    (c.new-issued.result.entry, rw (c.fill_next.ensures.filled, slot, next) (slice_get-set_same (slots_of live) c.in-Some.slot (Some c.new-issued.result.entry) within))

pub returns-clause-next : goal.returns-clause-next
returns-clause-next c = is_next c.fill_next.new.live c.fill_next.ensures.table
