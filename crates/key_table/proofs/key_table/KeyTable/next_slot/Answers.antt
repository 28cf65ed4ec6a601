use Rattle.std.proofs.Common.{Some, ap, ◌∙◌, arith}
use Rattle.key_table.proofs.Tables.{slot_at, none_free}
use Rattle.key_table.proofs.key_table.KeyTable.next_slot.Goals as goal

pub returns-then-len-capacity-clause-free : goal.returns-then-len-capacity-clause-free
returns-then-len-capacity-clause-free c =
    let is = c.vacant_key.ensures in
    rw (← c.self.view_is) (slot_at c.self.inside.live c.vacant_key.result (omega (arith, c.self.invariant.within)) ∙ ap Some is.vacant)

pub returns-else-len-capacity-clause-free : goal.returns-else-len-capacity-clause-free
returns-else-len-capacity-clause-free c =
    rw (← c.self.view_is) (none_free c.self.inside.live c.self.invariant (omega arith))
