use Rattle.std.proofs.Common.{Some, None, is_some, refl, ap, rules}
use Rattle.key_table.specs.Live.{IsTable}
use Rattle.key_table.proofs.Tables.{slab_at, written, is_next}
use Rattle.key_table.proofs.key_table.KeyTable.retire.Goals as goal

pub remove-requires : goal.remove-requires
remove-requires c =
    let live = rw (← c.self.view_is) at c.requires in
    rw c.get.ensures (ap is_some (slab_at c.self.inside.live c.args.slot (Some live.0) live.1))

pub returns-clause-freed : goal.returns-clause-freed
returns-clause-freed c =
    let is = c.remove.ensures in
    rw (← c.self.view_is, ← c.get.ensures) (record { entries = written c.self.inside.live c.remove.new.self c.get.result None is.updates is.capacity; peer = refl })

pub returns-clause-next : goal.returns-clause-next
returns-clause-next c =
    let table : IsTable c.remove.new.self = search rules in
    is_next c.remove.new.self table
