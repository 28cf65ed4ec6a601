use Rattle.std.proofs.Common.{Some, ◌∙◌}
use Rattle.key_table.proofs.Tables.{written, and_back}
use Rattle.key_table.proofs.key_table.fill_next.Goals as goal

pub returns-then-len-capacity-clause-filled : goal.returns-then-len-capacity-clause-filled
returns-then-len-capacity-clause-filled c =
    let is = c.insert_reserved.ensures in
    rw (← is.key) (written c.args.live.now c.insert_reserved.new.self c.insert_reserved.result (Some c.args.entry) is.updates is.capacity)

pub returns-clause-filled : goal.returns-clause-filled
returns-clause-filled c =
    let is = c.insert_reserved.ensures in
    let more = c.insert_reserved-next.ensures in
    let back = c.remove.ensures in
    let updates = and_back c.args.live.now c.insert_reserved.new.self c.insert_reserved-next.new.self c.remove.new.self c.insert_reserved.result c.insert_reserved-next.result (Some c.args.entry) _ is.updates more.updates back.updates more.was_vacant in
    rw (← is.key) (written c.args.live.now c.remove.new.self c.insert_reserved.result (Some c.args.entry) updates (back.capacity ∙ more.capacity ∙ is.capacity))
