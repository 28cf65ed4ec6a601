use Rattle.std.proofs.Common.{◌≤◌, ap, arith, length}
use Rattle.answer.specs.Decision.{has, leases_of}
use Rattle.answer.proofs.NewNodes.{fresh_room}
use Rattle.answer.proofs.decision.decided.Goals as goal

-- there is a slot for each client
pub ordered-order-requires-clause-room : goal.ordered-order-requires-clause-room
ordered-order-requires-clause-room g c =
    let empty = c.in_ok-held.ensures.empty in
    let places = c.max.ensures in
    let few = c.requires.clients in
    let slots : length c.args.clients.now ≤ c.max.result = omega (arith, places) in
    let limit : c.max.result ≤ 65535 = omega (arith, places, few) in
    fresh_room c.args.me c.args.peers.items c.max.result (length c.args.clients.now)
    c.in_ok-journal.journal.view (has c.in_ok-held.held) empty.0 (ap leases_of empty.1) slots limit
    c.in_ok-journal.ensures.fresh
