use Rattle.std.proofs.Common.{◌≡◌, arith}
use Rattle.session_io.specs.Opening.{Arriving}
use Rattle.session_io.proofs.OpeningLemmas.{saw_last}
use Rattle.session_io.proofs.login.first_packets.look.Goals as goal

pub returns-in-Ok : goal.returns-in-Ok
returns-in-Ok g c =
    let means : Arriving g.row.C.Denot = record {
      wrote = g.C.WriteCalls.wrote;
      gave = g.C.ReadCalls.gave;
      saw = g.C.Requester.saw;
      refused = g.C.Arrival.refused;
    } in
    let one : c.in-Ok.field-0 ≡ 1 = omega (arith, c.in-Ok.ensures.bound, c.peek_once.auto.buffer) in
    record {
      looks = saw_last means c.args.client.now c.peek_once.new.self c.args.opening.now
          c.args.text.now c.peek_once.new.buffer c.in-Ok.field-0 c.cancel_key.result _ one
          c.peek_once.auto.buffer c.in-Ok.ensures.call (c.cancel_key.ensures c.args.opening.now);
    }
