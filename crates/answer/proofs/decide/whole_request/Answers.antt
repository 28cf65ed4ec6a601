use Rattle.std.proofs.Common.{◌≡◌, arith, subst, take}
use Rattle.startup.specs.CancelPacket.{cancel_packet, packet_bytes}
use Rattle.answer.proofs.PacketLemmas.{goes_on, told_more}
use Rattle.answer.proofs.decide.whole_request.Goals as goal

pub returns-in_default-clause-fault : goal.returns-in_default-clause-fault
returns-in_default-clause-fault c =
    let packet = c.args.packet.now in
    let key = c.args.key.now in
    let request = c.request_length-length.ensures in
    let is_length = request.length in
    let left = c.saturating_sub.ensures in
    let some = c.in_default in
    told_more packet c.longer_packet_fault.result c.longer_packet_fault.ensures
    (goes_on packet key request.key
    (subst (λ n. take n packet ≡ packet_bytes (cancel_packet key)) is_length
    (request.begins packet c.requires)) (omega (arith, is_length, left, some)))
