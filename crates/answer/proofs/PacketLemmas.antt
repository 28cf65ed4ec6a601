-- What follows a CancelRequest in a packet.
use Rattle.std.proofs.Common.{◌≡◌, ◌<◌, ◌++◌, ◌∙◌, ℕ, List, length, take, drop, sym, ap, arith, length-drop}
use Rattle.std.proofs.lemmas.List.{take-append-drop}
use Rattle.pg_ids.specs.AnyKey.{IsAnyKey}
use Rattle.pg_ids.specs.declared.any_key.AnyKey.{AnyKey}
use Rattle.startup.specs.CancelPacket.{cancel_packet, packet_bytes}
use Rattle.answer.specs.Answer.{HasMore, IsPacketFault, IsUsage}
use Rattle.answer.specs.declared.fault.Fault.{Fault}
use Rattle.answer.specs.declared.fault.Fault.TheVariants.{Usage, InFile, InScript, Explained, OfGroup, Unread, Packet, NotACancel, Unexpected, Memory}

-- something follows the request
pub goes_on : (packet : List ℕ) (key : AnyKey) → IsAnyKey key
    → take (length (packet_bytes (cancel_packet key))) packet ≡ packet_bytes (cancel_packet key)
    → length (packet_bytes (cancel_packet key)) < length packet → HasMore packet
goes_on packet key known begins long =
    let request = packet_bytes (cancel_packet key) in
    record {
      key = key;
      is_key = known;
      more = drop (length request) packet;
      some = omega (arith, long, length-drop (length request) packet);
      packet_is = sym (take-append-drop (length request) packet)
          ∙ ap (λ front. front ++ drop (length request) packet) begins;
    }

-- that is reported as a fault of the arguments, unless memory ran out
pub told_more : (packet : List ℕ) (fault : Fault) → IsUsage fault → HasMore packet
    → IsPacketFault packet fault
told_more packet (Usage text) is more = more
told_more packet (InFile file error) is more = absurd is
told_more packet (InScript file line) is more = absurd is
told_more packet (Explained text) is more = absurd is
told_more packet (OfGroup error) is more = absurd is
told_more packet (Unread file reason) is more = absurd is
told_more packet (Packet number) is more = absurd is
told_more packet NotACancel is more = absurd is
told_more packet (Unexpected reply) is more = absurd is
told_more packet Memory is more = tt
