use Rattle.std.proofs.Common.{◌≡◌, ◌∙◌, ◌++◌, ℕ, Bool, List, length, take, sym, ap, subst}
use Rattle.pg_ids.specs.AnyKey.{any_key_bytes}
use Rattle.startup.specs.CancelPacket.{packet_of, cancel_packet, packet_bytes}
use Rattle.startup.specs.FirstPacket.{Cancel, IsOutcome}
use Rattle.startup.specs.Kinds.{Seen}
use Rattle.startup.specs.declared.packet.Packet.{Packet}
use Rattle.startup.proofs.RequestLemmas.{cancel_read, only_cancel}
use Rattle.startup.proofs.request.write_cancel.Goals as goal

made : (c : goal.After-packet_of) → c.packet_of.result ≡ cancel_packet c.args.key
made c = c.packet_of.ensures ∙ ap packet_of c.to_bytes.ensures

pub returns-clause-read : goal.returns-clause-read
returns-clause-read c =
    subst (λ (p : Packet). (seen : Seen) (after : List ℕ) (at_end : Bool) → IsOutcome seen (packet_bytes p ++ after) at_end (Cancel (any_key_bytes c.args.key))) (sym (made c)) (cancel_read c.args.key)

pub returns-clause-only : goal.returns-clause-only
returns-clause-only c =
    subst (λ (p : Packet). (seen : Seen) (text : List ℕ) (at_end : Bool) → IsOutcome seen text at_end (Cancel (any_key_bytes c.args.key)) → take (length (packet_bytes p)) text ≡ packet_bytes p) (sym (made c)) (only_cancel c.args.key)
