-- The lines that the program writes (own).
use Rattle.std.specs.Prelude.{ℕ, List, [], ◌++◌, Option, Some, None, codes, string_bytes}
use Rattle.std.specs.Fmt.{decimal}
use Rattle.hex.specs.Hex.{encode_lower}
use Rattle.ini_config.specs.Codes.{ini_number, ini_name, group_number, group_name}
use Rattle.pg_ids.specs.AnyKey.{short_of, long_part_of}
use Rattle.pg_ids.specs.declared.{any_key.AnyKey.AnyKey, client_key.ClientKey.ClientKey}
use Rattle.pg_ids.specs.declared.long_part.LongPart.{LongPart}
use Rattle.startup.specs.CancelPacket.{packet_bytes}
use Rattle.startup.specs.declared.packet.Packet.{Packet as CancelPacket}
use Rattle.lease.specs.declared.ticket.TicketRecord.{TicketRecord}
use Rattle.node_core.specs.Refusals.{cancel_number}
use Rattle.node_core.specs.declared.exchange.Order.{Order}
use Rattle.node_core.specs.declared.exchange.Order.TheVariants.{Serve, Forward, Unwait, Refused}
use Rattle.world_script.specs.Reads.{bad_script, bad_script_name}
use Rattle.answer.specs.declared.fault.Fault.{Fault}
use Rattle.answer.specs.declared.fault.Fault.TheVariants.{Usage, InFile, InScript, Explained, OfGroup, Unread, Packet, NotACancel, Unexpected, Memory}
use Rattle.answer.specs.declared.fault.Reply.{Reply}
use Rattle.answer.specs.declared.fault.Reply.TheVariants as reply

-- the parts of a short key, and of a long key's first eight bytes
abbrev pub short_text : ClientKey → List ℕ
short_text k = codes "peer " ++ decimal k.peer ++ codes " slot " ++ decimal k.slot
    ++ codes " secret " ++ decimal k.secret ++ codes " hops " ++ decimal k.hops

-- what a long key has besides
abbrev pub part_text : Option LongPart → List ℕ
part_text None = []
part_text (Some part) = codes " boot " ++ decimal part.boot ++ codes " serial "
    ++ decimal part.serial

-- the parts of a key
abbrev pub key_text : AnyKey → List ℕ
key_text key = short_text (short_of key) ++ part_text (long_part_of key) ++ codes "\n"

-- a request that is carried to a server, with the key by which that cancels
abbrev pub serve_text : List ℕ → List ℕ
serve_text key = codes "serve " ++ encode_lower key ++ codes "\n"

-- a request that goes on to a peer
abbrev pub forward_text : ℕ → CancelPacket → List ℕ
forward_text peer packet = codes "forward " ++ decimal peer ++ codes " "
    ++ encode_lower (packet_bytes packet) ++ codes "\n"

-- a request whose client waits for a link no longer
abbrev pub unwait_text : ℕ → List ℕ
unwait_text slot = codes "unwait " ++ decimal slot ++ codes "\n"

-- a request that goes nowhere
abbrev pub refused_text : ℕ → List ℕ
refused_text number = codes "refused " ++ decimal number ++ codes "\n"

-- an order; no client among the arguments waits for a link, so none of them gets an `Unwait`
abbrev pub order_text : Order TicketRecord → List ℕ
order_text (Serve ticket database key) = serve_text key
order_text (Forward peer packet) = forward_text peer packet
order_text (Unwait slot) = unwait_text slot
order_text (Refused refusal) = refused_text (cancel_number refusal)

-- how many nodes a group has
abbrev pub group_text : ℕ → List ℕ
group_text count = codes "group of " ++ decimal count ++ codes " nodes\n"

-- ---- faults

-- a number and a name
abbrev pub numbered : ℕ → List ℕ → List ℕ
numbered number name = decimal number ++ codes " " ++ name ++ codes "\n"

-- an answer of the node, by its number or its name
abbrev pub reply_text : Reply → List ℕ
reply_text (reply.Number number) = decimal number
reply_text reply.Got = codes "got"
reply_text reply.Waiting = codes "waiting"
reply_text reply.Cancelled = codes "cancelled"
reply_text reply.Closed = codes "closed"

-- what a fault is written as
abbrev pub fault_text : Fault → List ℕ
fault_text (Usage text) = string_bytes text
fault_text (InFile file error) =
    string_bytes file ++ codes ":" ++ decimal error.line ++ codes ": "
    ++ numbered (ini_number error.code) (ini_name error.code)
fault_text (InScript file line) =
    string_bytes file ++ codes ":" ++ decimal line ++ codes ": "
    ++ numbered bad_script bad_script_name
fault_text (Explained text) = string_bytes text
fault_text (OfGroup error) = numbered (group_number error) (group_name error)
fault_text (Unread file reason) = string_bytes file ++ codes ": " ++ string_bytes reason
    ++ codes "\n"
fault_text (Packet number) = codes "packet " ++ decimal number ++ codes "\n"
fault_text NotACancel = codes "not a cancel\n"
fault_text (Unexpected reply) = codes "unexpected answer: " ++ reply_text reply ++ codes "\n"
fault_text Memory = codes "out of memory\n"
