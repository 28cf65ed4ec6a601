-- The CancelRequest of a key: 16 bytes for a short one (PostgreSQL manual, "Message Formats"), 32
-- for a long one (own).
use Rattle.std.specs.Prelude.{ℕ, List}
use Rattle.pg_ids.specs.AnyKey.{any_bytes}
use Rattle.pg_ids.specs.declared.any_key.AnyKey.{AnyKey}
use Rattle.pg_ids.specs.declared.any_key.KeyBytes.{KeyBytes}
use Rattle.pg_ids.specs.declared.any_key.KeyBytes.TheVariants as key
use Rattle.startup.specs.Packet.{cancel_request}
use Rattle.startup.specs.declared.packet.Packet.{Packet}
use Rattle.startup.specs.declared.packet.Packet.TheVariants.{Short, Long}

-- the request of these key bytes
abbrev pub packet_of : KeyBytes → Packet
packet_of (key.Short bytes) = Short (cancel_request bytes)
packet_of (key.Long bytes) = Long (cancel_request bytes)

-- the request of a key
abbrev pub cancel_packet : AnyKey → Packet
cancel_packet any = packet_of (any_bytes any)

-- as a list
abbrev pub packet_bytes : Packet → List ℕ
packet_bytes (Short bytes) = bytes
packet_bytes (Long bytes) = bytes
