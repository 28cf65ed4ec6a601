-- The answer to each list of arguments, by what the files contain (own): what is written on both
-- outputs, and the exit status (`IsAnswer`).
use Rattle.std.specs.Prelude.{ℕ, ◌≡◌, ◌⊎◌, ◌<◌, true, List, ◌++◌, Option, Some, None, Err, length, max, ⊤}
use Rattle.pg_ids.specs.AnyKey.{IsAnyKey, any_key_bytes}
use Rattle.pg_ids.specs.declared.any_key.AnyKey.{AnyKey}
use Rattle.startup.specs.Kinds.{none_seen}
use Rattle.startup.specs.CancelPacket.{cancel_packet, packet_bytes}
use Rattle.startup.specs.Numbers.{number_of_refusal}
use Rattle.startup.specs.FirstPacket.{Outcome, Startup, Cancel, Ssl, Gss, More, Refused, Answers, IsOutcome}
use Rattle.startup.specs.declared.startup_error.StartupError.{StartupError}
use Rattle.ini_config.specs.Plain.{plain_settings}
use Rattle.ini_config.specs.Node.{NodeSettings}
use Rattle.lease.specs.declared.ticket.TicketRecord.{TicketRecord}
use Rattle.node_core.specs.declared.exchange.Order.{Order}
use Rattle.answer.specs.declared.fault.Fault.{Fault}
use Rattle.answer.specs.declared.fault.Fault.TheVariants.{Usage, Packet, NotACancel, Memory}
use Rattle.command_line.specs.Arguments.{Text}
use Rattle.command_line.specs.Request.{Asked, Decision, Key, Decide, Check, CheckAll, World, Help, HelpOnHelp, Version, asked}
use Rattle.answer.specs.Decision.{IsDecided}
use Rattle.answer.specs.Printing.{Change, IsWritten}
use Rattle.answer.specs.AllFaults.{IsWholeFault}
use Rattle.answer.specs.Files.{Folder, IsGroupLine, IsCheckFault}
use Rattle.answer.specs.Scripts.{HasOutcome, IsWorldFault}
use Rattle.answer.specs.Texts.{key_text, order_text, fault_text}
use Rattle.answer.specs.Statuses.{status_of}

-- ---- key

-- the line names the parts of the key that has these bytes, 8 or 24
pub record IsKeyLine (bytes line : List ℕ) : Type 0 where
  pub key : AnyKey
  pub is_key : IsAnyKey key
  pub bytes_are : any_key_bytes key ≡ bytes
  pub text : line ≡ key_text key

-- ---- decide

-- a slot and a place for a link for each client, and one at least
abbrev pub settings_in : Decision → NodeSettings
settings_in given = plain_settings given.me given.peers (max (length given.clients) 1)
    (max (length given.clients) 1)

-- the line names an order that the node may give for the request in the packet, which is the
-- CancelRequest of a key of either kind and nothing else
pub record IsOrderLine (given : Decision) (line : List ℕ) : Type 0 where
  pub key : AnyKey
  pub is_key : IsAnyKey key
  pub packet : given.packet ≡ packet_bytes (cancel_packet key)
  pub order : Order TicketRecord
  pub decided : IsDecided (settings_in given) given.clients key order
  pub text : line ≡ order_text order

-- a first packet that asks for something else
abbrev pub IsNoCancel : Outcome → Type 0
IsNoCancel (Startup kind user database used) = ⊤
IsNoCancel Ssl = ⊤
IsNoCancel Gss = ⊤
IsNoCancel (Cancel key) = ⊥
IsNoCancel More = ⊥
IsNoCancel (Refused error) = ⊥

-- bytes stand behind a CancelRequest
pub record HasMore (packet : List ℕ) : Type 0 where
  pub key : AnyKey
  pub is_key : IsAnyKey key
  pub more : List ℕ
  pub some : 0 < length more
  pub packet_is : packet ≡ packet_bytes (cancel_packet key) ++ more

-- the packet is refused by this number, or it begins a session for which there is no memory
pub record IsRefused (packet : List ℕ) (number : ℕ) : Type 0 where
  pub error : StartupError
  pub answer : Answers none_seen packet true (Err error)
  pub number_is : number ≡ number_of_refusal error

-- the packet is whole, and asks for something else
pub record AsksElse (packet : List ℕ) : Type 0 where
  pub outcome : Outcome
  pub is : IsOutcome none_seen packet true outcome
  pub else : IsNoCancel outcome

-- why a packet is no CancelRequest: bytes stand behind it, it is refused, or it asks for something
-- else; or memory ran out
abbrev pub IsPacketFault : List ℕ → Fault → Type 0
IsPacketFault packet (Usage text) = HasMore packet
IsPacketFault packet (Packet number) = IsRefused packet number
IsPacketFault packet NotACancel = AsksElse packet
IsPacketFault packet Memory = ⊤
IsPacketFault packet _ = ⊥

-- why there is no order: a fault of the packet; the node gives no reply that isn't expected
abbrev pub IsDecideFault : Decision → Fault → Type 0
IsDecideFault given fault = IsPacketFault given.packet fault

-- ---- all requests

-- memory ran out
abbrev pub IsMemoryFault : Fault → Type 0
IsMemoryFault fault = fault ≡ Memory

-- the text is the answer to what is asked; the texts of help and of the version are free
abbrev pub IsOutput : Folder → Option Asked → Text → Type 0
IsOutput folder None text = ⊥
IsOutput folder (Some (Key bytes)) text = IsKeyLine bytes text
IsOutput folder (Some (Decide given)) text = IsOrderLine given text
IsOutput folder (Some (Check files)) text = IsGroupLine folder.holds files text
IsOutput folder (Some (CheckAll files)) text = IsGroupLine folder.holds files text
IsOutput folder (Some (World file)) text = HasOutcome (folder.holds file) text
IsOutput folder (Some (Help topic)) text = ⊤
IsOutput folder (Some HelpOnHelp) text = ⊤
IsOutput folder (Some Version) text = ⊤

-- the arguments ask for nothing, in a free text, or memory ran out
abbrev pub IsUsage : Fault → Type 0
IsUsage (Usage text) = ⊤
IsUsage Memory = ⊤
IsUsage _ = ⊥

-- why there is no answer to what is asked
abbrev pub IsFault : Folder → Option Asked → Fault → Type 0
IsFault folder None fault = IsUsage fault
IsFault folder (Some (Key bytes)) fault = IsMemoryFault fault
IsFault folder (Some (Decide given)) fault = IsDecideFault given fault
IsFault folder (Some (Check files)) fault = IsCheckFault folder files fault
IsFault folder (Some (CheckAll files)) fault = IsWholeFault folder files fault
IsFault folder (Some (World file)) fault = IsWorldFault folder file fault
IsFault folder (Some (Help topic)) fault = IsMemoryFault fault
IsFault folder (Some HelpOnHelp) fault = IsMemoryFault fault
IsFault folder (Some Version) fault = IsMemoryFault fault

-- the fault was written, or where there was no memory for its text, that memory ran out
abbrev pub WritesFault : {T : Type 0} → Fault → Change T → ℕ → Type 0
WritesFault fault err result =
    IsWritten err (fault_text fault) (status_of fault) result
    ⊎ IsWritten err (fault_text Memory) (status_of Memory) result

-- The answer to arguments, by what files hold: a text on standard output, with status 0; or a fault
-- on standard error, with its status. Of the other output no call is made.
abbrev pub IsAnswer : {W E : Type 0} → Folder → List Text → Change W → Change E → ℕ → Type 0
IsAnswer folder arguments out err result =
    ((text : Text) × IsOutput folder (asked arguments) text
    × IsWritten out text 0 result × (err.new ≡ err.old))
    ⊎ ((fault : Fault) × IsFault folder (asked arguments) fault
    × IsWritten err (fault_text fault) (status_of fault) result × (out.new ≡ out.old))
