-- What a client's message asks for, by its type and body (PostgreSQL manual, "Message Formats" and
-- "Extended Query"; the limits, and what isn't supported, are own).
use Rattle.std.specs.Prelude.{ℕ, Bool, ◌+◌, ◌&&◌, ◌==◌, nat_lt, nat_le, if◌then◌else◌, codes, List, [], ◌∷◌, length, take}
use Rattle.std.specs.List.{list_all}
use Rattle.client_state.specs.Text.{is_zero, is_one_string, strings_in, is_one_of}
use Rattle.pg_frames.specs.declared.frame.Frame.{Frame}
use Rattle.startup.specs.declared.error_code.ErrorCode.TheVariants.{FeatureNotSupported, ProtocolViolation}
use Rattle.client_state.specs.declared.client_message.ClientMessage.{ClientMessage}
use Rattle.client_state.specs.declared.client_message.ClientMessage.TheVariants.{Request, Gathered, Terminate, Refused}

-- a message that begins with this many names: they have to stand there, and to be empty
abbrev pub by_names : ℕ → List ℕ → ClientMessage
by_names count body =
    if nat_lt (strings_in body) count then Refused ProtocolViolation
    else (if list_all is_zero (take count body) then Gathered
    else Refused FeatureNotSupported)

-- a message that begins with the kind of what it names: S a prepared statement, P a portal
abbrev pub by_target : List ℕ → ClientMessage
by_target [] = Refused ProtocolViolation
by_target (kind ∷ name) =
    if is_one_of (codes "SP") kind then by_names 1 name else Refused ProtocolViolation

-- Bind names a portal and a prepared statement, Describe and Close one of either, Parse a prepared
-- statement and Execute a portal
abbrev pub by_kind : ℕ → List ℕ → ClientMessage
by_kind kind body =
    if kind == 66 then by_names 2 body
    else (if is_one_of (codes "DC") kind then by_target body
    else by_names 1 body)

-- a message that is whole where this holds, and else no message of a client
abbrev pub valid : Bool → ClientMessage → ClientMessage
valid holds message = if holds then message else Refused ProtocolViolation

-- what a message asks for, with this limit, after messages of an extended query whose texts have
-- this many bytes.
-- X is Terminate. Q is Query, which isn't taken between those messages and their Sync. S is Sync,
-- which ends them. P, B, D, E and C are Parse, Bind, Describe, Execute and Close, whose texts have
-- no more bytes together than the limit. Flush, FunctionCall, CopyData, CopyDone and CopyFail are left
-- out. Any other is no message of a client.
unfoldable pub client_message : ℕ → ℕ → Frame → ClientMessage
client_message limit gathered frame =
    let size = length frame.body in
    if frame.kind == 88 then Terminate
    else (if frame.kind == 81 then
    valid ((gathered == 0) && nat_le (4 + size) limit && is_one_string frame.body) Request
    else (if frame.kind == 83 then valid (size == 0) Request
    else (if is_one_of (codes "PBDEC") frame.kind then
    valid (nat_le (gathered + (5 + size)) limit) (by_kind frame.kind frame.body)
    else (if is_one_of (codes "HFdcf") frame.kind then Refused FeatureNotSupported
    else Refused ProtocolViolation))))
