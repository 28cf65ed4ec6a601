-- Why a session ends with an error of its own, of the frames that it refuses, and the name of each
-- reason (PostgreSQL manual, "Message Formats" and "Extended Query"; the limits, and what isn't
-- supported, are own).
use Rattle.std.specs.Prelude.{ℕ, ◌+◌, ◌<◌, ◌==◌, ◌&&◌, nat_lt, if◌then◌else◌, codes, List, [], ◌∷◌, length}
use Rattle.client_state.specs.Text.{strings_in, is_one_of}
use Rattle.client_state.specs.declared.refusal.Refusal.{Refusal}
use Rattle.client_state.specs.declared.refusal.Refusal.TheVariants.{NamedStatement, Portal, Flush, FunctionCall, Copy, TooLong, Malformed, OutOfPlace, UnknownType, Notification, LinkLost, LinkMessage}

-- a message that begins with this many names, of which one isn't empty and is refused so; without
-- the names it is malformed
abbrev pub with_names : ℕ → Refusal → List ℕ → Refusal
with_names count refusal body = if nat_lt (strings_in body) count then Malformed else refusal

-- what a Bind names first: its portal, and where that name is empty its prepared statement
abbrev pub bind_names : List ℕ → Refusal
bind_names [] = Portal
bind_names (byte ∷ rest) = if byte == 0 then NamedStatement else Portal

-- what Describe and Close name: S a prepared statement, P a portal
abbrev pub target_names : List ℕ → Refusal
target_names [] = Malformed
target_names (kind ∷ name) =
    if kind == 83 then with_names 1 NamedStatement name
    else (if kind == 80 then with_names 1 Portal name
    else Malformed)

-- Bind has two names, Describe and Close one behind a kind, Execute that of a portal, and Parse
-- that of a prepared statement
abbrev pub names : ℕ → List ℕ → Refusal
names kind body =
    if kind == 66 then with_names 2 (bind_names body) body
    else (if is_one_of (codes "DC") kind then target_names body
    else (if kind == 69 then with_names 1 Portal body
    else with_names 1 NamedStatement body))

-- why a message of a client with this type and body is refused, with this limit, after messages of
-- an extended query whose texts have this many bytes.
-- Q is Query, which isn't taken between those messages and their Sync. P, B, D, E and C are Parse,
-- Bind, Describe, Execute and Close, whose texts have no more bytes together than the limit. H is
-- Flush, F FunctionCall, and d, c and f are CopyData, CopyDone and CopyFail. S and X are Sync and
-- Terminate. A session reads no message of another type.
unfoldable pub client_refusal : ℕ → ℕ → ℕ → List ℕ → Refusal
client_refusal limit gathered kind body =
    let bytes = gathered + (5 + length body) in
    if kind == 81 then (if gathered == 0 then Malformed else OutOfPlace)
    else (if is_one_of (codes "PBDEC") kind then
    (if nat_lt limit bytes then TooLong bytes else names kind body)
    else (if kind == 72 then Flush
    else (if kind == 70 then FunctionCall
    else (if is_one_of (codes "dcf") kind then Copy
    else (if is_one_of (codes "SX") kind then Malformed
    else UnknownType)))))

-- why a message of a server with this type and this length field is refused. G, H and W are
-- CopyInResponse, CopyOutResponse and CopyBothResponse, and A is NotificationResponse; Z with a
-- length field of 5 is ReadyForQuery, which is refused where nobody waits for it
unfoldable pub link_refusal : ℕ → ℕ → Refusal
link_refusal kind len =
    if is_one_of (codes "GHW") kind then Copy
    else (if kind == 65 then Notification
    else (if (kind == 90) && (len == 5) then OutOfPlace
    else LinkMessage))

-- messages that are refused for their length are above the limit
abbrev pub IsAbove : ℕ → Refusal → Type 0
IsAbove limit (TooLong bytes) = limit < bytes
IsAbove limit _ = Unit {0}

-- its name
abbrev pub name_text : Refusal → List ℕ
name_text NamedStatement = codes "named_statement"
name_text Portal = codes "portal"
name_text Flush = codes "flush"
name_text FunctionCall = codes "function_call"
name_text Copy = codes "copy"
name_text (TooLong bytes) = codes "too_long"
name_text Malformed = codes "malformed"
name_text OutOfPlace = codes "out_of_place"
name_text UnknownType = codes "unknown_type"
name_text Notification = codes "notification"
name_text LinkLost = codes "link_lost"
name_text LinkMessage = codes "link_message"
