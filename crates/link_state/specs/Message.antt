-- What a server's message means to a login: nothing, a key, that the server is ready (idle or not),
-- or a fault (PostgreSQL manual, "Message Flow": Start-up, and "Message Formats"; which messages
-- are accepted is own).
use Rattle.std.specs.Prelude.{ℕ, ◌+◌, Bool, true, false, ◌==◌, ◌||◌, List, [], ◌∷◌, length, nat_lt, if◌then◌else◌, Option, Some, None}
use Rattle.byteorder.specs.Endian.{big_number}
use Rattle.pg_frames.specs.declared.frame.Frame.{Frame}
use Rattle.link_state.specs.declared.error.LinkError.TheVariants.{AuthAsked, ServerError, OutOfProfile}
use Rattle.link_state.specs.declared.message.Message.{Message}
use Rattle.link_state.specs.declared.message.Message.TheVariants.{Passed, Key, Ready, Fault}
use Rattle.link_state.specs.declared.head.Head.{Head}
use Rattle.link_state.specs.declared.head.Head.TheVariants.{Skipped, Fault as Fails, OtherReady, Body}
use Rattle.link_state.specs.declared.part.Part.{Part}
use Rattle.link_state.specs.declared.part.Part.TheVariants.{Number, Key as KeyData, Status}

-- the status of ReadyForQuery is one byte: I where no transaction is open
abbrev pub is_idle : List ℕ → Bool
is_idle [] = false
is_idle (status ∷ []) = status == 73
is_idle (status ∷ more ∷ rest) = false

-- what a message means in which this part is these bytes: the number 0 is AuthenticationOk
abbrev pub message_in : Part → List ℕ → Message
message_in Number bytes = if big_number 4 bytes == 0 then Passed else Fault AuthAsked
message_in KeyData bytes = Key bytes
message_in Status bytes = Ready (is_idle bytes)

-- how many bytes a part has
abbrev pub part_len : Part → ℕ
part_len Number = 4
part_len KeyData = 8
part_len Status = 1

-- R is an authentication request, S ParameterStatus, N NoticeResponse, K BackendKeyData, Z
-- ReadyForQuery and E ErrorResponse; no other type is part of a login here. The length field counts
-- itself.
unfoldable pub head_of : ℕ → ℕ → Head
head_of kind len =
    if kind == 82 then (if nat_lt len 8 then Fails OutOfProfile else Body Number)
    else (if (kind == 83) || (kind == 78) then Skipped
    else (if kind == 75 then (if len == 12 then Body KeyData else Fails OutOfProfile)
    else (if kind == 90 then (if len == 5 then Body Status else OtherReady)
    else (if kind == 69 then Fails ServerError
    else Fails OutOfProfile))))

-- how many bytes of its body a login reads, none where the head alone says what the message means
abbrev pub part_of : Head → Option ℕ
part_of Skipped = None
part_of (Fails error) = None
part_of OtherReady = None
part_of (Body part) = Some (part_len part)

-- what a message means with this head and this body; what follows the part that is read is passed
-- over (own)
abbrev pub message_of : Head → List ℕ → Message
message_of Skipped body = Passed
message_of (Fails error) body = Fault error
message_of OtherReady body = Ready false
message_of (Body part) body = message_in part body

-- what a message means
abbrev pub message : Frame → Message
message frame = message_of (head_of frame.kind (4 + length frame.body)) frame.body

-- a login goes on after it
abbrev pub goes_on : Message → Bool
goes_on Passed = true
goes_on (Key key) = true
goes_on (Ready idle) = false
goes_on (Fault error) = false

-- the key that it gives
abbrev pub key_in : Message → Option (List ℕ)
key_in Passed = None
key_in (Key key) = Some key
key_in (Ready idle) = None
key_in (Fault error) = None
