-- What a session does with each frame of its client and of its link, and its state after that (own,
-- after PgBouncer's transaction pooling).
use Rattle.std.specs.Prelude.{ℕ, zero, suc, ◌≡◌, ◌+◌, ◌⊎◌, Bool, true, false, List, [], ◌∷◌, ◌++◌, length}
use Rattle.pg_frames.specs.declared.frame.Frame.{Frame}
use Rattle.pg_frames.specs.FrameText.{text}
use Rattle.startup.specs.declared.error_code.ErrorCode.{ErrorCode}
use Rattle.startup.specs.declared.error_code.ErrorCode.TheVariants.{ConnectionFailure}
use Rattle.startup.specs.declared.error_code.Severity.{Severity}
use Rattle.startup.specs.declared.error_code.Severity.TheVariants.{Fatal}
use Rattle.startup.specs.ErrorCode.{code_text, message_text, severity_text}
use Rattle.startup.specs.Replies.{message, error_response}
use Rattle.client_state.specs.declared.act.Act.{Act}
use Rattle.client_state.specs.declared.act.Act.TheVariants.{ToLink, ToClient, Need, Release, Close, End}
use Rattle.client_state.specs.declared.act.HeadAct.{HeadAct}
use Rattle.client_state.specs.declared.act.HeadAct.TheVariants.{PassOn as Passes, Ready as Reads, Close as Closes}
use Rattle.client_state.specs.declared.client_message.ClientMessage.{ClientMessage}
use Rattle.client_state.specs.declared.client_message.ClientMessage.TheVariants.{Request, Gathered, Terminate, Refused as Refuses}
use Rattle.client_state.specs.declared.link_message.LinkMessage.{LinkMessage}
use Rattle.client_state.specs.declared.link_message.LinkMessage.TheVariants.{PassOn, Ready, Refused}
use Rattle.client_state.specs.declared.link_message.Status.{Status}
use Rattle.client_state.specs.declared.link_message.Status.TheVariants.{Idle, InTransaction, Unknown}
use Rattle.client_state.specs.ClientMessage.{client_message}
use Rattle.client_state.specs.LinkMessage.{link_message, status_of}
use Rattle.client_state.specs.Session.{Session}

-- a session at its start
abbrev pub start : ℕ → ℕ → Session
start limit database = record {
  limit = limit;
  database = database;
  leased = false;
  outstanding = 0;
  gathered = [];
}

-- a session without its lease, with what was outstanding there and what was gathered forgotten
abbrev pub over : Session → Session
over old = start old.limit old.database

-- the ErrorResponse of a severity and a code
abbrev pub error_text : Severity → ErrorCode → List ℕ
error_text severity code =
    error_response (severity_text severity) (code_text code) (message_text code)

-- the error that ends a session
abbrev pub fatal : ErrorCode → List ℕ
fatal code = error_text Fatal code

-- the ReadyForQuery of a status
abbrev pub ready_text : ℕ → List ℕ
ready_text status = message 90 (status ∷ [])

-- the end of a session: a held lease is closed
abbrev pub ends : Bool → List ℕ → Act
ends false text = End text
ends true text = Close text

-- a request goes to the link, which is acquired where none is held
abbrev pub asks : Bool → List ℕ → Act
asks false text = Need text
asks true text = ToLink text

-- the act on a client's frame by what it asks for
abbrev pub act_on_client : ClientMessage → Session → Frame → Act
act_on_client Request old frame = asks old.leased (old.gathered ++ text frame)
act_on_client Gathered old frame = ToClient []
act_on_client Terminate old frame = ends old.leased []
act_on_client (Refuses code) old frame = ends old.leased (fatal code)

-- what is known then: a request counts as outstanding, and needs a lease
abbrev pub session_after : ClientMessage → Session → Frame → Session
session_after Request old frame =
    record old { leased = true; outstanding = old.outstanding + 1; gathered = [] }
session_after Gathered old frame = record old { gathered = old.gathered ++ text frame }
session_after Terminate old frame = over old
session_after (Refuses code) old frame = over old

-- the act on a client's frame that asks for this, and what is known then; or, where memory was
-- refused, the end of the session without an error
abbrev pub ActsOn : ClientMessage → Session → Frame → Act → Session → Type 0
ActsOn message old frame act new =
    ((act ≡ act_on_client message old frame) × (new ≡ session_after message old frame))
    ⊎ ((act ≡ ends old.leased []) × (new ≡ over old))

-- the act on a client's frame
abbrev pub ActsOnClient : Session → Frame → Act → Session → Type 0
ActsOnClient old frame act new =
    ActsOn (client_message old.limit (length old.gathered) frame) old frame act new

-- the end of a session with this error, or without it where memory for it was refused
abbrev pub EndsWith : Bool → ErrorCode → Act → Type 0
EndsWith leased code act = (act ≡ ends leased (fatal code)) ⊎ (act ≡ ends leased [])

-- the act on the head of a link's frame, by how many requests are outstanding
abbrev pub act_on_head : LinkMessage → ℕ → HeadAct
act_on_head PassOn outstanding = Passes
act_on_head Ready zero = Closes (fatal ConnectionFailure)
act_on_head Ready (suc outstanding) = Reads
act_on_head (Refused code) outstanding = Closes (fatal code)

abbrev pub head_act : Session → ℕ → ℕ → HeadAct
head_act old kind len = act_on_head (link_message kind len) old.outstanding

-- what is known then: a closed link's session is over
abbrev pub session_at : HeadAct → Session → Session
session_at Passes old = old
session_at Reads old = old
session_at (Closes text) old = over old

abbrev pub after_head : Session → ℕ → ℕ → Session
after_head old kind len = session_at (head_act old kind len) old

-- the act, or the same without its error where memory for it was refused
abbrev pub IsHeadAct : HeadAct → HeadAct → Type 0
IsHeadAct Passes act = act ≡ Passes
IsHeadAct Reads act = act ≡ Reads
IsHeadAct (Closes text) act = (act ≡ Closes text) ⊎ (act ≡ Closes [])

-- the act on the status of a ReadyForQuery, by how many requests are outstanding
abbrev pub act_on_status : Status → ℕ → ℕ → Act
act_on_status Idle status (suc outstanding) = Release (ready_text status)
act_on_status InTransaction status (suc outstanding) = ToClient (ready_text status)
act_on_status Idle status zero = Close (fatal ConnectionFailure)
act_on_status InTransaction status zero = Close (fatal ConnectionFailure)
act_on_status Unknown status outstanding = Close (fatal ConnectionFailure)

abbrev pub ready_act : Session → ℕ → Act
ready_act old status = act_on_status (status_of status) status old.outstanding

-- what is known then: a ReadyForQuery ends a request, and an idle one the lease
abbrev pub session_ready : Status → ℕ → Session → Session
session_ready Idle (suc outstanding) old = record old { leased = false; outstanding = outstanding }
session_ready InTransaction (suc outstanding) old = record old { outstanding = outstanding }
session_ready Idle zero old = over old
session_ready InTransaction zero old = over old
session_ready Unknown outstanding old = over old

abbrev pub after_ready : Session → ℕ → Session
after_ready old status = session_ready (status_of status) old.outstanding old

-- the act, or the same without its error where memory for it was refused
abbrev pub IsReadyAct : Act → Act → Type 0
IsReadyAct (Close text) act = (act ≡ Close text) ⊎ (act ≡ Close [])
IsReadyAct (End text) act = act ≡ End text
IsReadyAct (ToLink text) act = act ≡ ToLink text
IsReadyAct (ToClient text) act = act ≡ ToClient text
IsReadyAct (Need text) act = act ≡ Need text
IsReadyAct (Release text) act = act ≡ Release text
