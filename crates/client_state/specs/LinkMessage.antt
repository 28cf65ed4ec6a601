-- What a server's message means to a session, by its type and length, and the status of a
-- ReadyForQuery (PostgreSQL manual, "Message Formats"; which messages are passed on is own).
use Rattle.std.specs.Prelude.{ℕ, ◌==◌, ◌&&◌, ◌||◌, if◌then◌else◌, codes}
use Rattle.startup.specs.declared.error_code.ErrorCode.TheVariants.{FeatureNotSupported, ConnectionFailure}
use Rattle.client_state.specs.Text.{is_one_of}
use Rattle.client_state.specs.declared.link_message.LinkMessage.{LinkMessage}
use Rattle.client_state.specs.declared.link_message.LinkMessage.TheVariants.{PassOn, Ready, Refused}
use Rattle.client_state.specs.declared.link_message.Status.{Status}
use Rattle.client_state.specs.declared.link_message.Status.TheVariants.{Idle, InTransaction, Unknown}

-- RowDescription, DataRow, CommandComplete, EmptyQueryResponse, ErrorResponse, NoticeResponse,
-- ParameterStatus, ParseComplete, BindComplete, CloseComplete, NoData, PortalSuspended and
-- ParameterDescription are passed on; Z with a length field of 5 is ReadyForQuery; CopyInResponse,
-- CopyOutResponse and CopyBothResponse are left out of this profile
unfoldable pub link_message : ℕ → ℕ → LinkMessage
link_message kind len =
    if is_one_of (codes "TDCIENS123nst") kind then PassOn
    else (if (kind == 90) && (len == 5) then Ready
    else (if is_one_of (codes "GHW") kind then Refused FeatureNotSupported
    else Refused ConnectionFailure))

-- the status of ReadyForQuery: I is idle, T in a transaction, E in a failed one
abbrev pub status_of : ℕ → Status
status_of status =
    if status == 73 then Idle
    else (if (status == 84) || (status == 69) then InTransaction
    else Unknown)
