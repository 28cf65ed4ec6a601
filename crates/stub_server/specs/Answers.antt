-- What the stand-in server does with a message (own; PostgreSQL manual, "Message Formats").
-- `answer`: what is sent for a query in a state of the transaction, and the state after it.
-- `interrupted`: the same for a query that was interrupted. `Does`: what is done with any message.
use Rattle.std.specs.Prelude.{ℕ, ◌≡◌, ◌⊎◌, List, [], ◌∷◌, ◌++◌, length, codes}
use Rattle.byteorder.specs.Endian.{big_bytes}
use Rattle.pg_frames.specs.declared.frame.Frame.{Frame}
use Rattle.startup.specs.ErrorCode.{code_text, message_text, severity_text}
use Rattle.startup.specs.Replies.{zero_ended, error_fields}
use Rattle.startup.specs.declared.error_code.ErrorCode.{ErrorCode}
use Rattle.startup.specs.declared.error_code.ErrorCode.TheVariants.{FeatureNotSupported, QueryCanceled}
use Rattle.startup.specs.declared.error_code.Severity.TheVariants.{Error}
use Rattle.stub_server.specs.declared.act.Act.{Act}
use Rattle.stub_server.specs.declared.act.Act.TheVariants as act
use Rattle.stub_server.specs.declared.transaction.Transaction.{Transaction}
use Rattle.stub_server.specs.declared.transaction.Transaction.TheVariants.{Idle, Open, Failed}
use Rattle.stub_server.specs.Query.{Query, Hold, Echo, Begin, Commit, Other, Asks, IsQuery}

-- ---- messages

-- a message of this type
abbrev pub frame : ℕ → List ℕ → Frame
frame kind body = record { kind = kind; body = body }

-- RowDescription of the one column `echo`: of no table, and of no column there; of the type `text`,
-- with a length of any size and without a modifier; in text format
abbrev pub row_description : Frame
row_description = frame 84 (big_bytes 2 1 ++ zero_ended (codes "echo") ++ big_bytes 4 0
    ++ big_bytes 2 0 ++ big_bytes 4 25 ++ big_bytes 2 65535 ++ big_bytes 4 4294967295
    ++ big_bytes 2 0)

-- DataRow of one value: its length, and its bytes
abbrev pub data_row : List ℕ → Frame
data_row value = frame 68 (big_bytes 2 1 ++ big_bytes 4 (length value) ++ value)

-- CommandComplete
abbrev pub command_complete : List ℕ → Frame
command_complete tag = frame 67 (zero_ended tag)

-- ErrorResponse: the query failed, and the session goes on
abbrev pub error_response : ErrorCode → Frame
error_response code =
    frame 69 (error_fields (severity_text Error) (code_text code) (message_text code))

-- a row of one value: its description, the row, and that the command is complete
abbrev pub row : List ℕ → List Frame
row value = row_description ∷ data_row value ∷ command_complete (codes "SELECT 1") ∷ []

-- what ReadyForQuery says of a transaction: I, T or E
abbrev pub status_of : Transaction → ℕ
status_of Idle = 73
status_of Open = 84
status_of Failed = 69

-- ReadyForQuery
abbrev pub ready_for_query : Transaction → Frame
ready_for_query transaction = frame 90 (status_of transaction ∷ [])

-- ---- answers

-- what a session does with a message, and how its transaction stands then: it sends messages, runs
-- the query until that is interrupted, or closes the connection
pub data Outcome : Type 0 where
  Replies : (messages : List Frame) (after : Transaction) → Outcome
  Holds : (after : Transaction) → Outcome
  Closes : (after : Transaction) → Outcome

-- an answer, and the transaction from then on
abbrev pub replies : List Frame → Transaction → Outcome
replies messages after = Replies (messages ++ ready_for_query after ∷ []) after

-- an error fails the transaction, if one is open
abbrev pub after_error : Transaction → Transaction
after_error Idle = Idle
after_error Open = Failed
after_error Failed = Failed

abbrev pub fails : ErrorCode → Transaction → Outcome
fails code transaction = replies (error_response code ∷ []) (after_error transaction)

-- the answer to a query that runs and is interrupted
abbrev pub interrupted : Transaction → Outcome
interrupted transaction = fails QueryCanceled transaction

-- a query where no transaction failed
abbrev pub run : Query → Transaction → Outcome
run Hold transaction = Holds transaction
run (Echo value) transaction = replies (row value) transaction
run Begin transaction = replies (command_complete (codes "BEGIN") ∷ []) Open
run Commit transaction = replies (command_complete (codes "COMMIT") ∷ []) Idle
run Other transaction = fails FeatureNotSupported transaction

-- a query in a failed transaction, which commit alone ends
abbrev pub refuse : Query → Transaction → Outcome
refuse Hold transaction = fails FeatureNotSupported transaction
refuse (Echo value) transaction = fails FeatureNotSupported transaction
refuse Begin transaction = fails FeatureNotSupported transaction
refuse Commit transaction = replies (command_complete (codes "ROLLBACK") ∷ []) Idle
refuse Other transaction = fails FeatureNotSupported transaction

-- a query
abbrev pub answer : Query → Transaction → Outcome
answer query Idle = run query Idle
answer query Open = run query Open
answer query Failed = refuse query Failed

-- what the code did
abbrev pub outcome_of : Act → Transaction → Outcome
outcome_of (act.Reply messages) after = Replies messages.items after
outcome_of act.Hold after = Holds after
outcome_of act.Close after = Closes after

-- A message: a query is answered, and any other closes the connection.
abbrev pub Does : Frame → Transaction → Outcome → Type 0
Does message transaction outcome =
    ((text : List ℕ) × (query : Query) × IsQuery message text × Asks query text
    × (outcome ≡ answer query transaction))
    ⊎ (((text : List ℕ) → IsQuery message text → ⊥) × (outcome ≡ Closes transaction))
