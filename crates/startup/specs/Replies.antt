-- What a pooler writes to a client: the reply to a login, and ErrorResponse (PostgreSQL manual,
-- "Message Formats" and "Error and Notice Message Fields"; which parameters a login reports is
-- own).
use Rattle.std.specs.Prelude.{ℕ, ◌+◌, ◌≤◌, List, [], ◌∷◌, ◌++◌, length, codes, flat_map, Option, Some, None}
use Rattle.byteorder.specs.Endian.{big_bytes}
use Rattle.startup.specs.StartupMessage.{HasNoZero}
use Rattle.pg_ids.specs.Key.{key_bytes}
use Rattle.pg_ids.specs.AnyKey.{long_part_bytes}
use Rattle.pg_ids.specs.declared.any_key.AnyKey.{AnyKey}
use Rattle.pg_ids.specs.declared.any_key.AnyKey.TheVariants.{Short, Long}

-- a message: its type byte, four bytes with the length of all that follows the type, and its body
abbrev pub message : ℕ → List ℕ → List ℕ
message kind body = kind ∷ big_bytes 4 (4 + length body) ++ body

-- a text, and the zero byte that ends it
abbrev pub zero_ended : List ℕ → List ℕ
zero_ended text = text ++ 0 ∷ []

-- AuthenticationOk
abbrev pub authentication_ok : List ℕ
authentication_ok = message 82 (big_bytes 4 0)

-- ParameterStatus
abbrev pub parameter_status : List ℕ → List ℕ → List ℕ
parameter_status name value = message 83 (zero_ended name ++ zero_ended value)

-- BackendKeyData, none where the client has no key
abbrev pub backend_key_data : Option AnyKey → List ℕ
backend_key_data None = []
backend_key_data (Some (Short key)) = message 75 (key_bytes key)
backend_key_data (Some (Long key part)) = message 75 (key_bytes key ++ long_part_bytes part)

-- ReadyForQuery, idle
abbrev pub ready_for_query : List ℕ
ready_for_query = message 90 (73 ∷ [])

-- what every login begins with: AuthenticationOk, and three parameters
abbrev pub login_start : List ℕ
login_start =
    authentication_ok ++ parameter_status (codes "server_version") (codes "16")
    ++ parameter_status (codes "server_encoding") (codes "UTF8")
    ++ parameter_status (codes "client_encoding") (codes "UTF8")

-- what a client reads once it is logged in
abbrev pub login : Option AnyKey → List ℕ
login key = login_start ++ backend_key_data key ++ ready_for_query

-- a parameter that logins report beside those, and its value
pub record Report : Type 0 where
  pub name : List ℕ
  pub value : List ℕ

-- the messages that report parameters, in order
abbrev pub statuses : List Report → List ℕ
statuses reports = flat_map (λ report. parameter_status report.name report.value) reports

-- what a client reads once it is logged in, where logins report these parameters
abbrev pub login_reporting : List Report → Option AnyKey → List ℕ
login_reporting reports key =
    login_start ++ statuses reports ++ backend_key_data key ++ ready_for_query

-- a field of an ErrorResponse: its type byte and its text
abbrev pub error_field : ℕ → List ℕ → List ℕ
error_field kind text = kind ∷ zero_ended text

-- the fields of an ErrorResponse: the severity twice, as it may be translated and as it isn't, the
-- code and the message; and the zero byte that ends them
abbrev pub error_fields : List ℕ → List ℕ → List ℕ → List ℕ
error_fields severity code text =
    error_field 83 severity ++ error_field 86 severity ++ error_field 67 code ++ error_field 77 text
    ++ 0 ∷ []

-- ErrorResponse
abbrev pub error_response : List ℕ → List ℕ → List ℕ → List ℕ
error_response severity code text = message 69 (error_fields severity code text)

-- a text that a field can hold: no zero byte, and at most 8,000 bytes (own)
pub record IsFieldText (text : List ℕ) : Type 0 where
  pub no_zero : HasNoZero text
  pub short : length text ≤ 8000
