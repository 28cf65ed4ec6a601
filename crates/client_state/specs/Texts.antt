-- The bytes of the replies that a session makes itself (internal).
use Rattle.std.specs.Prelude.{ℕ, ◌≡◌, List, [], ◌∷◌}
use Rattle.startup.specs.declared.error_code.Severity.{Severity}
use Rattle.startup.specs.ErrorCode.{code_text, message_text, severity_text}
use Rattle.startup.specs.Replies.{message, error_response}
use Rattle.client_state.specs.declared.reply.Text.{Text}
use Rattle.client_state.specs.declared.reply.Text.TheVariants.{Nothing, Ready, Error}

-- the bytes that are kept
abbrev pub bytes_of : Text → List ℕ
bytes_of Nothing = []
bytes_of (Ready text) = text
bytes_of (Error code text) = text.items

-- they are a ReadyForQuery, or the ErrorResponse with this code
abbrev pub IsText : Text → Type 0
IsText Nothing = Unit {0}
IsText (Ready text) = (status : ℕ) × (text ≡ message 90 (status ∷ []))
IsText (Error code text) = (severity : Severity)
    × (text.items ≡ error_response (severity_text severity) (code_text code) (message_text code))
