-- The errors that clients get: SQLSTATE codes (PostgreSQL manual, appendix "PostgreSQL Error
-- Codes") with messages of this project, the severities, and which refusal is reported by which
-- code.
use Rattle.std.specs.Prelude.{ℕ, List, codes, Option, Some, None}
use Rattle.startup.specs.declared.error_code.ErrorCode.{ErrorCode}
use Rattle.startup.specs.declared.error_code.ErrorCode.TheVariants.{ProtocolViolation, FeatureNotSupported, InvalidCatalogName, TooManyConnections, OutOfMemory, ConnectionFailure, InvalidAuthorization, AdminShutdown, QueryCanceled}
use Rattle.startup.specs.declared.error_code.Severity.{Severity}
use Rattle.startup.specs.declared.error_code.Severity.TheVariants.{Error, Fatal}
use Rattle.startup.specs.declared.startup_error.StartupError.{StartupError}
use Rattle.startup.specs.declared.startup_error.StartupError.TheVariants.{TooShort, TooLong, BadVersion, BadText, NoUser, BadCancelLength, Repeated, Truncated, Memory}

-- of each condition the five characters of its code, and what a person reads
abbrev pub texts : ErrorCode → List ℕ × List ℕ
texts ProtocolViolation = (codes "08P01", codes "protocol violation")
texts FeatureNotSupported = (codes "0A000", codes "not in this profile")
texts InvalidCatalogName = (codes "3D000", codes "no such database")
texts TooManyConnections = (codes "53300", codes "too many clients")
texts OutOfMemory = (codes "53200", codes "out of memory")
texts ConnectionFailure = (codes "08006", codes "server connection lost")
texts InvalidAuthorization = (codes "28000", codes "no user name")
texts AdminShutdown = (codes "57P01", codes "node restarted")
texts QueryCanceled = (codes "57014", codes "query canceled")

-- the code
abbrev pub code_text : ErrorCode → List ℕ
code_text error = (texts error).0

-- what a person reads
abbrev pub message_text : ErrorCode → List ℕ
message_text error = (texts error).1

-- how grave it is: a FATAL error ends the session
abbrev pub severity_text : Severity → List ℕ
severity_text Error = codes "ERROR"
severity_text Fatal = codes "FATAL"

-- the error that a client gets for a refused first packet, and none where the packet might not be
-- a client's (own)
abbrev pub told_of_refusal : StartupError → Option ErrorCode
told_of_refusal TooShort = Some ProtocolViolation
told_of_refusal TooLong = Some ProtocolViolation
told_of_refusal BadVersion = Some FeatureNotSupported
told_of_refusal BadText = Some ProtocolViolation
told_of_refusal NoUser = Some InvalidAuthorization
told_of_refusal BadCancelLength = None
told_of_refusal Repeated = Some ProtocolViolation
told_of_refusal Truncated = None
told_of_refusal Memory = Some OutOfMemory
