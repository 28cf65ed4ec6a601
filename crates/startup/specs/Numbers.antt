-- Numbers of the refusals of a first packet, 1 to 9 (own).
use Rattle.std.specs.Prelude.{ℕ}
use Rattle.startup.specs.declared.startup_error.StartupError.{StartupError}
use Rattle.startup.specs.declared.startup_error.StartupError.TheVariants.{TooShort, TooLong, BadVersion, BadText, NoUser, BadCancelLength, Repeated, Truncated, Memory}

-- the number of a refusal
abbrev pub number_of_refusal : StartupError → ℕ
number_of_refusal TooShort = 1
number_of_refusal TooLong = 2
number_of_refusal BadVersion = 3
number_of_refusal BadText = 4
number_of_refusal NoUser = 5
number_of_refusal BadCancelLength = 6
number_of_refusal Repeated = 7
number_of_refusal Truncated = 8
number_of_refusal Memory = 9
