-- Numbers of the refusals of a login at a server, 50 to 53 (own).
use Rattle.std.specs.Prelude.{ℕ}
use Rattle.link_state.specs.declared.error.LinkError.{LinkError}
use Rattle.link_state.specs.declared.error.LinkError.TheVariants.{NoKey, AuthAsked, ServerError, OutOfProfile}

-- the number of a refusal
abbrev pub number_of : LinkError → ℕ
number_of NoKey = 50
number_of AuthAsked = 51
number_of ServerError = 52
number_of OutOfProfile = 53
