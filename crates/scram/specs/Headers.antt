-- Why a text has no gs2-header that is accepted (internal).
use Rattle.std.specs.Prelude.{ℕ, ◌≢◌, ◌++◌, List}
use Rattle.scram.specs.Flag.{gs2_header}
use Rattle.scram.specs.Server.{AsksBinding, AsksIdentity}
use Rattle.scram.specs.declared.flag.Gs2Flag.{Gs2Flag}
use Rattle.scram.specs.declared.server_error.ServerError.{ServerError}
use Rattle.scram.specs.declared.server_error.ServerError.TheVariants.{BadNonce, Malformed, ChannelBinding, Authorization, Extension, OtherBinding, OtherNonce, BadProof, Memory}

-- it has another, or none
abbrev pub TellsNoHeader : List ℕ → ServerError → Type 0
TellsNoHeader text ChannelBinding = AsksBinding text
TellsNoHeader text Authorization = AsksIdentity text
TellsNoHeader text Malformed =
    ¬ (AsksBinding text) × ¬ (AsksIdentity text)
    × ((flag : Gs2Flag) (rest : List ℕ) → text ≢ gs2_header flag ++ rest)
TellsNoHeader text BadNonce = ⊥
TellsNoHeader text Extension = ⊥
TellsNoHeader text OtherBinding = ⊥
TellsNoHeader text OtherNonce = ⊥
TellsNoHeader text BadProof = ⊥
TellsNoHeader text Memory = ⊥
