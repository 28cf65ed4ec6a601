-- A text that was written, as far as the stream took it.
use Rattle.std.proofs.Common.{◌≡◌, inl, inr, Bool, true, false, ℕ, List, refl}
use Rattle.startup.specs.declared.error_code.ErrorCode.{ErrorCode}
use Rattle.peer_forward.specs.Calls.{Effect}
use Rattle.client_state.specs.Acts.{fatal}
use Rattle.session_io.specs.StreamCalls.{SomeCalls, Wrote, WroteSome, Sends}
use Rattle.session_io.specs.Asking.{SendsError}

-- a text was written, whole or not
pub sends : {T : Type 0} (wrote gave : Effect T) (a b : T) (text : List ℕ) (whole : Bool)
    → (whole ≡ true → SomeCalls wrote gave a b (Wrote text))
    → (whole ≡ false → SomeCalls wrote gave a b (WroteSome text))
    → SomeCalls wrote gave a b (Sends text)
sends wrote gave a b text true did some = let calls = did refl in (calls.0, calls.1, inl calls.2)
sends wrote gave a b text false did some = let calls = some refl in (calls.0, calls.1, inr calls.2)

-- an error was written, whole or not
pub sends_error : {T : Type 0} (wrote gave : Effect T) (a b : T) (code : ErrorCode) (text : List ℕ)
    → text ≡ fatal code → SomeCalls wrote gave a b (Sends text)
    → SomeCalls wrote gave a b (SendsError code)
sends_error wrote gave a b code text is said = (said.0, said.1, (text, inl is, said.2))
