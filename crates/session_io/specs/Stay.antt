-- What a session does on a link from a request on, until the link is released or closed (own, after
-- PgBouncer's transaction pooling; PostgreSQL manual, "Message Flow"). `Stay`: rounds of a request,
-- its whole reply, and the next request; then how it ends. `to_link` and `to_client` are what each
-- side gets.
use Rattle.std.specs.Prelude.{◌≡◌, ℕ, List, [], ◌∷◌, ◌++◌}
use Rattle.std.specs.List.{AllByRecursion, flat_map}
use Rattle.peer_forward.specs.Calls.{Call, taken}
use Rattle.pg_frames.specs.declared.frame.Frame.{Frame}
use Rattle.pg_frames.specs.FrameText.{texts}
use Rattle.startup.specs.declared.error_code.ErrorCode.TheVariants.{ConnectionFailure}
use Rattle.client_state.specs.Acts.{ready_text}
use Rattle.client_state.specs.LinkMessage.{status_of}
use Rattle.client_state.specs.Request.{Asks, request_of}
use Rattle.client_state.specs.declared.client_message.ClientMessage.TheVariants.{Request}
use Rattle.client_state.specs.declared.link_message.Status.TheVariants.{InTransaction}
use Rattle.session_io.specs.declared.session.outcome.Stayed.{Stayed}
use Rattle.session_io.specs.declared.session.outcome.Stayed.TheVariants.{Release, Close, End}
use Rattle.session_io.specs.StreamCalls.{given, IsDone, Wrote, WroteSome, Read}
use Rattle.session_io.specs.Asking.{Leaving, Says, Faulty, Silent, NoMemory, Leaves}
use Rattle.session_io.specs.Replying.{ReplyEnd, Ready, Replies, passed_on, EndsBy, EndsStay}

-- a reply that leaves a transaction open, and the request that the client makes then
pub record Round : Type 0 where
  -- the reply: its frames that are passed on, and the status of its ReadyForQuery
  pub frames : List Frame
  pub status : ℕ
  -- the next request: messages that are gathered, and the one with which it is whole
  pub parts : List Frame
  pub last : Frame

-- the text of the next request
abbrev pub asked : Round → List ℕ
asked round = request_of round.parts round.last

-- The request was written to the link. After that its reply was read from there, not a byte more,
-- and was written to the client. After that the next request was read.
pub record IsRound (limit : ℕ) (request before kept : List ℕ) (round : Round)
    (link client : List Call)
    (left : List ℕ) : Type 0 where
  pub sends : List Call
  pub reads : List Call
  pub link_is : link ≡ sends ++ reads
  pub tells : List Call
  pub asks : List Call
  pub client_is : client ≡ tells ++ asks
  pub sent : Wrote request sends
  pub replied : Replies limit before round.frames (Ready round.status []) reads tells
  pub in_transaction : status_of round.status ≡ InTransaction
  pub bytes : List ℕ
  pub read : Read bytes asks
  pub bytes_are : kept ++ bytes ≡ asked round ++ left
  pub requested : Asks limit round.parts round.last Request

-- how a stay ends
pub data Ending : Type 0 where
  -- the link doesn't take the request
  Unsent : Ending
  -- with the reply
  Replied : List Frame → ReplyEnd → Ending
  -- the reply leaves a transaction open, and the client leaves
  Deserted : List Frame → (status : ℕ) → Leaving → Ending

-- It ends so, with a request in hand.
abbrev pub Ends : ℕ → Ending → List ℕ → List ℕ → List ℕ → List Call → List Call → Stayed → List ℕ
    → Type 0
Ends limit Unsent request before kept link client outcome left =
    WroteSome request link × (client ≡ []) × (left ≡ kept) × EndsBy ConnectionFailure outcome
Ends limit (Replied frames end) request before kept link client outcome left =
    (sends : List Call) × (reads : List Call) × (link ≡ sends ++ reads)
    × Wrote request sends × Replies limit before frames end reads client
    × EndsStay limit end outcome
    × (left ≡ kept)
Ends limit (Deserted frames status leaving) request before kept link client outcome left =
    (sends : List Call) × (reads : List Call) × (link ≡ sends ++ reads)
    × (tells : List Call) × (asks : List Call) × (client ≡ tells ++ asks)
    × Wrote request sends × Replies limit before frames (Ready status []) reads tells
    × (status_of status ≡ InTransaction)
    × (reply : List ℕ) × Leaves limit leaving kept asks reply left × (outcome ≡ End reply)

-- Rounds, one after another, and then the end.
abbrev pub Runs : ℕ → List Round → Ending → List ℕ → List ℕ → List ℕ → List Call → List Call
    → Stayed
    → List ℕ → Type 0
Runs limit [] ending request before kept link client outcome left =
    Ends limit ending request before kept link client outcome left
Runs limit (round ∷ rounds) ending request before kept link client outcome left =
    (link_first : List Call) × (link_more : List Call) × (link ≡ link_first ++ link_more)
    × (client_first : List Call) × (client_more : List Call)
    × (client ≡ client_first ++ client_more) × (next : List ℕ)
    × IsRound limit request before kept round link_first client_first next
    × Runs limit rounds ending (asked round) [] next link_more client_more outcome left

-- the texts of all requests
abbrev pub to_link : List ℕ → List Round → List ℕ
to_link request rounds = request ++ flat_map asked rounds

-- the text of a whole reply
abbrev pub reply_text : List Frame → ℕ → List ℕ
reply_text frames status = texts frames ++ ready_text status

-- the texts of all frames that are passed on
abbrev pub told_in : Round → List ℕ
told_in round = reply_text round.frames round.status

abbrev pub told_at : Ending → List ℕ
told_at Unsent = []
told_at (Replied frames end) = passed_on frames end
told_at (Deserted frames status leaving) = reply_text frames status

abbrev pub to_client : List Round → Ending → List ℕ
to_client rounds ending = flat_map told_in rounds ++ told_at ending

-- what was taken of the client's input: the requests after the first, and what came before the end
abbrev pub left_by : Leaving → List ℕ
left_by (Says parts last) = request_of parts last
left_by (Faulty parts fault) = texts parts
left_by (Silent parts) = texts parts
left_by (NoMemory parts rest) = texts parts ++ rest

abbrev pub asked_at : Ending → List ℕ
asked_at (Deserted frames status leaving) = left_by leaving
asked_at Unsent = []
asked_at (Replied frames end) = []

abbrev pub asked_for : List Round → Ending → List ℕ
asked_for rounds ending = flat_map asked rounds ++ asked_at ending

-- the calls wrote this: all of it, unless one of them failed, and else a beginning
pub record IsWritten (text : List ℕ) (calls : List Call) : Type 0 where
  pub rest : List ℕ
  pub beginning : text ≡ taken calls ++ rest
  pub whole : AllByRecursion IsDone calls → rest ≡ []

-- the session goes on after the stay
abbrev pub SessionGoesOn : Stayed → Type 0
SessionGoesOn Release = Unit {0}
SessionGoesOn Close = Unit {0}
SessionGoesOn (End reply) = ⊥

-- memory for a message of the client was refused
abbrev pub IsRefusedMemory : Ending → Type 0
IsRefusedMemory (Deserted frames status (NoMemory parts rest)) = Unit {0}
IsRefusedMemory ending = ⊥

-- A stay on a link with a request in hand. `before` is what was read of the link before, and `kept`
-- what was read of the client; the calls are those on both streams, and `left` is what is kept of
-- the client's input then.
pub record Stay (limit : ℕ) (request before kept : List ℕ) (link client : List Call)
    (outcome : Stayed)
    (left : List ℕ) : Type 0 where
  pub rounds : List Round
  pub ending : Ending
  pub runs : Runs limit rounds ending request before kept link client outcome left
  -- The link took the texts of all requests, or a beginning of them where one of its calls failed,
  -- and the client the texts of all frames that are passed on, likewise.
  pub sent : IsWritten (to_link request rounds) link
  pub told : IsWritten (to_client rounds ending) client
  -- Where the session goes on, both took all.
  pub whole : SessionGoesOn outcome
      → (taken link ≡ to_link request rounds) × (taken client ≡ to_client rounds ending)
  -- What is left is what follows what was taken.
  pub left_is : (IsRefusedMemory ending → ⊥)
      → kept ++ given client ≡ asked_for rounds ending ++ left
