-- A client's session from its login to its end (own, after PgBouncer's transaction pooling;
-- PostgreSQL manual, "Message Flow"). `Fate`: what comes of a request. `EndsWith`: what is written
-- at the session's end because of that. `ServesClient`: the login, requests one after another, and
-- the end.
use Rattle.std.specs.Prelude.{◌≡◌, ◌⊎◌, ℕ, List, [], ◌∷◌, ◌++◌, Option, Some, None, Result, Ok, Err}
use Rattle.pg_ids.specs.declared.any_key.AnyKey.{AnyKey}
use Rattle.lease.specs.LinkValue.{LinkValue}
use Rattle.lease.specs.declared.link_record.LinkRecord.{LinkRecord}
use Rattle.lease.specs.declared.pass.PassRecord.{PassRecord}
use Rattle.link_pool.specs.declared.replies.AcquireReply.TheVariants as acquire
use Rattle.node_core.specs.declared.refusal.JoinRefusal.{JoinRefusal}
use Rattle.node_core.specs.declared.refusal.JoinRefusal.TheVariants as join
use Rattle.node_core.specs.declared.exchange.Exchange.TheVariants as step
use Rattle.locked_node.specs.Lock.{CallerView, Counted}
use Rattle.peer_forward.specs.Calls.{Call}
use Rattle.startup.specs.Replies.{Report, login_reporting}
use Rattle.startup.specs.declared.error_code.ErrorCode.{ErrorCode}
use Rattle.startup.specs.declared.error_code.ErrorCode.TheVariants.{TooManyConnections, OutOfMemory, ConnectionFailure, QueryCanceled}
use Rattle.startup.specs.declared.error_code.Severity.TheVariants.{Error}
use Rattle.client_state.specs.Acts.{error_text, ready_text}
use Rattle.session_io.specs.declared.session.outcome.Stayed.{Stayed}
use Rattle.session_io.specs.declared.session.outcome.Stayed.TheVariants.{Release, Close, End}
use Rattle.session_io.specs.LinkView.{LinkView}
use Rattle.session_io.specs.StreamCalls.{SomeCalls, Wrote, WroteSome, Sends}
use Rattle.session_io.specs.Asking.{IsError, SendsError, Leaving, Leaves}
use Rattle.session_io.specs.Finding.{AsksNext}
use Rattle.session_io.specs.Stay.{Stay}
use Rattle.node_threads.specs.declared.desk.call.DeskCall.TheVariants as call
use Rattle.node_threads.specs.declared.session.leases.Acquired.{Acquired}
use Rattle.node_threads.specs.declared.session.leases.Acquired.TheVariants as acquired
use Rattle.node_threads.specs.Turn.{handed_in}
use Rattle.node_threads.specs.Desks.{Tells}
use Rattle.node_threads.specs.Meaning.{Meaning, logins, Joining, Member, Moment}
use Rattle.node_threads.specs.Leasing.{WasAnswered, IsGiven, IsDenied}
use Rattle.node_threads.specs.Balance.{Moves, nothing, a_pass, a_lease}

-- The client of this key is greeted: it took all messages of a login that reports these
-- parameters; or the session ends, and this is written then.
abbrev pub Greets : List Report → AnyKey → Option (List ℕ) → List Call → Type 0
Greets reports key None calls = Wrote (login_reporting reports (Some key)) calls
Greets reports key (Some reply) calls = (IsError OutOfMemory reply × (calls ≡ []))
    ⊎ (WroteSome (login_reporting reports (Some key)) calls × (reply ≡ []))

-- what a client reads whose wait for a link was cancelled
abbrev pub cancelled_text : List ℕ
cancelled_text = error_text Error QueryCanceled ++ ready_text 73

-- It took that, and its session goes on; or the session ends without a word: it didn't take it, or
-- memory for it was refused.
abbrev pub TellsCancelled : Option (List ℕ) → List Call → Type 0
TellsCancelled None calls = Wrote cancelled_text calls
TellsCancelled (Some reply) calls =
    ((calls ≡ []) ⊎ WroteSome cancelled_text calls) × (reply ≡ [])

-- what comes of a client's request
pub data Fate : Type 0 where
  -- it is carried over this link, and the stay there ends so
  Carried : LinkRecord → Stayed → Fate
  -- this link, which it got, isn't as it was left
  Spoilt : LinkRecord → Fate
  -- its wait for a link was cancelled
  Cancelled : Fate
  -- it gets no link, and its session ends with this error
  Refused : ErrorCode → Fate
  -- it gets no link, since the client is gone or memory was refused
  Dropped : Fate

-- the session goes on without the link, or ends, and this is written then
abbrev pub end_of : Stayed → Option (List ℕ)
end_of Release = None
end_of Close = None
end_of (End reply) = Some reply

-- the session ends with this error
abbrev pub EndsByError : ErrorCode → Option (List ℕ) → Type 0
EndsByError code end = (reply : List ℕ) × IsError code reply × (end ≡ Some reply)

-- what is written at the session's end because of what came of a request, if it ends with that
abbrev pub EndsWith : Fate → Option (List ℕ) → Type 0
EndsWith (Carried link stayed) end = end ≡ end_of stayed
EndsWith (Spoilt link) end = EndsByError ConnectionFailure end
EndsWith Cancelled end = (end ≡ None) ⊎ (end ≡ Some [])
EndsWith (Refused code) end = EndsByError code end
EndsWith Dropped end = end ≡ Some []

-- the node was asked for a slot for a client, and gave this answer
abbrev pub Joins : Joining → Result PassRecord JoinRefusal → CallerView → CallerView → Type 0
Joins joining answer old new =
    Counted (step.Join joining.database joining.secret joining.kind answer) answer
    (Err join.Exhausted) old new

-- The client leaves before another request was whole, and this is written then.
abbrev pub IsLeft : ℕ → List ℕ → Moment → List Call → Moment → Type 0
IsLeft limit reply old calls new = (leaving : Leaving)
    × Leaves limit leaving old.kept calls reply new.kept × (new.caller ≡ old.caller)

-- In what follows the calls are those on the client's stream. They, and the steps that its caller
-- counts, lead from one moment to another.
module _ {T : Type 0} (m : Meaning T) where
  -- A request was carried over this stream, which is a link's, and the link was handed in by how the
  -- stay there ended.
  pub record CarriesRequest (link : LinkRecord) (stream : T) (request : List ℕ) (stayed : Stayed)
      (old : Moment) (calls : List Call) (new : Moment) : Type 0 where
    pub after : T
    pub stay : SomeCalls m.wrote m.gave stream after
        (λ on_link. Stay m.limit request [] old.kept on_link calls stayed new.kept)
    pub told : Tells (handed_in stayed link) old.caller new.caller

  -- What comes of a request whose client asked for a link, with what came of that: the session goes
  -- on, or ends, and this is written then.
  abbrev pub ComesOf : Acquired (LinkValue (LinkView T)) → List ℕ → Option (List ℕ) → Moment
      → List Call → Moment → Type 0
  ComesOf (acquired.Lease lease) request end old calls new =
      ((stayed : Stayed)
      × CarriesRequest lease.details lease.stream.stream request stayed old calls new
      × (end ≡ end_of stayed))
      ⊎ (Tells (call.Close lease.details) old.caller new.caller
      × EndsByError ConnectionFailure end × (calls ≡ []) × (new.kept ≡ old.kept))
  ComesOf acquired.Cancelled request end old calls new =
      TellsCancelled end calls × (new.kept ≡ old.kept) × (new.caller ≡ old.caller)
  ComesOf (acquired.Refused code) request end old calls new =
      EndsByError code end × (calls ≡ []) × (new.kept ≡ old.kept) × (new.caller ≡ old.caller)
  ComesOf acquired.Ended request end old calls new =
      (end ≡ Some []) × (calls ≡ []) × (new.kept ≡ old.kept) × (new.caller ≡ old.caller)

  -- a session that has joined
  module _ (member : Member) where
    -- The client got a link of its database, and nothing else.
    pub record Gets (link : LinkRecord) (old new : CallerView) : Type 0 where
      pub given : IsGiven (logins m) member.pass link old new
      pub place : link.at.database ≡ member.database
      pub moves : Moves nothing old a_lease new

    -- A request was dealt with so.
    abbrev pub Comes : List ℕ → Fate → Option (List ℕ) → Moment → List Call → Moment → Type 0
    Comes request (Carried link stayed) end old calls new =
        (got : CallerView) × Gets link old.caller got × (stream : T)
        × CarriesRequest link stream request stayed (record old { caller = got }) calls new
    Comes request (Spoilt link) end old calls new =
        (got : CallerView) × Gets link old.caller got × Tells (call.Close link) got new.caller
        × (calls ≡ []) × (new.kept ≡ old.kept)
    Comes request Cancelled end old calls new =
        WasAnswered member.pass acquire.Cancelled old.caller new.caller
        × TellsCancelled end calls × (new.kept ≡ old.kept)
    Comes request (Refused code) end old calls new =
        IsDenied (logins m) member.pass code old.caller new.caller × (calls ≡ [])
        × (new.kept ≡ old.kept)
    Comes request Dropped end old calls new = (calls ≡ []) × (new.kept ≡ old.kept)

    -- The client's next request was read, and this came of it: the session goes on, or ends, and
    -- this is written then.
    pub record IsRequest (end : Option (List ℕ)) (old : Moment) (calls : List Call) (new : Moment)
        : Type 0 where
      pub asks : List Call
      pub rest : List Call
      pub calls_are : calls ≡ asks ++ rest
      pub request : List ℕ
      pub behind : List ℕ
      pub asked : AsksNext m.limit old.kept asks (Ok request) behind
      pub fate : Fate
      pub comes : Comes request fate end (record old { kept = behind }) rest new
      pub ends : EndsWith fate end

    -- a session goes on by the client's next request; or ends, by that or because the client leaves
    abbrev pub Serves : Option (List ℕ) → Moment → List Call → Moment → Type 0
    Serves None old calls new = IsRequest None old calls new
    Serves (Some reply) old calls new =
        IsRequest (Some reply) old calls new ⊎ IsLeft m.limit reply old calls new

    -- that many requests, one after another, with each of which the session goes on
    abbrev pub Requests : List (List Call) → Moment → List Call → Moment → Type 0
    Requests [] old calls new =
        (calls ≡ []) × (new.kept ≡ old.kept) × (new.caller ≡ old.caller)
    Requests (first ∷ others) old calls new = (rest : List Call) × (calls ≡ first ++ rest)
        × (between : Moment) × Serves None old first between × Requests others between rest new

    -- A session of a client that took its greeting, up to its end, at which this is to be written.
    pub record GreetedSession (reply : List ℕ) (old : Moment) (calls : List Call) (new : Moment)
        : Type 0 where
      pub greeting : List Call
      pub served : List Call
      pub last : List Call
      pub calls_are : calls ≡ greeting ++ (served ++ last)
      pub greets : Greets m.reports member.pass.key None greeting
      pub each : List (List Call)
      pub between : Moment
      pub requests : Requests each old served between
      pub ends : Serves (Some reply) between last new

    -- the session of a client, whether it took its greeting or not
    abbrev pub Stays : List ℕ → Moment → List Call → Moment → Type 0
    Stays reply old calls new = GreetedSession reply old calls new
        ⊎ (Greets m.reports member.pass.key (Some reply) calls × (new.kept ≡ old.kept)
        × (new.caller ≡ old.caller))

  -- A client that got a slot was served, gave its pass back, and was written what it is to read at
  -- the end.
  pub record HasServed (joining : Joining) (old : Moment) (calls : List Call) (new : Moment)
      : Type 0 where
    pub pass : PassRecord
    pub joined : CallerView
    pub joins : Joins joining (Ok pass) old.caller joined
    pub served : List Call
    pub last : List Call
    pub calls_are : calls ≡ served ++ last
    pub reply : List ℕ
    pub done : CallerView
    pub stays : Stays (record { pass = pass; database = joining.database }) reply
        (record old { caller = joined }) served (record new { caller = done })
    pub leaves : Moves a_pass done nothing new.caller
    pub told : Sends reply last

  -- A client was served from its login to its end, or refused since the node gave it no slot.
  abbrev pub ServesClient : Joining → Moment → List Call → Moment → Type 0
  ServesClient joining old calls new = HasServed joining old calls new
      ⊎ ((refusal : JoinRefusal) × Joins joining (Err refusal) old.caller new.caller
      × SendsError TooManyConnections calls × (new.kept ≡ old.kept))
