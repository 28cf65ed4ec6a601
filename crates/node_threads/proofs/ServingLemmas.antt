-- A client's session, request after request.
use Rattle.std.proofs.Common.{◌≡◌, ◌⊎◌, inl, inr, Bool, true, false, ℕ, List, [], ◌∷◌, ◌++◌, Option, Some, None, Result, Ok, Err, refl, sym, ap, ◌∙◌, subst, arith, append_assoc, append-nil, length-append}
use Rattle.lease.specs.LinkValue.{LinkValue}
use Rattle.lease.specs.declared.link_record.LinkRecord.{LinkRecord}
use Rattle.lease.specs.declared.pass.PassRecord.{PassRecord}
use Rattle.link_pool.specs.declared.replies.AcquireReply.TheVariants as acquire
use Rattle.link_pool.specs.declared.replies.CloseReply.{CloseReply}
use Rattle.link_pool.specs.declared.replies.CloseReply.TheVariants as close
use Rattle.link_pool.specs.Said.{close_said}
use Rattle.node_core.specs.declared.refusal.JoinRefusal.{JoinRefusal}
use Rattle.node_core.specs.declared.exchange.Exchange.TheVariants as step
use Rattle.locked_node.specs.Lock.{CallerView, Counted}
use Rattle.peer_forward.specs.Calls.{Call, Effect, Makes}
use Rattle.startup.specs.declared.error_code.ErrorCode.{ErrorCode}
use Rattle.startup.specs.declared.error_code.ErrorCode.TheVariants.{TooManyConnections, OutOfMemory, ConnectionFailure, QueryCanceled}
use Rattle.startup.specs.declared.error_code.Severity.TheVariants.{Error}
use Rattle.pg_frames.specs.Passage.{Passage, start}
use Rattle.client_state.specs.Acts.{start as begun, fatal, error_text, ready_text}
use Rattle.client_state.specs.Session.{Session}
use Rattle.session_io.specs.declared.session.outcome.Stayed.{Stayed}
use Rattle.session_io.specs.declared.session.outcome.Stayed.TheVariants.{Release, Close}
use Rattle.session_io.specs.LinkView.{LinkView}
use Rattle.session_io.specs.StreamCalls.{SomeCalls, Wrote, WroteSome, Sends}
use Rattle.session_io.specs.Asking.{IsError, SendsError}
use Rattle.session_io.specs.Finding.{AsksNext}
use Rattle.session_io.specs.Stay.{Stay}
use Rattle.node_threads.specs.declared.session.leases.Acquired.{Acquired}
use Rattle.node_threads.specs.declared.session.leases.Acquired.TheVariants as acquired
use Rattle.node_threads.specs.Turn.{handed_in}
use Rattle.node_threads.specs.Desks.{Tells}
use Rattle.node_threads.specs.Balance.{Moves, nothing, a_pass}
use Rattle.node_threads.specs.Meaning.{Meaning, logins, Joining, Member, Moment, moment}
use Rattle.node_threads.specs.Leasing.{hand_of, OfLease, WasAnswered, IsDenied, IsAnswer}
use Rattle.node_threads.specs.Serving.{Greets, TellsCancelled, Fate, Carried, Spoilt, Cancelled, Refused, Dropped, end_of, EndsWith, Gets, CarriesRequest, Comes, IsRequest, Serves, Requests, Stays, Joins, ServesClient, ComesOf}
use Rattle.peer_forward.proofs.CallLemmas.{Makes-append, Wrote-append, WroteSome-append}
use Rattle.session_io.proofs.SendingLemmas.{sends}
use Rattle.node_threads.proofs.Told.{said-counted}

-- an equal text was written
pub sends_same : {T : Type 0} (wrote gave : Effect T) (a b : T) (xs ys : List ℕ) → xs ≡ ys
    → SomeCalls wrote gave a b (Sends xs) → SomeCalls wrote gave a b (Sends ys)
sends_same wrote gave a b xs ys same said =
    (said.0, said.1, subst (λ zs. Sends zs said.0) same said.2)

-- one text after the other
pub wrote_both : {T : Type 0} (wrote gave : Effect T) (a b c : T) (xs ys : List ℕ)
    → SomeCalls wrote gave a b (Wrote xs) → SomeCalls wrote gave b c (Wrote ys)
    → SomeCalls wrote gave a c (Wrote (xs ++ ys))
wrote_both wrote gave a b c xs ys first more = (
  first.0 ++ more.0,
  Makes-append wrote gave a b c first.0 more.0 first.1 more.1,
  Wrote-append xs ys first.0 more.0 first.2 more.2,
)

pub wrote_one : {T : Type 0} (wrote gave : Effect T) (a b c : T) (xs ys : List ℕ)
    → SomeCalls wrote gave a b (Wrote xs) → SomeCalls wrote gave b c (WroteSome ys)
    → SomeCalls wrote gave a c (WroteSome (xs ++ ys))
wrote_one wrote gave a b c xs ys first more = (
  first.0 ++ more.0,
  Makes-append wrote gave a b c first.0 more.0 first.1 more.1,
  WroteSome-append xs ys first.0 more.0 first.2 more.2,
)

-- the beginning of a text
some_of_more : (xs ys : List ℕ) (calls : List Call) → WroteSome xs calls → WroteSome
    (xs ++ ys) calls
some_of_more xs ys calls some = record {
  writes = some.writes;
  last = some.last;
  all = some.all;
  each = some.each;
  failed = some.failed;
  left = some.left ++ ys;
  some_left = omega (arith, length-append some.left ys, some.some_left);
  beginning = ap (λ zs. zs ++ ys) some.beginning ∙ append_assoc _ some.left ys;
}

-- a client got the text that its wait was cancelled, or a part of it
pub told_cancelled : {T : Type 0} (wrote gave : Effect T) (a b c : T) (error ready : List ℕ)
    → error ≡ error_text Error QueryCanceled → ready ≡ ready_text 73
    → SomeCalls wrote gave a b (Wrote error) → SomeCalls wrote gave b c (Wrote ready)
    → SomeCalls wrote gave a c (TellsCancelled None)
told_cancelled wrote gave a b c error ready is then first more =
    let calls = wrote_both wrote gave a b c error ready first more in (
      calls.0,
      calls.1,
      subst (λ xs. Wrote xs calls.0) (ap (λ xs. xs ++ ready) is ∙ ap
          (λ xs. error_text Error QueryCanceled ++ xs) then) calls.2,
    )

pub told_cancelled_some : {T : Type 0} (wrote gave : Effect T) (a b c : T)
    (error ready reply : List ℕ) → error ≡ error_text Error QueryCanceled → ready ≡ ready_text 73
    → reply ≡ [] → SomeCalls wrote gave a b (Wrote error)
    → SomeCalls wrote gave b c (WroteSome ready)
    → SomeCalls wrote gave a c (TellsCancelled (Some reply))
told_cancelled_some wrote gave a b c error ready reply is then none first more =
    let calls = wrote_one wrote gave a b c error ready first more in (
      calls.0,
      calls.1,
      (
        inr (subst (λ xs. WroteSome xs calls.0)
            (ap (λ xs. xs ++ ready) is ∙ ap
            (λ xs. error_text Error QueryCanceled ++ xs) then) calls.2),
        none,
      ),
    )

pub told_cancelled_less : {T : Type 0} (wrote gave : Effect T) (a b : T) (error reply : List ℕ)
    → error ≡ error_text Error QueryCanceled → reply ≡ []
    → SomeCalls wrote gave a b (WroteSome error)
    → SomeCalls wrote gave a b (TellsCancelled (Some reply))
told_cancelled_less wrote gave a b error reply is none some = (
  some.0,
  some.1,
  (
    inr (some_of_more (error_text Error QueryCanceled) (ready_text 73) some.0
        (subst (λ xs. WroteSome xs some.0) is some.2)),
    none,
  ),
)

-- the session goes on
none_of : (stayed : Stayed) → (stayed ≡ Release) ⊎ (stayed ≡ Close) → None ≡ end_of stayed
none_of stayed is = elim is [
  | inl release ↦ sym (ap end_of release)
  | inr closed ↦ sym (ap end_of closed)
]

-- a stay on a link that is as at its start
stay_at_start : {T C : Type 0} (limit : ℕ) (wrote gave : Effect T) (wrote' gave' : Effect C)
    (stream after : T) (client client' : C) (flow : Passage) (request kept left : List ℕ)
    (stayed : Stayed) → flow ≡ start limit
    → SomeCalls wrote gave stream after (λ on_link. SomeCalls wrote' gave' client client'
    (λ on_client. Stay limit request flow.bytes kept on_link on_client stayed left))
    → SomeCalls wrote gave stream after (λ on_link. SomeCalls wrote' gave' client client'
    (λ on_client. Stay limit request [] kept on_link on_client stayed left))
stay_at_start limit wrote gave wrote' gave' stream after client client' flow request kept left
    stayed is
    stays =
    subst (λ (f : Passage). SomeCalls wrote gave stream after
    (λ on_link. SomeCalls wrote' gave' client client'
    (λ on_client. Stay limit request f.bytes kept on_link on_client stayed left))) is stays

-- that of a session whose limit is its service's
stay_by_limit : {T C : Type 0} (limit same : ℕ) (wrote gave : Effect T) (wrote' gave' : Effect C)
    (stream after : T) (client client' : C) (request kept left : List ℕ) (stayed : Stayed)
    → limit ≡ same
    → SomeCalls wrote gave stream after (λ on_link. SomeCalls wrote' gave' client client'
    (λ on_client. Stay limit request [] kept on_link on_client stayed left))
    → SomeCalls wrote gave stream after (λ on_link. SomeCalls wrote' gave' client client'
    (λ on_client. Stay same request [] kept on_link on_client stayed left))
stay_by_limit limit same wrote gave wrote' gave' stream after client client' request kept left
    stayed is
    stays =
    subst (λ (n : ℕ). SomeCalls wrote gave stream after
    (λ on_link. SomeCalls wrote' gave' client client'
    (λ on_client. Stay n request [] kept on_link on_client stayed left))) is stays

module _ {T C : Type 0} (m : Meaning T) (wrote gave : Effect C) where
  -- a link that isn't as it was left is closed
  pub spoilt : (client : C) (lease : LinkValue (LinkView T)) (request reply kept : List ℕ)
      (said : CloseReply (LinkView T)) (old new : CallerView)
      → Counted (step.Close lease.details (close_said said)) said (close.Exhausted lease.stream) old
      new
      → IsError ConnectionFailure reply
      → SomeCalls wrote gave client client (λ calls. ComesOf m (acquired.Lease lease) request
      (Some reply) (moment kept old) calls (moment kept new))
  spoilt client lease request reply kept said old new counted error = (
    [],
    refl,
    inr (
      (close_said said, said-counted close_said _ _ _ _ _ counted),
      (reply, error, refl),
      refl,
      refl,
    ),
  )

  -- a request was carried over a link that is as at its start
  pub carried : (limit : ℕ) (flow : Passage) (link : LinkRecord) (stream after : T)
      (client client' : C) (request kept left : List ℕ) (stayed : Stayed) (old new : CallerView)
      → flow ≡ start limit → limit ≡ m.limit
      → SomeCalls m.wrote m.gave stream after (λ on_link. SomeCalls wrote gave client client'
      (λ on_client. Stay limit request flow.bytes kept on_link on_client stayed left))
      → Tells (handed_in stayed link) old new
      → SomeCalls wrote gave client client' (λ calls. CarriesRequest m link stream request stayed
      (moment kept old) calls (moment left new))
  carried limit flow link stream after client client' request kept left stayed old new is limit_is
      stays told =
      let on_link = stay_by_limit limit m.limit m.wrote m.gave wrote gave stream after client client'
      request kept left stayed limit_is
      (stay_at_start limit m.wrote m.gave wrote gave stream after client client' flow request kept
      left stayed is stays) in
      let on_client = on_link.2 in (
        on_client.0,
        on_client.1,
        record {
          after = after;
          stay = (on_link.0, on_link.1, on_client.2);
          told = told;
        },
      )

  -- a request was carried, after which the session goes on or ends
  pub rides : (client client' : C) (lease : LinkValue (LinkView T)) (request kept left : List ℕ)
      (stayed : Stayed) (end : Option (List ℕ)) (old new : CallerView)
      → SomeCalls wrote gave client client' (λ calls. CarriesRequest m lease.details
      lease.stream.stream request stayed (moment kept old) calls (moment left new))
      → end ≡ end_of stayed
      → SomeCalls wrote gave client client' (λ calls. ComesOf m (acquired.Lease lease) request end
      (moment kept old) calls (moment left new))
  rides client client' lease request kept left stayed end old new carried is =
      (carried.0, carried.1, inl (stayed, carried.2, is))

  pub rides_on : (client client' : C) (lease : LinkValue (LinkView T)) (request kept left : List ℕ)
      (stayed : Stayed) (old new : CallerView)
      → SomeCalls wrote gave client client' (λ calls. CarriesRequest m lease.details
      lease.stream.stream request stayed (moment kept old) calls (moment left new))
      → (stayed ≡ Release) ⊎ (stayed ≡ Close)
      → SomeCalls wrote gave client client' (λ calls. ComesOf m (acquired.Lease lease) request None
      (moment kept old) calls (moment left new))
  rides_on client client' lease request kept left stayed old new carried is =
      rides client client' lease request kept left stayed None old new carried (none_of stayed is)

module _ {T : Type 0} (m : Meaning T) (member : Member) where
  -- what came of a request, by what came of asking for a link
  comes_of : (given : Acquired (LinkValue (LinkView T))) (request : List ℕ) (end : Option (List ℕ))
      (old : Moment) (calls : List Call) (between : CallerView) (new : Moment)
      → IsAnswer (logins m) member.pass given old.caller between
      → OfLease (λ lease. lease.details.at.database ≡ member.database) given
      → Moves nothing old.caller (hand_of given) between
      → ComesOf m given request end (moment old.kept between) calls new
      → (fate : Fate) × Comes m member request fate end old calls new × EndsWith fate end
  comes_of (acquired.Lease lease) request end old calls between new answer is moves comes =
      let gets : Gets m member lease.details old.caller between =
      record { given = answer; place = is; moves = moves } in
      elim comes [
        | inl carried ↦ (
          Carried lease.details carried.0,
          (between, gets, lease.stream.stream, carried.1),
          carried.2,
        )
        | inr closed ↦ (
          Spoilt lease.details,
          (between, gets, closed.0, closed.2, closed.3),
          closed.1,
        )
      ]
  comes_of acquired.Cancelled request end old calls between new answer is moves comes = (
    Cancelled,
    (
      subst (λ (v : CallerView). WasAnswered member.pass acquire.Cancelled old.caller v)
          (sym comes.2) answer,
      comes.0,
      comes.1,
    ),
    ended end calls comes.0,
  ) where
    ended : (end : Option (List ℕ)) (calls : List Call) → TellsCancelled end calls
        → (end ≡ None) ⊎ (end ≡ Some [])
    ended None calls told = inl refl
    ended (Some reply) calls told = inr (ap Some told.1)
  comes_of (acquired.Refused code) request end old calls between new answer is moves comes = (
    Refused code,
    (
      subst (λ (v : CallerView). IsDenied (logins m) member.pass code old.caller v) (sym comes.3)
          answer,
      comes.1,
      comes.2,
    ),
    comes.0,
  )
  comes_of acquired.Ended request end old calls between new answer is moves comes =
      (Dropped, (comes.1, comes.2), comes.0)

  -- a request is one of a session
  served_by : (end : Option (List ℕ)) (old : Moment) (calls : List Call) (new : Moment)
      → IsRequest m member end old calls new → Serves m member end old calls new
  served_by None old calls new is = is
  served_by (Some reply) old calls new is = inl is

  -- one request more
  requests_more : (each : List (List Call)) (old : Moment) (calls : List Call) (between : Moment)
      (first : List Call) (new : Moment) → Requests m member each old calls between
      → Serves m member None between first new
      → Requests m member (each ++ first ∷ []) old (calls ++ first) new
  requests_more [] old calls between first new so_far one = (
    [],
    ap (λ xs. xs ++ first) so_far.0 ∙ sym (append-nil first),
    new,
    subst (λ v. IsRequest m member None (moment old.kept v) first new) so_far.2
        (subst (λ xs. IsRequest m member None (moment xs between.caller) first new) so_far.1 one),
    (refl, refl, refl),
  )
  requests_more (head ∷ others) old calls between first new so_far one = (
    so_far.0 ++ first,
    ap (λ xs. xs ++ first) so_far.1 ∙ append_assoc head so_far.0 first,
    so_far.2,
    so_far.3,
    requests_more others so_far.2 so_far.0 between first new so_far.4 one,
  )

module _ {T C : Type 0} (m : Meaning T) (wrote gave : Effect C) where
  -- the next request was read, a link asked for, and it was served
  pub request_served : (a b c : C) (member : Member) (given : Acquired (LinkValue (LinkView T)))
      (request : List ℕ) (end : Option (List ℕ)) (kept behind left : List ℕ)
      (old between new : CallerView)
      → SomeCalls wrote gave a b (λ calls. AsksNext m.limit kept calls (Ok request) behind)
      → IsAnswer (logins m) member.pass given old between
      → OfLease (λ lease. lease.details.at.database ≡ member.database) given
      → Moves nothing old (hand_of given) between
      → SomeCalls wrote gave b c (λ calls. ComesOf m given request end (moment behind between) calls
      (moment left new))
      → SomeCalls wrote gave a c
      (λ calls. Serves m member end (moment kept old) calls (moment left new))
  request_served a b c member given request end kept behind left old between new asks answer is
      moves comes =
      let came = comes_of m member given request end (moment behind old) comes.0 between
      (moment left new) answer is moves comes.2 in (
        asks.0 ++ comes.0,
        Makes-append wrote gave a b c asks.0 comes.0 asks.1 comes.1,
        served_by m member end (moment kept old) (asks.0 ++ comes.0) (moment left new) (record {
          asks = asks.0;
          rest = comes.0;
          calls_are = refl;
          request = request;
          behind = behind;
          asked = asks.2;
          fate = came.0;
          comes = came.1;
          ends = came.2;
        }),
      )

  pub request_served_at : (limit : ℕ) (a b c : C) (pass : PassRecord) (at database : ℕ)
      (given : Acquired (LinkValue (LinkView T))) (request : List ℕ) (end : Option (List ℕ))
      (kept behind left : List ℕ) (old between new : CallerView) → at ≡ database → limit ≡ m.limit
      → SomeCalls wrote gave a b (λ calls. AsksNext limit kept calls (Ok request) behind)
      → IsAnswer (logins m) pass given old between
      → OfLease (λ lease. lease.details.at.database ≡ at) given
      → Moves nothing old (hand_of given) between
      → SomeCalls wrote gave b c (λ calls. ComesOf m given request end (moment behind between) calls
      (moment left new))
      → SomeCalls wrote gave a c (λ calls. Serves m (record { pass = pass; database = database })
      end (moment kept old) calls (moment left new))
  request_served_at limit a b c pass at database given request end kept behind left old between new
      same limit_is asks answer is moves comes =
      subst (λ (d : ℕ). SomeCalls wrote gave a c (λ calls. Serves m
      (record { pass = pass; database = d }) end (moment kept old) calls (moment left new))) same
      (request_served a b c (record { pass = pass; database = at }) given request end kept behind
      left old between new
      (subst (λ (n : ℕ). SomeCalls wrote gave a b
      (λ calls. AsksNext n kept calls (Ok request) behind)) limit_is asks)
      answer is moves comes)

  -- the client leaves
  pub request_left : (limit : ℕ) (a b : C) (member : Member) (reply kept left : List ℕ)
      (old : CallerView) → limit ≡ m.limit
      → SomeCalls wrote gave a b (λ calls. AsksNext limit kept calls (Err reply) left)
      → SomeCalls wrote gave a b
      (λ calls. Serves m member (Some reply) (moment kept old) calls (moment left old))
  request_left limit a b member reply kept left old limit_is asks =
      let here : SomeCalls wrote gave a b (λ calls. AsksNext m.limit kept calls (Err reply) left) =
      subst (λ (n : ℕ). SomeCalls wrote gave a b
      (λ calls. AsksNext n kept calls (Err reply) left)) limit_is asks in
      (here.0, here.1, inr (here.2.0, here.2.1, refl))

  -- A session of a client that took its greeting, so far.
  pub record Serving (member : Member) (client client' : C) (old new : Moment) : Type 0 where
    pub greeting : List Call
    pub served : List Call
    pub made : Makes wrote gave client (greeting ++ served) client'
    pub greets : Greets m.reports member.pass.key None greeting
    pub each : List (List Call)
    pub requests : Requests m member each old served new

  pub serving_start : (member : Member) (client client' : C) (kept : List ℕ) (old : CallerView)
      → SomeCalls wrote gave client client' (Greets m.reports member.pass.key None)
      → Serving member client client' (moment kept old) (moment kept old)
  serving_start member client client' kept old greets = record {
    greeting = greets.0;
    served = [];
    made = subst (λ xs. Makes wrote gave client xs client') (sym (append-nil greets.0)) greets.1;
    greets = greets.2;
    each = [];
    requests = (refl, refl, refl);
  }

  pub serving_more : (member : Member) (client client' client'' : C) (old between new : Moment)
      → Serving member client client' old between
      → SomeCalls wrote gave client' client'' (λ calls. Serves m member None between calls new)
      → Serving member client client'' old new
  serving_more member client client' client'' old between new so_far one = record {
    greeting = so_far.greeting;
    served = so_far.served ++ one.0;
    made = subst (λ xs. Makes wrote gave client xs client'')
        (append_assoc so_far.greeting so_far.served one.0)
        (Makes-append wrote gave client client' client'' (so_far.greeting ++ so_far.served) one.0
        so_far.made one.1);
    greets = so_far.greets;
    each = so_far.each ++ one.0 ∷ [];
    requests = requests_more m member so_far.each old so_far.served between one.0 new
        so_far.requests one.2;
  }

  pub serving_ends : (member : Member) (client client' client'' : C) (reply : List ℕ)
      (old between new : Moment) → Serving member client client' old between
      → SomeCalls wrote gave client' client''
      (λ calls. Serves m member (Some reply) between calls new)
      → SomeCalls wrote gave client client'' (λ calls. Stays m member reply old calls new)
  serving_ends member client client' client'' reply old between new so_far last = (
    so_far.greeting ++ (so_far.served ++ last.0),
    subst (λ xs. Makes wrote gave client xs client'')
        (append_assoc so_far.greeting so_far.served last.0)
        (Makes-append wrote gave client client' client'' (so_far.greeting ++ so_far.served) last.0
        so_far.made last.1),
    inl (record {
      greeting = so_far.greeting;
      served = so_far.served;
      last = last.0;
      calls_are = refl;
      greets = so_far.greets;
      each = so_far.each;
      between = between;
      requests = so_far.requests;
      ends = last.2;
    }),
  )

  -- a client that isn't greeted
  pub stays_unmade : (client : C) (member : Member) (reply kept : List ℕ) (old : CallerView)
      → IsError OutOfMemory reply
      → SomeCalls wrote gave client client
      (λ calls. Stays m member reply (moment kept old) calls (moment kept old))
  stays_unmade client member reply kept old error =
      ([], refl, inr (inl (error, refl), refl, refl))

  pub stays_ungreeted : (client client' : C) (member : Member) (reply kept : List ℕ)
      (old : CallerView)
      → SomeCalls wrote gave client client' (Greets m.reports member.pass.key (Some reply))
      → SomeCalls wrote gave client client'
      (λ calls. Stays m member reply (moment kept old) calls (moment kept old))
  stays_ungreeted client client' member reply kept old greets =
      (greets.0, greets.1, inr (greets.2, refl, refl))

  -- a client that got a slot
  pub client_served : (a b c : C) (joining : Joining) (pass : PassRecord)
      (reply text kept left : List ℕ) (old joined done new : CallerView) (whole : Bool)
      → Joins joining (Ok pass) old joined
      → SomeCalls wrote gave a b
      (λ calls. Stays m (record { pass = pass; database = joining.database }) reply
      (moment kept joined) calls (moment left done))
      → Moves a_pass done nothing new → text ≡ reply
      → (whole ≡ true → SomeCalls wrote gave b c (Wrote text))
      → (whole ≡ false → SomeCalls wrote gave b c (WroteSome text))
      → SomeCalls wrote gave a c
      (λ calls. ServesClient m joining (moment kept old) calls (moment left new))
  client_served a b c joining pass reply text kept left old joined done new whole joins stays leaves
      is did some =
      let said = sends_same wrote gave b c text reply is (sends wrote gave b c text whole did some)
      in (
        stays.0 ++ said.0,
        Makes-append wrote gave a b c stays.0 said.0 stays.1 said.1,
        inl (record {
          pass = pass;
          joined = joined;
          joins = joins;
          served = stays.0;
          last = said.0;
          calls_are = refl;
          reply = reply;
          done = done;
          stays = stays.2;
          leaves = leaves;
          told = said.2;
        }),
      )

  -- a client that got none
  pub client_refused : (a b : C) (joining : Joining) (answer : Result PassRecord JoinRefusal)
      (kept : List ℕ) (old new : CallerView) → ((pass : PassRecord) → answer ≡ Ok pass → ⊥)
      → Joins joining answer old new
      → SomeCalls wrote gave a b (SendsError TooManyConnections)
      → SomeCalls wrote gave a b
      (λ calls. ServesClient m joining (moment kept old) calls (moment kept new))
  client_refused a b joining (Ok pass) kept old new none joins said = absurd (none pass refl)
  client_refused a b joining (Err refusal) kept old new none joins said =
      (said.0, said.1, inr (refusal, joins, said.2, refl))

  -- the session goes on with a request more, and is as at its start
  pub serving_next : (pass : PassRecord) (database : ℕ) (client client' client'' : C)
      (old between new : Moment) (session next : Session) (result : Option (List ℕ))
      → session ≡ begun m.limit database → result ≡ None
      → (result ≡ None → next ≡ begun session.limit session.database)
      → Serving (record { pass = pass; database = database }) client client' old between
      → SomeCalls wrote gave client' client'' (λ calls. Serves m
      (record { pass = pass; database = session.database }) result between calls new)
      → (next ≡ begun m.limit database)
      × Serving (record { pass = pass; database = database }) client client'' old new
  serving_next pass database client client' client'' old between new session next result is none
      after so_far one =
      let same : session.database ≡ database = ap (λ (s : Session). s.database) is in (
        after none ∙ ap (λ (s : Session). begun s.limit s.database) is,
        serving_more (record { pass = pass; database = database }) client client' client'' old
            between new so_far
            (subst (λ (r : Option (List ℕ)). SomeCalls wrote gave client' client'' (λ calls. Serves
            m (record { pass = pass; database = database }) r between calls new)) none
            (subst (λ (d : ℕ). SomeCalls wrote gave client' client'' (λ calls. Serves m
            (record { pass = pass; database = d }) result between calls new)) same one)),
      )

  -- the session ends
  pub serving_last : (pass : PassRecord) (database : ℕ) (client client' client'' : C)
      (old between new : Moment) (session : Session) (result : Option (List ℕ)) (reply : List ℕ)
      → session ≡ begun m.limit database → result ≡ Some reply
      → Serving (record { pass = pass; database = database }) client client' old between
      → SomeCalls wrote gave client' client'' (λ calls. Serves m
      (record { pass = pass; database = session.database }) result between calls new)
      → SomeCalls wrote gave client client'' (λ calls. Stays m
      (record { pass = pass; database = database }) reply old calls new)
  serving_last pass database client client' client'' old between new session result reply is some
      so_far last =
      let same : session.database ≡ database = ap (λ (s : Session). s.database) is in
      serving_ends (record { pass = pass; database = database }) client client' client'' reply old
      between new so_far
      (subst (λ (r : Option (List ℕ)). SomeCalls wrote gave client' client'' (λ calls. Serves m
      (record { pass = pass; database = database }) r between calls new)) some
      (subst (λ (d : ℕ). SomeCalls wrote gave client' client'' (λ calls. Serves m
      (record { pass = pass; database = d }) result between calls new)) same last))

  -- a client that is greeted
  pub serving_greeted : (member : Member) (client client' : C) (kept : List ℕ) (old : CallerView)
      (result : Option (List ℕ)) → result ≡ None
      → SomeCalls wrote gave client client' (Greets m.reports member.pass.key result)
      → Serving member client client' (moment kept old) (moment kept old)
  serving_greeted member client client' kept old result none greets =
      serving_start member client client' kept old
      (subst (λ (r : Option (List ℕ)). SomeCalls wrote gave client client'
      (Greets m.reports member.pass.key r)) none greets)
