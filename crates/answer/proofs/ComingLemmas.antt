-- The calls by which clients come, and that a node with room for them makes no others.
use Rattle.std.proofs.Common.{ℕ, ◌≡◌, ◌+◌, ◌<◌, ◌≤◌, List, [], ◌∷◌, ◌++◌, Some, None, Ok, Err, length, map, refl, sym, ap, ◌∙◌, append-nil, length-append, arith, subst}
use Rattle.std.specs.Prelude.{Result}
use Rattle.std.proofs.lemmas.List.{map_push}
use Rattle.pg_ids.specs.declared.any_key.Kind.TheVariants as kind
use Rattle.lease.specs.LinkValue.{LinkValue}
use Rattle.lease.specs.declared.link_record.LinkRecord.{LinkRecord}
use Rattle.lease.specs.declared.pass.PassRecord.{PassRecord}
use Rattle.lease.specs.declared.permit.PermitRecord.{PermitRecord}
use Rattle.link_pool.specs.declared.replies.AcquireReply.TheVariants as acquire
use Rattle.link_pool.specs.declared.replies.UpReply.TheVariants as up
use Rattle.node_core.specs.View.{NodeView}
use Rattle.node_core.specs.NodeStep.{NodeStep}
use Rattle.node_core.specs.declared.refusal.JoinRefusal.{JoinRefusal}
use Rattle.node_core.specs.declared.exchange.Exchange.{Exchange}
use Rattle.node_core.specs.declared.exchange.Exchange.TheVariants.{Join, Acquire, Up}
use Rattle.locked_node.specs.Lock.{CallerView, CallerStep}
use Rattle.answer.specs.declared.fault.Reply.{Reply}
use Rattle.command_line.specs.declared.live_client.LiveClient.{LiveClient}
use Rattle.answer.specs.Attended.{Came, Joined, Opening}
use Rattle.answer.specs.Decision.{IsComing, Cannot, Comes, HasRoom, Haves, MayOpen, Opens, Trips, reply_of, leases_of}
use Rattle.answer.proofs.CallLemmas.{makes_one, makes_then, leads_one, leads_then, cannot_trip, cannot_then}
use Rattle.answer.proofs.ClientSteps.{join_expected, join_leads}
use Rattle.answer.proofs.LinkSteps.{acquire_expected, acquire_leads, up_expected, up_leads, joined_came}

-- one lease more
pub leases_push : {S : Type 0} (leases : List (LinkValue S)) (lease : LinkValue S)
    → leases_of (leases ++ lease ∷ []) ≡ leases_of leases ++ lease.details ∷ []
leases_push leases lease = map_push (λ l. l.details) leases lease

-- ---- opening a link

-- the client of the pass may open a link by this permit
abbrev Opened : PassRecord → List LinkRecord → PermitRecord → NodeView → Type 0
Opened pass leases permit v = (size : ℕ) × (passes : List PassRecord)
    × Opening size passes pass leases permit v

pub cannot_acquire : (pass : PassRecord) (leases : List LinkRecord) (given : Reply)
    (old new : CallerView) → Trips old (λ said. Acquire pass said) given new
    → Cannot (MayOpen pass leases) old new
cannot_acquire pass leases given old new trips =
    cannot_trip (MayOpen pass leases) (λ said. Acquire pass said) given old new trips
    (λ v w reply before step says.
    let is = acquire_expected before.0 before.1 pass leases v w reply before.2 step in
    let none : None ≡ Some given = ap (λ r. reply_of (Acquire pass r)) (sym is.1) ∙ says in
    absurd (cc))

pub cannot_up : (pass : PassRecord) (permit : PermitRecord) (key : List ℕ)
    (leases : List LinkRecord) (given : Reply) (old middle new : CallerView)
    → CallerStep old (Acquire pass (acquire.Open permit)) middle
    → Trips middle (λ said. Up permit key said) given new → Cannot (MayOpen pass leases) old new
cannot_up pass permit key leases given old middle new asked trips =
    cannot_then (MayOpen pass leases) (Opened pass leases permit) old middle new
    (Acquire pass (acquire.Open permit) ∷ [])
    (makes_one old (Acquire pass (acquire.Open permit)) middle asked)
    (leads_one (MayOpen pass leases) (MayOpen pass leases) (Opened pass leases permit)
    (Acquire pass (acquire.Open permit))
    (λ v w before step. (
      before.0,
      before.1,
      acquire_leads before.0 before.1 pass leases v w permit before.2 step,
    )))
    (cannot_trip (Opened pass leases permit) (λ said. Up permit key said) given middle new trips
    (λ v w reply before step says.
    let is = up_expected before.0 before.1 pass leases permit v w key _ reply before.2 step in
    let none : None ≡ Some given = ap (λ r. reply_of (Up permit key r)) (sym is.1) ∙ says in
    absurd (cc)))

pub opens_by : (pass : PassRecord) (permit : PermitRecord) (key : List ℕ) (lease : LinkRecord)
    (leases more : List LinkRecord) (old middle new : CallerView)
    → CallerStep old (Acquire pass (acquire.Open permit)) middle
    → CallerStep middle (Up permit key (up.Up lease)) new → more ≡ leases ++ lease ∷ []
    → Opens old pass key leases more new
opens_by pass permit key lease leases more old middle new asked opened same = record {
  calls = Acquire pass (acquire.Open permit) ∷ Up permit key (up.Up lease) ∷ [];
  opening = (permit, lease, refl);
  makes = makes_then old middle new (Acquire pass (acquire.Open permit) ∷ [])
      (Up permit key (up.Up lease) ∷ [])
      (makes_one old (Acquire pass (acquire.Open permit)) middle asked)
      (makes_one middle (Up permit key (up.Up lease)) new opened);
  leads = λ size passes. rw same
      (leads_then (Joined size passes pass leases) (Opening size passes pass leases permit)
      (Came size (passes ++ pass ∷ []) (leases ++ lease ∷ []))
      (Acquire pass (acquire.Open permit) ∷ []) (Up permit key (up.Up lease) ∷ [])
      (leads_one (Joined size passes pass leases) (Joined size passes pass leases)
      (Opening size passes pass leases permit) (Acquire pass (acquire.Open permit))
      (λ v w before step. acquire_leads size passes pass leases v w permit before step))
      (leads_one (Opening size passes pass leases permit) (Opening size passes pass leases permit)
      (Came size (passes ++ pass ∷ []) (leases ++ lease ∷ [])) (Up permit key (up.Up lease))
      (λ v w before step. up_leads size passes pass leases permit v w key (Unit {0}) lease before step)));
}

-- ---- coming

-- what clients have, with one client more
abbrev pub with_client : Haves → PassRecord → List LinkRecord → Haves
with_client had pass leases = record { passes = had.passes ++ pass ∷ []; leases = leases }

no_refusal : (had : Haves) (secret : ℕ) (given : Reply) (v w : NodeView)
    (reply : Result PassRecord JoinRefusal) → HasRoom had 1 v
    → NodeStep v (Join 0 secret kind.Short reply) w
    → reply_of (Join 0 secret kind.Short reply) ≡ Some given → ⊥
no_refusal had secret given v w (Ok pass) room step says = absurd (cc)
no_refusal had secret given v w (Err refusal) room step says =
    let enough = room.room in
    join_expected room.size had.passes had.leases v w 0 secret refusal room.came
    (omega (arith, enough)) step

pub cannot_join : (had : Haves) (secret : ℕ) (given : Reply) (old new : CallerView)
    → Trips old (λ said. Join 0 secret kind.Short said) given new → Cannot (HasRoom had 1) old new
cannot_join had secret given old new trips =
    cannot_trip (HasRoom had 1) (λ said. Join 0 secret kind.Short said) given old new trips
    (λ v w reply before step says. no_refusal had secret given v w reply before step says)

pub cannot_open : (had : Haves) (secret : ℕ) (pass : PassRecord) (old middle new : CallerView)
    → CallerStep old (Join 0 secret kind.Short (Ok pass)) middle
    → Cannot (MayOpen pass had.leases) middle new → Cannot (HasRoom had 1) old new
cannot_open had secret pass old middle new joined cannot =
    cannot_then (HasRoom had 1) (MayOpen pass had.leases) old middle new
    (Join 0 secret kind.Short (Ok pass) ∷ [])
    (makes_one old (Join 0 secret kind.Short (Ok pass)) middle joined)
    (leads_one (HasRoom had 1) (HasRoom had 1) (MayOpen pass had.leases)
    (Join 0 secret kind.Short (Ok pass))
    (λ v w room step. let enough = room.room in (
      room.size,
      had.passes,
      join_leads room.size had.passes had.leases v w secret pass room.came (omega (arith, enough)) step,
    )))
    cannot

-- a client joins
joins : (size : ℕ) (had : Haves) (secret : ℕ) (pass : PassRecord)
    → length (had.passes ++ pass ∷ []) ≤ size
    → (v w : NodeView) → Came size had.passes had.leases v
    → NodeStep v (Join 0 secret kind.Short (Ok pass)) w
    → Joined size had.passes pass had.leases w
joins size had secret pass room v w came step =
    let longer = length-append had.passes (pass ∷ []) in
    join_leads size had.passes had.leases v w secret pass came (omega (arith, room, longer)) step

-- and opens no link
pub comes_without : (client : LiveClient) (pass : PassRecord) (had have : Haves)
    (old new : CallerView) → client.server_key ≡ None
    → CallerStep old (Join 0 client.secret kind.Short (Ok pass)) new
    → have ≡ with_client had pass had.leases → Comes old (client ∷ []) had have new
comes_without client pass had have old new none joined same =
    let call = Join 0 client.secret kind.Short (Ok pass) in
    rw same record {
      calls = call ∷ [];
      live = (
        call ∷ [],
        [],
        refl,
        record { pass = pass; after = []; are = refl; opening = rw none refl },
        refl,
      );
      makes = makes_one old call new joined;
      many = length-append had.passes (pass ∷ []);
      leads = λ size room. leads_one (Came size had.passes had.leases)
          (Came size had.passes had.leases) (Came size (had.passes ++ pass ∷ []) had.leases) call
          (λ v w came step. joined_came size had.passes pass had.leases w
          (joins size had client.secret pass room v w came step));
    }

-- and opens its link
pub comes_with : (client : LiveClient) (pass : PassRecord) (key : List ℕ) (had have : Haves)
    (more : List LinkRecord) (old middle new : CallerView) → client.server_key ≡ Some key
    → CallerStep old (Join 0 client.secret kind.Short (Ok pass)) middle
    → Opens middle pass key had.leases more new → have ≡ with_client had pass more
    → Comes old (client ∷ []) had have new
comes_with client pass key had have more old middle new some joined opens same =
    let call = Join 0 client.secret kind.Short (Ok pass) in
    rw same record {
      calls = call ∷ opens.calls;
      live = (
        call ∷ opens.calls,
        [],
        sym (append-nil (call ∷ opens.calls)),
        record { pass = pass; after = opens.calls; are = refl; opening = rw some opens.opening },
        refl,
      );
      makes = makes_then old middle new (call ∷ []) opens.calls (makes_one old call middle joined)
          opens.makes;
      many = length-append had.passes (pass ∷ []);
      leads = λ size room. leads_then (Came size had.passes had.leases)
          (Joined size had.passes pass had.leases) (Came size (had.passes ++ pass ∷ []) more)
          (call ∷ []) opens.calls
          (leads_one (Came size had.passes had.leases) (Came size had.passes had.leases)
          (Joined size had.passes pass had.leases) call (joins size had client.secret pass room))
          (opens.leads size had.passes);
    }
