-- What counted steps of a caller lead to.
use Rattle.std.proofs.Common.{ℕ, zero, suc, ◌≡◌, ◌+◌, ◌<◌, ◌≤◌, ◌⊎◌, inl, inr, List, [], ◌∷◌, Result, Ok, Err, refl, ap, sym, subst, ◌∙◌, arith, if◌then◌else◌}
use Rattle.pg_ids.specs.declared.any_key.AnyKey.{AnyKey}
use Rattle.pg_ids.specs.declared.any_key.AnyKey.TheVariants as any
use Rattle.pg_ids.specs.declared.any_key.Kind.{Kind}
use Rattle.pg_ids.specs.declared.any_key.Kind.TheVariants as of_kind
use Rattle.lease.specs.declared.link_record.LinkRecord.{LinkRecord}
use Rattle.lease.specs.declared.pass.PassRecord.{PassRecord}
use Rattle.lease.specs.declared.permit.PermitRecord.{PermitRecord}
use Rattle.lease.specs.declared.ticket.TicketRecord.{TicketRecord}
use Rattle.lease.specs.LinkValue.{LinkValue}
use Rattle.link_pool.specs.Said.{acquire_said}
use Rattle.link_pool.specs.declared.replies.AcquireReply.{AcquireReply}
use Rattle.link_pool.specs.declared.replies.AcquireReply.TheVariants as acquire
use Rattle.link_pool.specs.declared.replies.UpReply.{UpReply}
use Rattle.link_pool.specs.declared.replies.UpReply.TheVariants as up
use Rattle.link_pool.specs.declared.replies.UpFailedReply.{UpFailedReply}
use Rattle.link_pool.specs.declared.replies.UpFailedReply.TheVariants as failing
use Rattle.link_pool.specs.declared.replies.ReleaseReply.{ReleaseReply}
use Rattle.link_pool.specs.declared.replies.ReleaseReply.TheVariants as release
use Rattle.link_pool.specs.declared.replies.CloseReply.{CloseReply}
use Rattle.link_pool.specs.declared.replies.CloseReply.TheVariants as close
use Rattle.link_pool.specs.declared.replies.EndedReply.{EndedReply}
use Rattle.link_pool.specs.declared.replies.EndedReply.TheVariants as ended
use Rattle.link_pool.specs.declared.replies.FailedReply.{FailedReply}
use Rattle.link_pool.specs.declared.replies.FailedReply.TheVariants as failed
use Rattle.link_pool.specs.declared.replies.RestartReply.{RestartReply}
use Rattle.link_pool.specs.declared.replies.RestartReply.TheVariants as restart
use Rattle.cancel_router.specs.declared.refusal.RouteRefusal.TheVariants as route
use Rattle.node_core.specs.declared.refusal.JoinRefusal.{JoinRefusal}
use Rattle.node_core.specs.declared.refusal.JoinRefusal.TheVariants as join
use Rattle.node_core.specs.declared.refusal.CancelRefusal.TheVariants as refusal
use Rattle.node_core.specs.declared.exchange.LeaveReply.{LeaveReply}
use Rattle.node_core.specs.declared.exchange.LeaveReply.TheVariants as leave
use Rattle.node_core.specs.declared.exchange.Order.{Order}
use Rattle.node_core.specs.declared.exchange.Order.TheVariants as order
use Rattle.node_core.specs.declared.exchange.Exchange.{Exchange}
use Rattle.node_core.specs.declared.exchange.Exchange.TheVariants as step
use Rattle.locked_node.specs.declared.call_answer.CallAnswer.{CallAnswer}
use Rattle.locked_node.specs.declared.tally.Tally.{Tally}
use Rattle.locked_node.specs.CallNumbers.{index_of, short, long}
use Rattle.locked_node.specs.Totals.{is_of, calls_at, all_calls, Counts}
use Rattle.locked_node.specs.Lock.{CallerView, CallerStep, Counted}
use Rattle.peer_forward.specs.declared.outcome.Outcome.{Outcome}
use Rattle.peer_forward.specs.declared.outcome.Outcome.TheVariants as outcome
use Rattle.client_state.specs.Session.{Session}
use Rattle.client_state.specs.Acts.{start}
use Rattle.session_io.specs.declared.session.outcome.Stayed.{Stayed}
use Rattle.session_io.specs.declared.session.outcome.Stayed.TheVariants as stayed
use Rattle.session_io.specs.Progress.{asking}
use Rattle.node_threads.specs.Turn.{handed_in, GoesOnWithout}
use Rattle.node_threads.specs.Desks.{reported, Tells}
use Rattle.node_threads.specs.Balance.{answered, passes_made, passes_spent, permits_made, permits_spent, leases_made, leases_spent, tickets_made, tickets_spent, restarted, cancels, Hand, nothing, a_pass, a_permit, a_lease, a_ticket, a_restart, Leads, Moves, Balanced, BalancedByRestart, CancelsAtMostOnce}

-- one if a call is of the kind at this place
abbrev one_of : ℕ → Exchange → ℕ
one_of kind call = if is_of kind call then 1 else 0

-- one if a call has one of these answers
abbrev pub gain : List CallAnswer → Exchange → ℕ
gain [] call = 0
gain (answer ∷ more) call =
    (one_of (index_of (short answer)) call + one_of (index_of (long answer)) call) + gain more call

-- two hands together
abbrev pub beside : Hand → Hand → Hand
beside one other = record {
  passes = one.passes + other.passes;
  permits = one.permits + other.permits;
  leases = one.leases + other.leases;
  tickets = one.tickets + other.tickets;
  restarts = one.restarts + other.restarts;
}

-- the values that a call makes, and those that it spends
abbrev made_by : Exchange → Hand
made_by call = record {
  passes = gain passes_made call;
  permits = gain permits_made call;
  leases = gain leases_made call;
  tickets = gain tickets_made call;
  restarts = gain restarted call;
}

abbrev spent_by : Exchange → Hand
spent_by call = record {
  passes = gain passes_spent call;
  permits = gain permits_spent call;
  leases = gain leases_spent call;
  tickets = gain tickets_spent call;
  restarts = 0;
}

-- with a call the values in hand before are those after
abbrev Shifts : Hand → Exchange → Hand → Type 0
Shifts before call after = beside before (made_by call) ≡ beside after (spent_by call)

-- a counted call adds one to its answer's count
counts-gain : (old : Tally) (call : Exchange) (new : Tally) → Counts old call new
    → (answers : List CallAnswer) → answered new answers ≡ answered old answers + gain answers call
counts-gain old call new counts [] = refl
counts-gain old call new counts (answer ∷ more) =
    let one : calls_at new (index_of (short answer)) ≡ calls_at old (index_of (short answer)) +
    one_of (index_of (short answer)) call =
    counts.calls (index_of (short answer)) in
    let other : calls_at new (index_of (long answer)) ≡ calls_at old (index_of (long answer)) +
    one_of (index_of (long answer)) call =
    counts.calls (index_of (long answer)) in
    let rest : answered new more ≡ answered old more + gain more call =
    counts-gain old call new counts more in
    omega arith

none_or_some : (n : ℕ) → (n ≡ 0) ⊎ (0 < n)
none_or_some zero = inl refl
none_or_some (suc n) = inr (omega arith)

-- a counted call after which some allowance is left
counted-gain : {R : Type 0} (call : Exchange) (reply at_end : R) (old new : CallerView)
    → Counted call reply at_end old new → 0 < new.allowance → (answers : List CallAnswer)
    → answered new.tally answers ≡ answered old.tally answers + gain answers call
counted-gain call reply at_end old new counted some answers =
    elim (none_or_some old.allowance) [
      | inl none ↦
          let same : new.allowance ≡ old.allowance = ap (λ (v : CallerView). v.allowance)
          (counted.spent none).1 in
          let bad : ⊥ = omega arith in
          absurd bad
      | inr more ↦ counts-gain old.tally call new.tally (counted.made more).tally answers
    ]

-- and any counted call
counted-most : {R : Type 0} (call : Exchange) (reply at_end : R) (old new : CallerView)
    → Counted call reply at_end old new → (answers : List CallAnswer)
    → answered new.tally answers ≤ answered old.tally answers + gain answers call
counted-most call reply at_end old new counted answers =
    elim (none_or_some old.allowance) [
      | inl none ↦
          let same : answered new.tally answers ≡ answered old.tally answers =
          ap (λ (v : CallerView). answered v.tally answers) (counted.spent none).1 in
          omega arith
      | inr more ↦
          let gained : answered new.tally answers ≡ answered old.tally answers + gain answers call =
          counts-gain old.tally call new.tally (counted.made more).tally answers in
          omega arith
    ]

-- allowance and counts together stay, and the allowance doesn't grow
counted-total : {R : Type 0} (call : Exchange) (reply at_end : R) (old new : CallerView)
    → Counted call reply at_end old new
    → (new.allowance + all_calls new.tally ≡ old.allowance + all_calls old.tally)
    × (new.allowance ≤ old.allowance)
counted-total call reply at_end old new counted =
    elim (none_or_some old.allowance) [
      | inl none ↦
          let same : new ≡ old = (counted.spent none).1 in
          let left : new.allowance ≡ old.allowance = ap (λ (v : CallerView). v.allowance) same in
          (ap (λ (v : CallerView). v.allowance + all_calls v.tally) same, omega arith)
      | inr more ↦
          let one : CallerStep old call new = counted.made more in
          let less : new.allowance + 1 ≡ old.allowance = one.allowance in
          let all : all_calls new.tally ≡ all_calls old.tally + 1 = one.tally.all in
          (omega arith, omega arith)
    ]

-- a count that was moved by what a call made and spent
leads_by : (before after m n s t g h : ℕ) → m ≡ n + g → s ≡ t + h → before + g ≡ after + h
    → before + (m + t) ≡ after + (s + n)
leads_by before after m n s t g h p q e = omega arith

-- and by two one after another
leads_on : (before between after m n o s t u : ℕ) → before + (n + u) ≡ between + (t + o)
    → between + (m + t) ≡ after + (s + n) → before + (m + u) ≡ after + (s + o)
leads_on before between after m n o s t u p q = omega arith

leads_beside : (more before after m s t n : ℕ) → before + (m + t) ≡ after + (s + n)
    → (more + before) + (m + t) ≡ (more + after) + (s + n)
leads_beside more before after m s t n p = omega arith

-- one counted step
pub step_moves : {R : Type 0} (call : Exchange) (reply at_end : R) (old new : CallerView)
    (before after : Hand) → Shifts before call after → Counted call reply at_end old new
    → Moves before old after new
step_moves call reply at_end old new before after shifts counted =
    let leads : (made spent : List CallAnswer) (from to : ℕ)
    → from + gain made call ≡ to + gain spent call → 0 < new.allowance
    → Leads made spent from old.tally to new.tally =
    λ made spent from to is some. leads_by from to _ _ _ _ _ _
    (counted-gain call reply at_end old new counted some made)
    (counted-gain call reply at_end old new counted some spent) is in
    record {
      same = counted.same;
      total = (counted-total call reply at_end old new counted).0;
      falls = (counted-total call reply at_end old new counted).1;
      passes = leads passes_made passes_spent _ _ (ap (λ (hand : Hand). hand.passes) shifts);
      permits = leads permits_made permits_spent _ _ (ap (λ (hand : Hand). hand.permits) shifts);
      leases = leads leases_made leases_spent _ _ (ap (λ (hand : Hand). hand.leases) shifts);
      tickets = leads tickets_made tickets_spent _ _ (ap (λ (hand : Hand). hand.tickets) shifts);
      restarts = leads restarted [] _ _ (ap (λ (hand : Hand). hand.restarts) shifts);
    }

-- steps after others
pub moves_on : (before between after : Hand) (old middle new : CallerView)
    → Moves before old between middle → Moves between middle after new → Moves before old after new
moves_on before between after old middle new first more =
    let less : new.allowance ≤ middle.allowance = more.falls in
    let lesser : middle.allowance ≤ old.allowance = first.falls in
    let some : 0 < new.allowance → 0 < middle.allowance = λ left. omega (arith, left, less) in
    record {
      same = (more.same.0 ∙ first.same.0, more.same.1 ∙ first.same.1);
      total = more.total ∙ first.total;
      falls = omega (arith, less, lesser);
      passes = λ left. leads_on before.passes between.passes after.passes _ _ _ _ _ _
          (first.passes (some left)) (more.passes left);
      permits = λ left. leads_on before.permits between.permits after.permits _ _ _ _ _ _
          (first.permits (some left)) (more.permits left);
      leases = λ left. leads_on before.leases between.leases after.leases _ _ _ _ _ _
          (first.leases (some left)) (more.leases left);
      tickets = λ left. leads_on before.tickets between.tickets after.tickets _ _ _ _ _ _
          (first.tickets (some left)) (more.tickets left);
      restarts = λ left. leads_on before.restarts between.restarts after.restarts _ _ _ _ _ _
          (first.restarts (some left)) (more.restarts left);
    }

-- no step
pub moves_nothing : (hand : Hand) (old new : CallerView) → new ≡ old → Moves hand old hand new
moves_nothing hand old new is = subst (λ (v : CallerView). Moves hand old hand v) (sym is) (record {
  same = (refl, refl);
  total = refl;
  falls = omega arith;
  passes = λ left. omega arith;
  permits = λ left. omega arith;
  leases = λ left. omega arith;
  tickets = λ left. omega arith;
  restarts = λ left. omega arith;
})

-- what else is in hand stays there
pub moves_beside : (more before after : Hand) (old new : CallerView) → Moves before old after new
    → Moves (beside more before) old (beside more after) new
moves_beside more before after old new moves = record {
  same = moves.same;
  total = moves.total;
  falls = moves.falls;
  passes = λ left. leads_beside more.passes before.passes after.passes _ _ _ _ (moves.passes left);
  permits = λ left. leads_beside more.permits before.permits after.permits _ _ _ _ (moves.permits
      left);
  leases = λ left. leads_beside more.leases before.leases after.leases _ _ _ _ (moves.leases left);
  tickets = λ left. leads_beside more.tickets before.tickets after.tickets _ _ _ _ (moves.tickets
      left);
  restarts = λ left. leads_beside more.restarts before.restarts after.restarts _ _ _ _
      (moves.restarts left);
}

-- Each step, by its reply.

abbrev pub joined_hand : Result PassRecord JoinRefusal → Hand
joined_hand (Ok pass) = a_pass
joined_hand (Err reason) = nothing

join_shifts : (database secret : ℕ) (asked : Kind) (reply : Result PassRecord JoinRefusal)
    → Shifts nothing (step.Join database secret asked reply) (joined_hand reply)
join_shifts database secret of_kind.Short (Ok pass) = refl
join_shifts database secret of_kind.Short (Err join.Full) = refl
join_shifts database secret of_kind.Short (Err join.Exhausted) = refl
join_shifts database secret of_kind.Long (Ok pass) = refl
join_shifts database secret of_kind.Long (Err join.Full) = refl
join_shifts database secret of_kind.Long (Err join.Exhausted) = refl

pub join_moves : {R : Type 0} (database secret : ℕ) (asked : Kind)
    (said : Result PassRecord JoinRefusal) (reply at_end : R) (old new : CallerView)
    → Counted (step.Join database secret asked said) reply at_end old new
    → Moves nothing old (joined_hand said) new
join_moves database secret asked said reply at_end old new =
    step_moves (step.Join database secret asked said) reply at_end old new nothing
    (joined_hand said)
    (join_shifts database secret asked said)

abbrev pub left_hand : LeaveReply PassRecord → Hand
left_hand leave.Left = nothing
left_hand (leave.Holding pass) = a_pass
left_hand leave.Stale = nothing
left_hand leave.Exhausted = nothing

leave_shifts : (key : AnyKey) (incarnation number : ℕ) (reply : LeaveReply PassRecord)
    → Shifts a_pass
    (step.Leave (record { key = key; incarnation = incarnation; number = number }) reply)
    (left_hand reply)
leave_shifts (any.Short key) incarnation number leave.Left = refl
leave_shifts (any.Short key) incarnation number (leave.Holding pass) = refl
leave_shifts (any.Short key) incarnation number leave.Stale = refl
leave_shifts (any.Short key) incarnation number leave.Exhausted = refl
leave_shifts (any.Long key part) incarnation number leave.Left = refl
leave_shifts (any.Long key part) incarnation number (leave.Holding pass) = refl
leave_shifts (any.Long key part) incarnation number leave.Stale = refl
leave_shifts (any.Long key part) incarnation number leave.Exhausted = refl

pub leave_moves : {R : Type 0} (pass : PassRecord) (said : LeaveReply PassRecord) (reply at_end : R)
    (old new : CallerView) → Counted (step.Leave pass said) reply at_end old new
    → Moves a_pass old (left_hand said) new
leave_moves pass said reply at_end old new =
    step_moves (step.Leave pass said) reply at_end old new a_pass (left_hand said)
    (leave_shifts pass.key pass.incarnation pass.number said)

-- a client that left, or whose pass is spent
left_nothing : (said : LeaveReply PassRecord)
    → (said ≡ leave.Left) ⊎ ((said ≡ leave.Stale) ⊎ (said ≡ leave.Exhausted))
    → left_hand said ≡ nothing
left_nothing said is = elim is [
  | inl left ↦ ap left_hand left
  | inr spent ↦ elim spent [
    | inl stale ↦ ap left_hand stale
    | inr exhausted ↦ ap left_hand exhausted
  ]
]

pub gone_moves : {R : Type 0} (pass : PassRecord) (said : LeaveReply PassRecord) (reply at_end : R)
    (old new : CallerView) → (said ≡ leave.Left) ⊎ ((said ≡ leave.Stale) ⊎ (said ≡ leave.Exhausted))
    → Counted (step.Leave pass said) reply at_end old new → Moves a_pass old nothing new
gone_moves pass said reply at_end old new is counted =
    subst (λ (hand : Hand). Moves a_pass old hand new) (left_nothing said is)
    (leave_moves pass said reply at_end old new counted)

abbrev pub acquired_hand : AcquireReply LinkRecord PermitRecord → Hand
acquired_hand (acquire.Got lease) = a_lease
acquired_hand (acquire.Open permit) = a_permit
acquired_hand acquire.Waiting = nothing
acquired_hand acquire.Cancelled = nothing
acquired_hand acquire.Holding = nothing
acquired_hand acquire.Exhausted = nothing
acquired_hand acquire.Stale = nothing

acquire_shifts : (key : AnyKey) (incarnation number : ℕ)
    (reply : AcquireReply LinkRecord PermitRecord)
    → Shifts nothing
    (step.Acquire (record { key = key; incarnation = incarnation; number = number }) reply)
    (acquired_hand reply)
acquire_shifts (any.Short key) incarnation number (acquire.Got lease) = refl
acquire_shifts (any.Short key) incarnation number (acquire.Open permit) = refl
acquire_shifts (any.Short key) incarnation number acquire.Waiting = refl
acquire_shifts (any.Short key) incarnation number acquire.Cancelled = refl
acquire_shifts (any.Short key) incarnation number acquire.Holding = refl
acquire_shifts (any.Short key) incarnation number acquire.Exhausted = refl
acquire_shifts (any.Short key) incarnation number acquire.Stale = refl
acquire_shifts (any.Long key part) incarnation number (acquire.Got lease) = refl
acquire_shifts (any.Long key part) incarnation number (acquire.Open permit) = refl
acquire_shifts (any.Long key part) incarnation number acquire.Waiting = refl
acquire_shifts (any.Long key part) incarnation number acquire.Cancelled = refl
acquire_shifts (any.Long key part) incarnation number acquire.Holding = refl
acquire_shifts (any.Long key part) incarnation number acquire.Exhausted = refl
acquire_shifts (any.Long key part) incarnation number acquire.Stale = refl

pub acquire_moves : {R : Type 0} (pass : PassRecord) (said : AcquireReply LinkRecord PermitRecord)
    (reply at_end : R) (old new : CallerView)
    → Counted (step.Acquire pass said) reply at_end old new
    → Moves nothing old (acquired_hand said) new
acquire_moves pass said reply at_end old new =
    step_moves (step.Acquire pass said) reply at_end old new nothing (acquired_hand said)
    (acquire_shifts pass.key pass.incarnation pass.number said)

-- a client that holds something already, or where no number is left
pub not_given_moves : {S R : Type 0} (pass : PassRecord)
    (said : AcquireReply (LinkValue S) PermitRecord) (reply at_end : R) (old new : CallerView)
    → (said ≡ acquire.Holding) ⊎ (said ≡ acquire.Exhausted)
    → Counted (step.Acquire pass (acquire_said said)) reply at_end old new
    → Moves nothing old nothing new
not_given_moves {S} pass said reply at_end old new is counted =
    let hand : AcquireReply (LinkValue S) PermitRecord → Hand =
    λ r. acquired_hand (acquire_said r) in
    let none : acquired_hand (acquire_said said) ≡ nothing =
    elim is [ inl holding ↦ ap hand holding | inr exhausted ↦ ap hand exhausted ] in
    subst (λ (h : Hand). Moves nothing old h new) none
    (acquire_moves pass (acquire_said said) reply at_end old new counted)

abbrev pub up_hand : UpReply LinkRecord PermitRecord (Unit {0}) → Hand
up_hand (up.Up lease) = a_lease
up_hand (up.Exhausted permit stream) = a_permit
up_hand (up.Stale stream) = nothing
up_hand (up.AtEnd stream) = nothing

up_shifts : (permit : PermitRecord) (key : List ℕ)
    (reply : UpReply LinkRecord PermitRecord (Unit {0}))
    → Shifts a_permit (step.Up permit key reply) (up_hand reply)
up_shifts permit key (up.Up lease) = refl
up_shifts permit key (up.Exhausted again stream) = refl
up_shifts permit key (up.Stale stream) = refl
up_shifts permit key (up.AtEnd stream) = refl

pub up_moves : {R : Type 0} (permit : PermitRecord) (key : List ℕ)
    (said : UpReply LinkRecord PermitRecord (Unit {0})) (reply at_end : R) (old new : CallerView)
    → Counted (step.Up permit key said) reply at_end old new → Moves a_permit old (up_hand said) new
up_moves permit key said reply at_end old new =
    step_moves (step.Up permit key said) reply at_end old new a_permit (up_hand said)
    (up_shifts permit key said)

up_failed_shifts : (permit : PermitRecord) (reply : UpFailedReply)
    → Shifts a_permit (step.UpFailed permit reply) nothing
up_failed_shifts permit failing.Freed = refl
up_failed_shifts permit failing.Stale = refl
up_failed_shifts permit failing.Exhausted = refl

pub up_failed_moves : {R : Type 0} (permit : PermitRecord) (said : UpFailedReply) (reply at_end : R)
    (old new : CallerView) → Counted (step.UpFailed permit said) reply at_end old new
    → Moves a_permit old nothing new
up_failed_moves permit said reply at_end old new =
    step_moves (step.UpFailed permit said) reply at_end old new a_permit nothing
    (up_failed_shifts permit said)

restart_shifts : (boot : ℕ) (reply : RestartReply)
    → Shifts nothing (step.Restart boot reply) a_restart
restart_shifts boot restart.Restarted = refl
restart_shifts boot restart.Exhausted = refl

pub restart_moves : {R : Type 0} (boot : ℕ) (said : RestartReply) (reply at_end : R)
    (old new : CallerView) → Counted (step.Restart boot said) reply at_end old new
    → BalancedByRestart old new
restart_moves boot said reply at_end old new counted =
    inr (step_moves (step.Restart boot said) reply at_end old new nothing a_restart
    (restart_shifts boot said) counted)

pub no_restart : (old new : CallerView) → new ≡ old → BalancedByRestart old new
no_restart old new is = inl (moves_nothing nothing old new is)

release_shifts : (lease : LinkRecord) (reply : ReleaseReply (Unit {0}))
    → Shifts a_lease (step.Release lease reply) nothing
release_shifts lease release.Idle = refl
release_shifts lease release.Quarantined = refl
release_shifts lease (release.Closed stream) = refl
release_shifts lease (release.Stale stream) = refl
release_shifts lease (release.Exhausted stream) = refl

close_shifts : (lease : LinkRecord) (reply : CloseReply (Unit {0}))
    → Shifts a_lease (step.Close lease reply) nothing
close_shifts lease (close.Closed stream) = refl
close_shifts lease (close.Stale stream) = refl
close_shifts lease (close.Exhausted stream) = refl

pub close_moves : {R : Type 0} (lease : LinkRecord) (said : CloseReply (Unit {0}))
    (reply at_end : R)
    (old new : CallerView) → Counted (step.Close lease said) reply at_end old new
    → Moves a_lease old nothing new
close_moves lease said reply at_end old new =
    step_moves (step.Close lease said) reply at_end old new a_lease nothing
    (close_shifts lease said)

-- a lease that is handed in after a stay
pub handed_in_moves : (end : Stayed) (lease : LinkRecord) (old new : CallerView)
    → Tells (handed_in end lease) old new → Moves a_lease old nothing new
handed_in_moves stayed.Release lease old new told =
    step_moves (step.Release lease told.0) told.0 (release.Exhausted tt) old new a_lease nothing
    (release_shifts lease told.0) told.1
handed_in_moves stayed.Close lease old new told =
    close_moves lease told.0 told.0 (close.Exhausted tt) old new told.1
handed_in_moves (stayed.End reply) lease old new told =
    close_moves lease told.0 told.0 (close.Exhausted tt) old new told.1

ended_shifts : (ticket : TicketRecord) (reply : EndedReply)
    → Shifts a_ticket (step.Ended ticket reply) nothing
ended_shifts ticket ended.Freed = refl
ended_shifts ticket ended.Counted = refl
ended_shifts ticket ended.Stale = refl
ended_shifts ticket ended.Exhausted = refl

failed_shifts : (ticket : TicketRecord) (reply : FailedReply (Unit {0}))
    → Shifts a_ticket (step.Failed ticket reply) nothing
failed_shifts ticket failed.Condemned = refl
failed_shifts ticket (failed.Closed stream) = refl
failed_shifts ticket failed.Stale = refl
failed_shifts ticket failed.Exhausted = refl

-- a ticket that is reported, and no cancel request
reported_moves : (end : Outcome) (ticket : TicketRecord) (old new : CallerView)
    → Tells (reported end ticket) old new → Moves a_ticket old nothing new
reported_moves outcome.Ended ticket old new told =
    step_moves (step.Ended ticket told.0) told.0 ended.Exhausted old new a_ticket nothing
    (ended_shifts ticket told.0) told.1
reported_moves outcome.Failed ticket old new told =
    step_moves (step.Failed ticket told.0) told.0 failed.Exhausted old new a_ticket nothing
    (failed_shifts ticket told.0) told.1

ended_cancels : (ticket : TicketRecord) (reply : EndedReply)
    → gain cancels (step.Ended ticket reply) ≡ 0
ended_cancels ticket ended.Freed = refl
ended_cancels ticket ended.Counted = refl
ended_cancels ticket ended.Stale = refl
ended_cancels ticket ended.Exhausted = refl

failed_cancels : (ticket : TicketRecord) (reply : FailedReply (Unit {0}))
    → gain cancels (step.Failed ticket reply) ≡ 0
failed_cancels ticket failed.Condemned = refl
failed_cancels ticket (failed.Closed stream) = refl
failed_cancels ticket failed.Stale = refl
failed_cancels ticket failed.Exhausted = refl

reported_cancels : (end : Outcome) (ticket : TicketRecord) (old new : CallerView)
    → Tells (reported end ticket) old new
    → answered new.tally cancels ≤ answered old.tally cancels + 0
reported_cancels outcome.Ended ticket old new told =
    subst (λ n. answered new.tally cancels ≤ answered old.tally cancels + n)
    (ended_cancels ticket told.0)
    (counted-most (step.Ended ticket told.0) told.0 ended.Exhausted old new told.1 cancels)
reported_cancels outcome.Failed ticket old new told =
    subst (λ n. answered new.tally cancels ≤ answered old.tally cancels + n)
    (failed_cancels ticket told.0)
    (counted-most (step.Failed ticket told.0) told.0 failed.Exhausted old new told.1 cancels)

-- an order's hand
abbrev pub order_hand : Order TicketRecord → Hand
order_hand (order.Serve ticket database server) = a_ticket
order_hand (order.Forward peer packet) = nothing
order_hand (order.Unwait slot) = nothing
order_hand (order.Refused reason) = nothing

cancel_shifts : (key : AnyKey) (given : Order TicketRecord)
    → Shifts nothing (step.Cancel key given) (order_hand given)
    × (gain cancels (step.Cancel key given) ≡ 1)
cancel_shifts (any.Short k) (order.Serve ticket database server) = (refl, refl)
cancel_shifts (any.Short k) (order.Forward peer packet) = (refl, refl)
cancel_shifts (any.Short k) (order.Unwait slot) = (refl, refl)
cancel_shifts (any.Short k) (order.Refused (refusal.Route route.Spent)) = (refl, refl)
cancel_shifts (any.Short k) (order.Refused (refusal.Route route.Unknown)) = (refl, refl)
cancel_shifts (any.Short k) (order.Refused (refusal.Route route.NoPeer)) = (refl, refl)
cancel_shifts (any.Short k) (order.Refused (refusal.Route route.NoLink)) = (refl, refl)
cancel_shifts (any.Short k) (order.Refused refusal.Busy) = (refl, refl)
cancel_shifts (any.Short k) (order.Refused refusal.Exhausted) = (refl, refl)
cancel_shifts (any.Long k part) (order.Serve ticket database server) = (refl, refl)
cancel_shifts (any.Long k part) (order.Forward peer packet) = (refl, refl)
cancel_shifts (any.Long k part) (order.Unwait slot) = (refl, refl)
cancel_shifts (any.Long k part) (order.Refused (refusal.Route route.Spent)) = (refl, refl)
cancel_shifts (any.Long k part) (order.Refused (refusal.Route route.Unknown)) = (refl, refl)
cancel_shifts (any.Long k part) (order.Refused (refusal.Route route.NoPeer)) = (refl, refl)
cancel_shifts (any.Long k part) (order.Refused (refusal.Route route.NoLink)) = (refl, refl)
cancel_shifts (any.Long k part) (order.Refused refusal.Busy) = (refl, refl)
cancel_shifts (any.Long k part) (order.Refused refusal.Exhausted) = (refl, refl)

pub cancel_moves : (key : AnyKey) (given at_end : Order TicketRecord) (old new : CallerView)
    → Counted (step.Cancel key given) given at_end old new
    → Moves nothing old (order_hand given) new
cancel_moves key given at_end old new =
    step_moves (step.Cancel key given) given at_end old new nothing (order_hand given)
    (cancel_shifts key given).0

pub order-once : (key : AnyKey) (given at_end : Order TicketRecord) (old new : CallerView)
    → Counted (step.Cancel key given) given at_end old new → CancelsAtMostOnce old new
order-once key given at_end old new counted =
    subst (λ n. answered new.tally cancels ≤ answered old.tally cancels + n)
    (cancel_shifts key given).1
    (counted-most (step.Cancel key given) given at_end old new counted cancels)

-- an order without a ticket
pub order-balanced : (key : AnyKey) (given at_end : Order TicketRecord) (old new : CallerView)
    → Counted (step.Cancel key given) given at_end old new → order_hand given ≡ nothing
    → Balanced old new
order-balanced key given at_end old new counted none =
    subst (λ (hand : Hand). Moves nothing old hand new) none
    (cancel_moves key given at_end old new counted)

-- an order with a ticket, and the report of how its carrying ended
pub report-balanced : (key : AnyKey) (given at_end : Order TicketRecord)
    (old between new : CallerView)
    (ticket : TicketRecord) (end : Outcome)
    → Counted (step.Cancel key given) given at_end old between → order_hand given ≡ a_ticket
    → Tells (reported end ticket) between new → Balanced old new
report-balanced key given at_end old between new ticket end counted one told =
    moves_on nothing a_ticket nothing old between new
    (subst (λ (hand : Hand). Moves nothing old hand between) one
    (cancel_moves key given at_end old between counted))
    (reported_moves end ticket between new told)

most_by : (a m b : ℕ) → a ≤ m + 0 → m ≤ b + 1 → a ≤ b + 1
most_by a m b p q = omega arith

pub report-once : (key : AnyKey) (given at_end : Order TicketRecord) (old between new : CallerView)
    (ticket : TicketRecord) (end : Outcome)
    → Counted (step.Cancel key given) given at_end old between
    → Tells (reported end ticket) between new → CancelsAtMostOnce old new
report-once key given at_end old between new ticket end counted told =
    most_by _ _ _ (reported_cancels end ticket between new told)
    (order-once key given at_end old between counted)

not_release : (reply : List ℕ) → stayed.End reply ≡ stayed.Release → ⊥
not_release reply is = cc

not_close : (reply : List ℕ) → stayed.End reply ≡ stayed.Close → ⊥
not_close reply is = cc

-- where a session goes on it is as at its start
pub goes_on_as_at_start : (limit : ℕ) (end : Stayed) (old new : Session) (database : ℕ)
    → (end ≡ stayed.Release) ⊎ (end ≡ stayed.Close) → GoesOnWithout end old new
    → old ≡ asking limit database → new ≡ start limit database
goes_on_as_at_start limit stayed.Release old new database is goes asked =
    goes ∙ ap (λ (s : Session). start s.limit s.database) asked
goes_on_as_at_start limit stayed.Close old new database is goes asked =
    goes ∙ ap (λ (s : Session). start s.limit s.database) asked
goes_on_as_at_start limit (stayed.End reply) old new database is goes asked = elim is [
  | inl is_release ↦ absurd (not_release reply is_release)
  | inr is_close ↦ absurd (not_close reply is_close)
]
