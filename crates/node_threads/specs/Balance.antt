-- Which replies make and which consume a pass, a permit, a lease or a ticket, and which are those of
-- a restart (own). `Moves`: the steps that a caller counted lead from these values in hand to those.
-- `Balanced`: from none to none, without a restart.
use Rattle.std.specs.Prelude.{ℕ, ◌≡◌, ◌⊎◌, ◌+◌, ◌<◌, ◌≤◌, List, [], ◌∷◌}
use Rattle.locked_node.specs.declared.call_answer.CallAnswer.{CallAnswer}
use Rattle.locked_node.specs.declared.call_answer.CallAnswer.TheVariants as answer
use Rattle.locked_node.specs.declared.tally.Tally.{Tally}
use Rattle.locked_node.specs.Journal.{answers_in}
use Rattle.locked_node.specs.Totals.{calls_at, all_calls}
use Rattle.locked_node.specs.Lock.{CallerView}

-- how many calls of a tally have one of these answers, with keys of both kinds
abbrev pub answered : Tally → List CallAnswer → ℕ
answered tally [] = 0
answered tally (answer ∷ more) = answers_in (calls_at tally) answer + answered tally more

-- the answers by which a pass is made, and those by which one is spent
abbrev pub passes_made : List CallAnswer
passes_made = answer.Joined ∷ []

abbrev pub passes_spent : List CallAnswer
passes_spent = answer.Left ∷ answer.LeaveStale ∷ answer.LeaveExhausted ∷ []

-- the same of permits
abbrev pub permits_made : List CallAnswer
permits_made = answer.AcquireOpen ∷ []

abbrev pub permits_spent : List CallAnswer
permits_spent = answer.WentUp ∷ answer.UpStale ∷ answer.UpAtEnd ∷ answer.UpFailedFreed
    ∷ answer.UpFailedStale ∷ answer.UpFailedExhausted ∷ []

-- of leases
abbrev pub leases_made : List CallAnswer
leases_made = answer.AcquireGot ∷ answer.WentUp ∷ []

abbrev pub leases_spent : List CallAnswer
leases_spent = answer.ReleasedIdle ∷ answer.ReleasedQuarantined ∷ answer.ReleasedClosed
    ∷ answer.ReleaseStale ∷ answer.ReleaseExhausted ∷ answer.Closed ∷ answer.CloseStale
    ∷ answer.CloseExhausted ∷ []

-- and of tickets
abbrev pub tickets_made : List CallAnswer
tickets_made = answer.Served ∷ []

abbrev pub tickets_spent : List CallAnswer
tickets_spent = answer.EndedFreed ∷ answer.EndedCounted ∷ answer.EndedStale
    ∷ answer.EndedExhausted ∷ answer.FailedCondemned ∷ answer.FailedClosed ∷ answer.FailedStale
    ∷ answer.FailedExhausted ∷ []

-- the answers to restarts
abbrev pub restarted : List CallAnswer
restarted = answer.Restarted ∷ answer.RestartExhausted ∷ []

-- the answers to cancel requests
abbrev pub cancels : List CallAnswer
cancels = answer.Served ∷ answer.Forwarded ∷ answer.Unwaited ∷ answer.CancelSpent
    ∷ answer.CancelUnknown ∷ answer.CancelNoPeer ∷ answer.CancelNoLink ∷ answer.CancelBusy
    ∷ answer.CancelExhausted ∷ []

-- how many values of each kind are in hand, and how many restarts there were
pub record Hand : Type 0 where
  pub passes : ℕ
  pub permits : ℕ
  pub leases : ℕ
  pub tickets : ℕ
  pub restarts : ℕ

abbrev pub nothing : Hand
nothing = record { passes = 0; permits = 0; leases = 0; tickets = 0; restarts = 0 }

abbrev pub a_pass : Hand
a_pass = record { passes = 1; permits = 0; leases = 0; tickets = 0; restarts = 0 }

abbrev pub a_permit : Hand
a_permit = record { passes = 0; permits = 1; leases = 0; tickets = 0; restarts = 0 }

abbrev pub a_lease : Hand
a_lease = record { passes = 0; permits = 0; leases = 1; tickets = 0; restarts = 0 }

abbrev pub a_ticket : Hand
a_ticket = record { passes = 0; permits = 0; leases = 0; tickets = 1; restarts = 0 }

abbrev pub a_restart : Hand
a_restart = record { passes = 0; permits = 0; leases = 0; tickets = 0; restarts = 1 }

-- With `before` values in hand at the old tally, `after` are in hand at the new one: each call that
-- was counted in between makes one if its answer is in `made`, and spends one if it is in `spent`.
abbrev pub Leads : List CallAnswer → List CallAnswer → ℕ → Tally → ℕ → Tally → Type 0
Leads made spent before old after new = before + (answered new made + answered old spent)
    ≡ after + (answered new spent + answered old made)

-- A caller's allowance and its counts make as much as before, and the allowance isn't greater; and
-- if some is left, the steps that it counted lead from the values in hand before to those after,
-- each kind by itself. A restart is never undone.
pub record Moves (before : Hand) (old : CallerView) (after : Hand) (new : CallerView) : Type 0 where
  pub same : (new.lock ≡ old.lock) × (new.start ≡ old.start)
  pub total : new.allowance + all_calls new.tally ≡ old.allowance + all_calls old.tally
  pub falls : new.allowance ≤ old.allowance
  pub passes : 0 < new.allowance
      → Leads passes_made passes_spent before.passes old.tally after.passes new.tally
  pub permits : 0 < new.allowance
      → Leads permits_made permits_spent before.permits old.tally after.permits new.tally
  pub leases : 0 < new.allowance
      → Leads leases_made leases_spent before.leases old.tally after.leases new.tally
  pub tickets : 0 < new.allowance
      → Leads tickets_made tickets_spent before.tickets old.tally after.tickets new.tally
  pub restarts : 0 < new.allowance
      → Leads restarted [] before.restarts old.tally after.restarts new.tally

-- the steps that a caller counted spent as many passes, permits, leases and tickets as they made,
-- each kind by itself, and none was a restart, if some allowance is left
abbrev pub Balanced : CallerView → CallerView → Type 0
Balanced old new = Moves nothing old nothing new

-- the same with one restart at most
abbrev pub BalancedByRestart : CallerView → CallerView → Type 0
BalancedByRestart old new = Balanced old new ⊎ Moves nothing old a_restart new

-- a caller counted at most one cancel request
abbrev pub CancelsAtMostOnce : CallerView → CallerView → Type 0
CancelsAtMostOnce old new = answered new.tally cancels ≤ answered old.tally cancels + 1
