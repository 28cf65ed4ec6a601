-- Numbers of a node's refusals: 30 to 33, 35, and 60 to 63 (own).
use Rattle.std.specs.Prelude.{ℕ}
use Rattle.key_table.specs.Refusals.{FULL}
use Rattle.quarantine.specs.Refusals.{BUSY}
use Rattle.cancel_router.specs.Refusals.{number_of}
use Rattle.node_core.specs.declared.refusal.{StepRefusal.StepRefusal, JoinRefusal.JoinRefusal}
use Rattle.node_core.specs.declared.refusal.CancelRefusal.{CancelRefusal}

-- the number of a step that changes nothing: the value handed in is stale, no number is left to
-- give, the client has a link or a permit
abbrev pub step_number : StepRefusal → ℕ
step_number StepRefusal.Stale = 32
step_number StepRefusal.Exhausted = 33
step_number StepRefusal.Holding = 35

-- the number of a refused login
abbrev pub join_number : JoinRefusal → ℕ
join_number JoinRefusal.Full = FULL
join_number JoinRefusal.Exhausted = step_number StepRefusal.Exhausted

-- the number of a refused cancel request
abbrev pub cancel_number : CancelRefusal → ℕ
cancel_number (CancelRefusal.Route refusal) = number_of refusal
cancel_number CancelRefusal.Busy = BUSY
cancel_number CancelRefusal.Exhausted = step_number StepRefusal.Exhausted
