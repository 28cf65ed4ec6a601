use Rattle.std.proofs.Common.{◌↔◌, List, ℕ, length}
use Rattle.link_state.specs.FirstError.{IsFirstError}
use Rattle.link_state.proofs.server_errors.first_error.Given as goal

-- the rest has the same first error as all messages
abbrev pub invariant-loop-kind : goal.invariant-loop-kind
invariant-loop-kind l = (error : List ℕ)
    → IsFirstError l.rest error ↔ IsFirstError l.fn.messages error

abbrev pub decreases-loop-kind : goal.decreases-loop-kind
decreases-loop-kind l = length l.rest
