use Rattle.std.proofs.Common.{◌↔◌, List, ℕ, length}
use Rattle.startup.specs.Fields.{HasField}
use Rattle.startup.proofs.fields.error_field.Given as goal

-- the rest has the same first field of this type as the body
abbrev pub invariant-loop-found : goal.invariant-loop-found
invariant-loop-found l = (text : List ℕ)
    → HasField l.rest l.kind text ↔ HasField l.fn.body l.kind text

abbrev pub decreases-loop-found : goal.decreases-loop-found
decreases-loop-found l = length l.rest
