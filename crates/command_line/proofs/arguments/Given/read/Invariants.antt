use Rattle.std.proofs.Common.{◌≡◌, ◌≤◌, ◌-◌, drop, length, map}
use Rattle.std.specs.Option.{option_map}
use Rattle.command_line.specs.Arguments.{given_by_all, given_in, joined}
use Rattle.command_line.proofs.arguments.Given.read.Given as goal

-- what was given so far, and then what the rest gives
abbrev pub invariant-loop-at : goal.invariant-loop-at
invariant-loop-at l =
    record {
      within : l.at ≤ length l.arguments;
      gives : given_by_all l.command (map (λ w. w.now) l.arguments)
          ≡ option_map (joined (given_in l.given)) (given_by_all l.command (map (λ w. w.now) (drop l.at l.arguments)));
    }

abbrev pub decreases-loop-at : goal.decreases-loop-at
decreases-loop-at l = length l.arguments - l.at
