use Rattle.std.proofs.Common.{◌≡◌, drop, map}
use Rattle.command_line.specs.Arguments.{asks_help}
use Rattle.command_line.proofs.arguments.ask_help.Given as goal

-- no argument so far decides
abbrev pub invariant-loop-argument : goal.invariant-loop-argument
invariant-loop-argument l =
    asks_help (map (λ w. w.now) l.arguments)
    ≡ asks_help (map (λ w. w.now) (drop l.argument-index l.arguments))
