use Rattle.std.proofs.Common.{◌≡◌, map, take}
use Rattle.command_line.specs.Arguments.{given_in, joined, plain_alone}
use Rattle.command_line.proofs.arguments.Given.take_plain.Given as goal

-- the arguments so far
abbrev pub invariant-loop-argument : goal.invariant-loop-argument
invariant-loop-argument l = given_in l.self
    ≡ joined (given_in l.fn.self) (plain_alone
    (map (λ w. w.now) (take l.argument-index l.arguments)))
