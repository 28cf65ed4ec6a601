use Rattle.std.proofs.Common.{◌≡◌, ◌++◌, map, take}
use Rattle.std.specs.String.{string_bytes}
use Rattle.world_script.specs.Outcome.{ended, interrupt_line}
use Rattle.world_script.proofs.outcome.write_interrupts.Given as goal

abbrev pub invariant-loop-interrupt : goal.invariant-loop-interrupt
invariant-loop-interrupt l = string_bytes l.text ≡ string_bytes l.fn.text
    ++ ended (map interrupt_line (take l.interrupt-index l.interrupts))
