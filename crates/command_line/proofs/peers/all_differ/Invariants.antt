use Rattle.std.proofs.Common.{◌≡◌, ◌-◌, drop, length}
use Rattle.command_line.specs.Numbers.{all_differ}
use Rattle.command_line.proofs.peers.all_differ.Given as goal

-- the numbers so far come once
abbrev pub invariant-loop-at : goal.invariant-loop-at
invariant-loop-at l = all_differ l.peers ≡ all_differ (drop l.at l.peers)

abbrev pub decreases-loop-at : goal.decreases-loop-at
decreases-loop-at l = length l.peers - l.at
