use Rattle.std.proofs.Common.{◌≤◌, take}
use Rattle.std.specs.List.{AllByRecursion}
use Rattle.tracked_links.specs.HeardInside.{Suffices}
use Rattle.tracked_links.proofs.heard_status.most_of.Given as goal

-- so many are enough for the names so far
abbrev pub invariant-loop-place : goal.invariant-loop-place
invariant-loop-place l = record {
  enough : AllByRecursion (Suffices l.most) (take l.place l.names);
  small : l.most ≤ 10000000000000000000;
}
