use Rattle.std.proofs.Common.{◌≡◌, map, take}
use Rattle.link_state.specs.Watched.{all_seen, fresh}
use Rattle.link_state.proofs.watch.watch_all.Given as goal

-- the parameters so far are watched
abbrev pub invariant-loop-place : goal.invariant-loop-place
invariant-loop-place l = all_seen l.all.items ≡ map fresh (take l.place l.reports)
