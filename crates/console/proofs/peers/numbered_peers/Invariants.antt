use Rattle.std.proofs.Common.{◌≡◌, map, take}
use Rattle.std.specs.List.{filter}
use Rattle.console.specs.Rows.{is_other, numbered_peer}
use Rattle.console.proofs.peers.numbered_peers.Given as goal

-- the rows of the peers so far
abbrev pub invariant-loop-place : goal.invariant-loop-place
invariant-loop-place l = l.rows.items ≡ map numbered_peer (filter (is_other l.settings) (take l.place l.settings.peers))
