use Rattle.std.proofs.Common.{[], slice_get, take}
use Rattle.std.specs.List.{filter}
use Rattle.std.specs.Option.{option_to_list}
use Rattle.console.specs.Rows.{is_other, numbered_peer}
use Rattle.console.proofs.Steps.{joined, filter_next}
use Rattle.console.proofs.peers.numbered_peers.Goals as goal

pub loop-place-preserved : goal.loop-place-preserved
loop-place-preserved c =
    let other = is_other c.args.settings.now in
    let peers = c.args.settings.now.peers in
    let i = c.loop-place.place in
    joined numbered_peer [] c.loop-place.rows.items c.put_peer.new.rows.items (filter other (take i peers)) (filter other (option_to_list (slice_get peers i))) _
    c.loop-place.invariant c.in_ok-put_peer.ensures (filter_next other peers i)
