use Rattle.link_state.specs.Watched.{all_seen}
use Rattle.link_state.proofs.WatchLemmas.{watched_next}
use Rattle.link_state.proofs.watch.watch_all.Goals as goal

pub loop-place-preserved : goal.loop-place-preserved
loop-place-preserved c =
    watched_next (all_seen c.loop-place.all.items) (all_seen c.watch_one.new.all.items) c.args.reports.now c.loop-place.place c.loop-place.invariant c.in_ok-watch_one.ensures
