-- A watch in the fields that hold it (internal).
use Rattle.std.specs.Prelude.{◌≡◌, ◌<◌, false}
use Rattle.std.specs.List.{AllByRecursion}
use Rattle.link_state.specs.Watch.{WatchState}
use Rattle.link_state.specs.Watched.{all_seen, state_of, Suffices, IsSame}
use Rattle.link_state.specs.declared.watch.Watch.TheInside.{Inside}

abbrev pub state_inside : Inside → WatchState
state_inside w = state_of (all_seen w.watched.items) w.incoming w.stopped

-- so much of a message is kept that each parameter can be judged, and some is to come; no parameter
-- was reported with another value last, unless that is noted
pub record IsReady (w : Inside) : Type 0 where
  pub enough : AllByRecursion (Suffices w.incoming.limit) (all_seen w.watched.items)
  pub awaits : w.stopped ≡ false → 0 < w.incoming.left
  pub same : w.has_change ≡ false → AllByRecursion IsSame (all_seen w.watched.items)
