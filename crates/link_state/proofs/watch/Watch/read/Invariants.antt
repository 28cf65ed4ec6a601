use Rattle.std.proofs.Common.{◌≡◌, ℕ, List, ◌++◌, length}
use Rattle.link_state.specs.Watch.{HasSeen, told_of}
use Rattle.link_state.proofs.WatchLemmas.{HasSeenBefore}
use Rattle.link_state.proofs.watch.Watch.read.Given as goal

-- all but the rest was read
abbrev pub invariant-pieces : goal.invariant-pieces
invariant-pieces l = record {
  seen : (before : List ℕ) → HasSeen l.fn.self before → HasSeenBefore l.self (before ++ l.fn.bytes) l.rest;
  told : told_of l.self ≡ told_of l.fn.self;
}

abbrev pub decreases-pieces : goal.decreases-pieces
decreases-pieces l = length l.rest
