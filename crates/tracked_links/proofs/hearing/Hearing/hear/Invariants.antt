use Rattle.std.proofs.Common.{◌≡◌, ℕ, List, ◌++◌, length}
use Rattle.tracked_links.specs.Heard.{HasHeard}
use Rattle.tracked_links.proofs.HearingLemmas.{HasHeardBefore}
use Rattle.tracked_links.proofs.hearing.Hearing.hear.Given as goal

-- all but the rest was heard
abbrev pub invariant-pieces : goal.invariant-pieces
invariant-pieces l = record {
  heard : (before : List ℕ) → HasHeard l.fn.self before → HasHeardBefore l.self (before ++ l.fn.bytes) l.rest;
  names : l.self.names ≡ l.fn.self.names;
}

abbrev pub decreases-pieces : goal.decreases-pieces
decreases-pieces l = length l.rest
