use Rattle.std.proofs.Common.{◌≡◌, ◌++◌, map, take, drop}
use Rattle.link_state.specs.Watched.{judged, all_seen}
use Rattle.link_state.proofs.watched_list.judge_all.Given as goal

-- those so far are judged
abbrev pub invariant-loop-one : goal.invariant-loop-one
invariant-loop-one l =
    all_seen l.all ≡ map (judged l.body) (take l.one-index (all_seen l.fn.all)) ++ drop l.one-index (all_seen l.fn.all)
