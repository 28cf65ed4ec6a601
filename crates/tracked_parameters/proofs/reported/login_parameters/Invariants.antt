use Rattle.std.proofs.Common.{◌≡◌, take}
use Rattle.std.specs.List.{flat_map}
use Rattle.tracked_parameters.specs.StoredReports.{own_status}
use Rattle.tracked_parameters.proofs.reported.login_parameters.Given as goal

-- the messages so far
abbrev pub invariant-loop-stored : goal.invariant-loop-stored
invariant-loop-stored l = l.out.items ≡ flat_map (own_status l.names l.wanted) (take l.stored-index l.stored-items)
