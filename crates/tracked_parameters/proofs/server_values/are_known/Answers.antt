use Rattle.std.proofs.Common.{◌≡◌, ◌||◌, Bool, true, false, not, is_some, None, get_or, arith}
use Rattle.tracked_parameters.specs.Server.{are_known}
use Rattle.tracked_parameters.proofs.ServerLemmas.{known_step, read_known, unreported_known}
use Rattle.tracked_parameters.proofs.server_values.are_known.Goals.{else-reported-place-via-then-reported-place+else-is_none, else-reported-place-via-else-reported-place}
use Rattle.tracked_parameters.proofs.server_values.are_known.Goals as goal

pub loop-place-preserved : goal.loop-place-preserved
loop-place-preserved c =
    let reported = c.args.reported.now in
    let values = c.args.values.now in
    let place = c.loop-place.place in
    let known : (not (get_or reported place false) || is_some (get_or values place None)) ≡ true =
    elim c.else-reported-place.branch [ else-reported-place-via-then-reported-place+else-is_none w ↦ read_known (get_or reported place false) (get_or values place None) w.at.result w.at.ensures.value w.if-is_none.ensures | else-reported-place-via-else-reported-place w ↦ unreported_known (get_or reported place false) (get_or values place None) w.if-reported-place.false ] in
    known_step reported values place (are_known reported values) (omega arith) c.requires known c.loop-place.invariant
