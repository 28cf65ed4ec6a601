use Rattle.std.proofs.Common.{◌<◌, length, take, refl, sym, arith, length-set}
use Rattle.std.proofs.lemmas.Bool.{false≢true}
use Rattle.std.proofs.lemmas.List.{take_more_set}
use Rattle.startup.specs.Parameter.{sent}
use Rattle.startup.proofs.ParameterLemmas.{always_none}
use Rattle.startup.proofs.SessionLemmas.{not_formed, not_allowed, take_more, none_taken}
use Rattle.startup.proofs.RoomLemmas.{room_for_more}
use Rattle.startup.proofs.session.Session.read_all.Goals as goal

pub parameters-init : goal.parameters-init
parameters-init c = record { taken = none_taken c.args.body.now; room = omega arith }

pub returns-in_err-parameter-clause-none : goal.returns-in_err-parameter-clause-none
returns-in_err-parameter-clause-none c =
    always_none c.from_residual.result (λ ps are allowed. not_formed c.args.body.now c.parameters.rest.now _ _ _ c.parameters.invariant.taken (λ e. false≢true (c.parameters-test.ensures.1 e)) c.in_err-parameter.ensures.none ps are)

pub returns-then-is_reserved-clause-none : goal.returns-then-is_reserved-clause-none
returns-then-is_reserved-clause-none c =
    let p = sent c.in_ok-parameter.parameter in
    let found = c.in_ok-parameter.ensures.found in
    not_allowed c.args.body.now c.parameters.rest.now _ _ _ p c.in_ok-parameter.after.now c.parameters.invariant.taken found.0 found.1 (sym c.if-is_reserved.ensures)

pub bounds-names-count : goal.bounds-names-count
bounds-names-count c =
    let found = c.in_ok-parameter.ensures.found in
    omega (arith, room_for_more (length c.args.names.now) c.parameters.count c.args.body.now c.parameters.rest.now _ _ c.parameters.names (sent c.in_ok-parameter.parameter) c.in_ok-parameter.after.now c.requires c.parameters.invariant.room c.parameters.invariant.taken found.0 found.1)

pub parameters-preserved : goal.parameters-preserved
parameters-preserved c =
    let p = sent c.in_ok-parameter.parameter in
    let found = c.in_ok-parameter.ensures.found in
    let more = room_for_more (length c.args.names.now) c.parameters.count c.args.body.now c.parameters.rest.now _ _ c.parameters.names p c.in_ok-parameter.after.now c.requires c.parameters.invariant.room c.parameters.invariant.taken found.0 found.1 in
    let within : c.parameters.count < length c.parameters.names = omega (arith, more) in
    record {
      taken = rw (c.with-session.ensures.user, c.with-session.ensures.database) (take_more c.args.body.now c.parameters.rest.now c.parameters.session.user.now c.parameters.session.database.now (take c.parameters.count c.parameters.names) _ c.in_ok-parameter.parameter.name p c.in_ok-parameter.after.now c.parameters.invariant.taken found.0 found.1 (sym c.if-is_reserved.ensures) (take_more_set c.parameters.names c.parameters.count c.in_ok-parameter.parameter.name within) refl);
      room = omega (arith, within, length-set c.parameters.names c.parameters.count c.in_ok-parameter.parameter.name);
    }
