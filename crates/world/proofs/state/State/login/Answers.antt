use Rattle.std.proofs.Common.{◌≡◌, List, Some, refl, subst, ◌∙◌}
use Rattle.std.specs.List.{slice_get}
use Rattle.world.specs.World.{Issue}
use Rattle.world.proofs.Issuing.{new_identity}
use Rattle.world.proofs.state.State.login.Goals as goal

pub push-requires-clause-new : goal.push-requires-clause-new
push-requires-clause-new c = λ place other at same.
    let f = rw (← c.self.view_is) at c.requires in
    let may = rw (← c.self.view_is) at (c.if-not-may_log_in.ensures.may.0 refl) in
    let whole = rw (← c.self.view_is) at (c.if-not-may_log_in.ensures.whole refl) in
    let there = subst (λ (is : List Issue). slice_get is place ≡ Some other) c.in_ok-reserve-2.ensures.rows at in
    new_identity _ f whole c.args.node c.args.label c.args.database c.args.secret c.args.kind c.in-Ok.pass c.join.new.self
    c.may_log_in.ensures.range may c.in-Ok.ensures place other there (same ∙ c.identity.ensures)
