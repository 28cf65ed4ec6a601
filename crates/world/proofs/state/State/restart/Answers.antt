use Rattle.std.proofs.Common.{List, refl, subst, ◌∙◌, ap}
use Rattle.link_pool.specs.declared.replies.RestartReply.{RestartReply}
use Rattle.world.specs.World.{World, Start, HadBoot}
use Rattle.world.specs.Changes.{and_then}
use Rattle.world.specs.Admissible.{Admissible}
use Rattle.world.specs.declared.event.Event.{Event}
use Rattle.world.specs.contracts.state.State.{the_view}
use Rattle.world.proofs.Restarting.{next_boot}
use Rattle.world.proofs.Stepping.{on_err}
use Rattle.world.proofs.state.State.restart.Goals as goal

pub push-requires-clause-new : goal.push-requires-clause-new
push-requires-clause-new c = λ had.
    next_boot c.self.inside.starts.rows c.args.node c.args.asked c.in-Some-next.boot c.in-Some-next.ensures.next
    (subst (λ (ss : List Start). HadBoot ss c.args.node c.in-Some-next.boot) c.in_ok-reserve.ensures.rows had)

pub returns-in-Restarted-clause-step : goal.returns-in-Restarted-clause-step
returns-in-Restarted-clause-step c =
    let there = c.in-Some.ensures.found in
    let rows = c.push.ensures ∙ ap (λ (ss : List Start). and_then ss (record { node = c.args.node; boot = c.in-Some-next.boot })) c.in_ok-reserve.ensures.rows in
    rw (← c.self.view_is) (
      ((there.0, c.in-Some.field-0.now.view, there.1), (c.in-Some-next.boot, c.in-Some-next.ensures.next)),
      record {
        boot = c.in-Some-next.boot;
        next = c.in-Some-next.ensures.next;
        given = RestartReply.Restarted;
        nodes = c.restart.new.self;
        step = c.in-Restarted.ensures;
        after = (
          refl,
          ap (λ (ss : List Start). let w : World = the_view c.self.inside in
              let x : World = record w { nodes = c.restart.new.self; starts = ss } in x) rows,
        );
      },
    )

pub returns-in-Exhausted-clause-step : goal.returns-in-Exhausted-clause-step
returns-in-Exhausted-clause-step c =
    let there = c.in-Some.ensures.found in
    rw (← c.self.view_is) (
      ((there.0, c.in-Some.field-0.now.view, there.1), (c.in-Some-next.boot, c.in-Some-next.ensures.next)),
      record {
        boot = c.in-Some-next.boot;
        next = c.in-Some-next.ensures.next;
        given = RestartReply.Exhausted;
        nodes = c.restart.new.self;
        step = c.in-Exhausted.ensures;
        after = (
          refl,
          ap (λ (ss : List Start). let w : World = the_view c.self.inside in
              let x : World = record w { nodes = c.restart.new.self; starts = ss } in x) c.in_ok-reserve.ensures.rows,
        );
      },
    )

pub returns-in_err-reserve-clause-may : goal.returns-in_err-reserve-clause-may
returns-in_err-reserve-clause-may c =
    let there = c.in-Some.ensures.found in
    let may : Admissible c.args.self.now (Event.Restart c.args.node c.args.asked) =
    rw (← c.self.view_is) ((there.0, c.in-Some.field-0.now.view, there.1), (c.in-Some-next.boot, c.in-Some-next.ensures.next)) in
    on_err c.from_residual.result may
