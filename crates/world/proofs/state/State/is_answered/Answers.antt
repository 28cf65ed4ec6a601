use Rattle.std.proofs.Common.{sym, subst, ◌∙◌, ⊎_elim, refl}
use Rattle.std.proofs.lemmas.Option.{none-some}
use Rattle.std.proofs.lemmas.Bool.{false≢true}
use Rattle.world.specs.Settled.{IsNowhere}
use Rattle.world.proofs.Answering.{answered_came, carried, was_carried, passed_on, was_passed_on, went_nowhere}
use Rattle.world.proofs.state.State.is_answered.Goals as goal

pub returns-in_default : goal.returns-in_default
returns-in_default c = (
  λ yes. absurd (false≢true yes),
  λ answered.
      let came = answered_came c.args.self.now c.requires c.args.arrival answered in
      absurd (none-some came.0 (c.in_default.ensures ∙ came.1)),
)

pub returns-in-Serve : goal.returns-in-Serve
returns-in-Serve c = (
  λ yes. was_carried c.args.self.now c.args.arrival (c.is_carried.ensures.0 yes),
  λ answered. c.is_carried.ensures.1 (carried c.args.self.now c.requires c.args.arrival c.in-Some.came
      c.in-Serve.field-0 c.in-Serve.field-1 c.in-Serve.field-2 (sym c.in-Some.ensures) c.in-Serve.is answered),
)

pub returns-in-Forward : goal.returns-in-Forward
returns-in-Forward c = (
  λ yes. was_passed_on c.args.self.now c.args.arrival (c.is_passed_on.ensures.0 yes),
  λ answered. c.is_passed_on.ensures.1 (passed_on c.args.self.now c.requires c.args.arrival c.in-Some.came
      c.in-Forward.field-0 c.in-Forward.field-1 (sym c.in-Some.ensures) c.in-Forward.is answered),
)

pub returns-in-Unwait : goal.returns-in-Unwait
returns-in-Unwait c = (
  λ yes. went_nowhere c.args.self.now c.args.arrival c.in-Some.came (sym c.in-Some.ensures)
      (⊎_elim (λ waits. subst IsNowhere (sym waits.1) tt) (λ refused. subst IsNowhere (sym refused.1) tt) c.in-Unwait.is),
  λ answered. refl,
)

pub returns-in-Unwait-2 : goal.returns-in-Unwait-2
returns-in-Unwait-2 c = (
  λ yes. went_nowhere c.args.self.now c.args.arrival c.in-Some.came (sym c.in-Some.ensures)
      (⊎_elim (λ waits. subst IsNowhere (sym waits.1) tt) (λ refused. subst IsNowhere (sym refused.1) tt) c.in-Unwait.is),
  λ answered. refl,
)
