use Rattle.std.proofs.Common.{sym, subst}
use Rattle.world.specs.declared.event.Event.{Event}
use Rattle.world.specs.declared.reply.Took.{Took}
use Rattle.world.specs.WorldRun.{WorldStep}
use Rattle.world.proofs.Unnamed.{skips_deliver, skips_accept, skips_restart}
use Rattle.world.proofs.state.State.apply.Goals as goal

pub returns-in-None-peer-clause-step : goal.returns-in-None-peer-clause-step
returns-in-None-peer-clause-step c =
    subst (λ (e : Event). WorldStep e Took.Skipped c.args.self.now c.args.self.now) (sym c.in-Deliver.is)
    (skips_deliver c.args.self.now c.requires _ _ c.in-None-peer.ensures.none)

pub returns-in-None-peer-2-clause-step : goal.returns-in-None-peer-2-clause-step
returns-in-None-peer-2-clause-step c =
    subst (λ (e : Event). WorldStep e Took.Skipped c.args.self.now c.args.self.now) (sym c.in-Accept.is)
    (skips_accept c.args.self.now c.requires _ _ c.in-None-peer-2.ensures.none)

pub returns-in-None-peer-3-clause-step : goal.returns-in-None-peer-3-clause-step
returns-in-None-peer-3-clause-step c =
    subst (λ (e : Event). WorldStep e Took.Skipped c.args.self.now c.args.self.now) (sym c.in-Restart.is)
    (skips_restart c.args.self.now c.requires _ _ c.in-None-peer-3.ensures.none)
