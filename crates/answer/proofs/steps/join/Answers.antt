use Rattle.std.proofs.Common.{Ok}
use Rattle.pg_ids.specs.declared.any_key.Kind.TheVariants as kind
use Rattle.node_core.specs.declared.exchange.Exchange.TheVariants as call
use Rattle.answer.proofs.CallLemmas.{step_by}
use Rattle.answer.proofs.steps.join.Goals as goal

pub returns : goal.returns
returns g c =
    step_by c.pass_in.result (λ reply. call.Join 0 c.args.secret kind.Short reply) c.join.result
    (λ x. Ok x) c.args.caller.now c.join.new.caller
    (c.join.ensures.counted.made c.requires.allowance)
    (c.pass_in.ensures 0 c.args.secret kind.Short)
