use Rattle.link_pool.specs.Said.{up_said}
use Rattle.link_pool.specs.declared.replies.UpReply.TheVariants as up
use Rattle.node_core.specs.declared.exchange.Exchange.TheVariants as call
use Rattle.answer.proofs.CallLemmas.{step_by}
use Rattle.answer.proofs.steps.up.Goals as goal

pub returns : goal.returns
returns g c = step_by c.lease_in.result (λ reply. call.Up c.args.permit c.args.key reply)
    (up_said c.up.result) (λ x. up.Up x.details) c.args.caller.now c.up.new.caller
    (c.up.ensures.counted.made c.requires.allowance) (c.lease_in.ensures c.args.permit c.args.key)
