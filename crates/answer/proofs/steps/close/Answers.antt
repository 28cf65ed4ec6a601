use Rattle.link_pool.specs.Said.{close_said}
use Rattle.link_pool.specs.declared.replies.CloseReply.TheVariants as closing
use Rattle.node_core.specs.declared.exchange.Exchange.TheVariants as call
use Rattle.answer.proofs.CallLemmas.{step_by}
use Rattle.answer.proofs.steps.close.Goals as goal

pub returns : goal.returns
returns g c = step_by c.closed_in.result (λ reply. call.Close c.args.lease.details reply)
    (close_said c.close.result) (λ x. closing.Closed tt) c.args.caller.now c.close.new.caller
    (c.close.ensures.counted.made c.requires.allowance) (c.closed_in.ensures c.args.lease.details)
