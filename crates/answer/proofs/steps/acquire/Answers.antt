use Rattle.link_pool.specs.Said.{acquire_said}
use Rattle.link_pool.specs.declared.replies.AcquireReply.TheVariants as acquire
use Rattle.node_core.specs.declared.exchange.Exchange.TheVariants as call
use Rattle.answer.proofs.CallLemmas.{step_by}
use Rattle.answer.proofs.steps.acquire.Goals as goal

pub returns : goal.returns
returns g c = step_by c.permit_in.result (λ reply. call.Acquire c.args.pass.now reply)
    (acquire_said c.acquire.result) (λ x. acquire.Open x) c.args.caller.now c.acquire.new.caller
    (c.acquire.ensures.counted.made c.requires.allowance) (c.permit_in.ensures c.args.pass.now)
