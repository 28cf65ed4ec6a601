use Rattle.answer.specs.Decision.{leave_reply}
use Rattle.node_core.specs.declared.exchange.Exchange.TheVariants as call
use Rattle.answer.proofs.CallLemmas.{step_by}
use Rattle.answer.proofs.steps.leave.Goals as goal

pub returns : goal.returns
returns g c = step_by c.left_in.result (λ reply. call.Leave c.args.pass reply) c.leave.result
    (λ x. leave_reply x) c.args.caller.now c.leave.new.caller
    (c.leave.ensures.counted.made c.requires.allowance) (c.left_in.ensures c.args.pass)
