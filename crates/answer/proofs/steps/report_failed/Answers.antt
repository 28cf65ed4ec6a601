use Rattle.link_pool.specs.Said.{failed_said}
use Rattle.link_pool.specs.declared.replies.FailedReply.TheVariants as failing
use Rattle.node_core.specs.declared.exchange.Exchange.TheVariants as call
use Rattle.answer.proofs.CallLemmas.{step_by}
use Rattle.answer.proofs.steps.report_failed.Goals as goal

pub returns : goal.returns
returns g c = step_by c.condemned_in.result (λ reply. call.Failed c.args.ticket reply)
    (failed_said c.failed.result) (λ x. failing.Condemned) c.args.caller.now c.failed.new.caller
    (c.failed.ensures.counted.made c.requires.allowance) (c.condemned_in.ensures c.args.ticket)
