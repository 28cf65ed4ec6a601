use Rattle.std.proofs.Common.{◌∙◌, sym, ap}
use Rattle.link_state.specs.declared.watched.Watched.{Watched}
use Rattle.link_state.specs.Watched.{seen, judged}
use Rattle.link_state.proofs.WatchLemmas.{judged_next}
use Rattle.link_state.proofs.watched_list.judge_all.Goals as goal

pub loop-one-preserved : goal.loop-one-preserved
loop-one-preserved c =
    judged_next c.args.body.now c.loop-one.all c.args.all.now c.loop-one.one-index c.judge.new.self c.one-item.result c.loop-one.invariant c.loop-one-test.true
    (c.judge.ensures ∙ ap (λ (one : Watched). judged c.args.body.now (seen one)) (sym c.one-item.is))
    c.one-item.is
