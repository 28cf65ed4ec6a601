use Rattle.std.proofs.Common.{ℕ, List, drop, sym, subst}
use Rattle.tracked_links.specs.Heard.{HearsStatus}
use Rattle.tracked_links.proofs.StatusLemmas.{kept_cut}
use Rattle.tracked_links.proofs.heard_status.hear_status.Goals as goal

pub returns-else-body-most-clause-hears : goal.returns-else-body-most-clause-hears
returns-else-body-most-clause-hears c =
    λ whole is. subst (λ (xs : List ℕ). HearsStatus c.args.names.now xs c.args.server.now c.hear_cut.new.server) (sym (kept_cut c.args.body.now whole c.args.most is))
    (c.hear_cut.ensures.hears (drop c.args.most whole))
