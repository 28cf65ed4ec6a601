use Rattle.tracked_links.proofs.StatusLemmas.{before_some, before_none}
use Rattle.tracked_links.proofs.heard_status.before_zero.Goals as goal

pub returns-in-Some : goal.returns-in-Some
returns-in-Some c = before_some c.args.bytes.now c.zero_at.result c.in-Some.end c.zero_at.ensures.place c.in-Some.is

pub returns-in-None : goal.returns-in-None
returns-in-None c = before_none c.args.bytes.now c.zero_at.result c.zero_at.ensures.place c.in-None.is
