use Rattle.link_state.proofs.ValueLemmas.{cut_zero, no_zero}
use Rattle.link_state.proofs.value.before_zero.Goals as goal

pub returns-in-Some : goal.returns-in-Some
returns-in-Some c = cut_zero c.args.bytes.now c.zero_at.result c.in-Some.end c.zero_at.ensures.place c.in-Some.is

pub returns-in-None : goal.returns-in-None
returns-in-None c = no_zero c.args.bytes.now c.zero_at.result c.zero_at.ensures.place c.in-None.is
