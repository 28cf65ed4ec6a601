use Rattle.std.proofs.Common.{inr, refl}
use Rattle.answer.proofs.check_all.group_fault.Goals as goal

pub returns-in-Ok-clause-told : goal.returns-in-Ok-clause-told
returns-in-Ok-clause-told c = inr (c.in-Ok.text, c.in-Ok.ensures, refl)
