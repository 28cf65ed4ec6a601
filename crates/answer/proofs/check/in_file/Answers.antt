use Rattle.std.proofs.Common.{inr, refl}
use Rattle.answer.proofs.check.in_file.Goals as goal

pub returns-in-Ok : goal.returns-in-Ok
returns-in-Ok c = inr (c.in-Ok.file, c.in-Ok.ensures.ok, refl)
