use Rattle.std.proofs.Common.{inr, refl}
use Rattle.answer.proofs.file_text.unread.Goals as goal

pub returns-in-Ok-from_str : goal.returns-in-Ok-from_str
returns-in-Ok-from_str c = inr (
  c.in-Ok-from_str.file,
  c.in-Ok.reason,
  c.in-Ok-from_str.ensures.ok,
  refl,
)
