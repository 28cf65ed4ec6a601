use Rattle.std.proofs.Common.{Ok, Err, refl, append-nil, arith}
use Rattle.peer_forward.specs.Calls.{ReadCall}
use Rattle.session_io.proofs.stream.read_some.Goals as goal

pub returns-in-Ok-clause-some : goal.returns-in-Ok-clause-some
returns-in-Ok-clause-some g c some = (
  ReadCall c.read_once.new.buffer (Ok c.in-Ok.count),
  (_, c.in-Ok.ensures.call, refl),
  record { each = (some, tt); whole = append-nil _ },
)

pub returns-in-Ok-clause-none : goal.returns-in-Ok-clause-none
returns-in-Ok-clause-none g c none = (
  ReadCall c.read_once.new.buffer (Ok c.in-Ok.count),
  (_, c.in-Ok.ensures.call, refl),
  (none, omega (arith, c.requires, c.read_once.auto.buffer)),
)

pub returns-in-Err-clause-none : goal.returns-in-Err-clause-none
returns-in-Err-clause-none g c none =
    (ReadCall c.read_once.new.buffer (Err c.in-Err.field-0), (_, c.in-Err.ensures.call, refl), tt)
