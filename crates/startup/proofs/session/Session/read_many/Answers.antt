use Rattle.std.proofs.Common.{arith}
use Rattle.startup.proofs.RoomLemmas.{at_most_by_length}
use Rattle.startup.proofs.session.Session.read_many.Goals as goal

pub read_by-requires : goal.read_by-requires
read_by-requires c = at_most_by_length 3330 c.args.body.now (omega (arith, c.requires))
