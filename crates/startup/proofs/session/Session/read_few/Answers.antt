use Rattle.startup.proofs.RoomLemmas.{at_most_by_zeros}
use Rattle.startup.proofs.session.Session.read_few.Goals as goal

pub read_by-requires : goal.read_by-requires
read_by-requires c = at_most_by_zeros 24 c.args.body.now c.requires
