use Rattle.std.proofs.Common.{ap}
use Rattle.world.proofs.Tables.{no_member, added_last}
use Rattle.world.proofs.index.Index.push.Goals as goal

pub returns : goal.returns
returns g c = added_last g.K.PartialEq.eq _ _ _ _
    (no_member _ g.met.K.Eq.laws g.met.K.Key.exact c.args.self.now.keys c.args.key c.requires.new)
    (ap (λ v. v.keys) c.self.view_is) c.in-Ok.ensures.keys
