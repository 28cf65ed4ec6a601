use Rattle.std.proofs.Common.{ap}
use Rattle.world.proofs.Tables.{answer_there, answer_only}
use Rattle.world.proofs.index.Index.find.Goals as goal

pub returns-clause-found : goal.returns-clause-found
returns-clause-found g c = answer_there _ g.met.K.Eq.laws g.met.K.Key.exact _ _ _ _
    c.get_index_of.ensures.index (ap (λ v. v.keys) c.self.view_is)

pub returns-clause-only : goal.returns-clause-only
returns-clause-only g c = answer_only _ g.met.K.Eq.laws g.met.K.Key.exact _ _ _ _ c.self.invariant
    c.get_index_of.ensures.index (ap (λ v. v.keys) c.self.view_is)
