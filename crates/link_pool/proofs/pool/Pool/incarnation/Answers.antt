use Rattle.std.proofs.Common.{subst}
use Rattle.link_pool.specs.Streams.{AreStored}
use Rattle.link_pool.proofs.Entries.{are_stored}
use Rattle.link_pool.proofs.pool.Pool.incarnation.Goals as goal

pub returns-clause-streams : goal.returns-clause-streams
returns-clause-streams g c = subst AreStored c.self.view_is (λ at. are_stored c.self.inside.pools.items at)
