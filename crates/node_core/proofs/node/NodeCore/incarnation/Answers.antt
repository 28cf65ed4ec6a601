use Rattle.link_pool.proofs.Whole.{within_sizes}
use Rattle.node_core.specs.ViewOf.{node_of}
use Rattle.node_core.proofs.node.NodeCore.incarnation.Goals as goal

pub returns-clause-whole : goal.returns-clause-whole
returns-clause-whole g c =
    let node = (node_of c.self.inside).view in
    rw (← c.self.view_is) record {
      node = c.self.invariant;
      places = c.incarnation.ensures.whole;
      within = within_sizes node.links node.pools c.self.invariant.sized;
    }
