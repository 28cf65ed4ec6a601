use Rattle.std.proofs.Common.{subst}
use Rattle.world.specs.Facts.{AreInRange}
use Rattle.world.specs.contracts.state.State.{the_view}
use Rattle.world.proofs.FirstStarts.{new_facts}
use Rattle.world.proofs.state.State.new.Goals as goal

pub returns-clause-facts : goal.returns-clause-facts
returns-clause-facts c =
    new_facts (the_view record {
      alloc = c.args.alloc;
      group = c.args.group;
      nodes = c.in_ok-nodes.nodes;
      starts = c.in_ok-starts.starts;
      issues = c.new-2.result;
      sessions = c.new-3.result;
      backends = c.new-4.result;
      flights = c.new-5.result;
      arrivals = c.new-6.result;
      connections = c.new-7.result;
      forwards = c.new-8.result;
      interrupts = c.new-9.result;
      taken = c.new-10.result;
    }) c.nodes.ensures.group (subst AreInRange c.nodes.ensures.nodes c.in_range.ensures) c.in_ok-nodes.ensures
    c.in_ok-starts.ensures c.new-2.ensures c.new-3.ensures c.new-4.ensures c.new-5.ensures.items c.new-6.ensures.items
    c.new-7.ensures c.new-8.ensures c.new-9.ensures.items c.new-10.ensures.items
