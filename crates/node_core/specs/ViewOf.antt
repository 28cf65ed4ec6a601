-- The state and the streams in the fields that hold them (internal).
use Rattle.node_core.specs.View.{NodeValue}
use Rattle.node_core.specs.declared.node.NodeCore.TheInside.{Inside}

-- what the fields say
abbrev pub node_of : {S : Type 0} → Inside S → NodeValue S
node_of v = record {
  view = record {
    me = v.me;
    peers = v.peers.items;
    pools = v.pools.items;
    keys = v.keys;
    clients = v.clients.items;
    next_pass = v.next_pass;
    boot = v.boot;
    next_serial = v.next_serial;
    links = v.links.view;
  };
  stored = v.links.stored;
}
