-- The links in the fields that hold them (internal).
use Rattle.std.specs.Prelude.{map}
use Rattle.link_pool.specs.Streams.{PoolValue}
use Rattle.link_pool.specs.Entries.{pool_in, streams_in}
use Rattle.link_pool.specs.declared.pool.Pool.TheInside.{Inside}

-- the view and the streams of the fields
abbrev pub pool_of : {S : Type 0} → Inside S → PoolValue S
pool_of p = record {
  view = record {
    peer = p.peer;
    incarnation = p.incarnation;
    pools = map pool_in p.pools.items;
    queues = p.queues.queues;
    claims = p.claims.items;
    next_link = p.next_link;
    next_permit = p.next_permit;
    next_ticket = p.next_ticket;
  };
  stored = map streams_in p.pools.items;
}
