-- A lease after a `&mut` to its stream has ended: the same record, and the stream that was last
-- written through the reference.
use Rattle.std.specs.Borrow.{Lends, Fml, RattleType, MutBor}
use Rattle.lease.specs.LinkValue.{LinkValue}
use Rattle.lease.specs.contracts.link.Link.{the_row}
use Rattle.lease.specs.contracts.link.Held.{the_row as held_row}

module _ (S : RattleType) (lease : MutBor (LinkValue S.Denot)) where
  -- the lease says what it said, and its stream is the last one written through r
  abbrev pub lends_stream : MutBor S.Denot → Fml
  lends_stream r = Lends (the_row S held_row) S lease r
      (λ stream. record { details = lease.now.details; stream = stream })
