use Rattle.std.proofs.Common.{Some, ap}
use Rattle.link_pool.proofs.entry.Entry.settle.Goals as goal

pub settle_quarantined-requires : goal.settle_quarantined-requires
settle_quarantined-requires g c = record {
  link = c.in-Quarantined.link;
  key = c.in-Quarantined.key;
  hold = c.in-Quarantined.hold;
  giver = c.in-Quarantined.giver;
  is = ap Some c.in-Quarantined.is;
}
