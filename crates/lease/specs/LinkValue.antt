-- An idle, held or quarantined link as contracts see it: its record and its stream (own).
use Rattle.lease.specs.declared.link_record.LinkRecord.{LinkRecord}

-- what the link says, and its stream
pub record LinkValue (S : Type 0) : Type 0 where
  pub details : LinkRecord
  pub stream : S
