-- Replies to a client that gets neither a link nor a permit (internal).
use Rattle.lease.specs.declared.link_record.LinkRecord.{LinkRecord}
use Rattle.lease.specs.declared.permit.PermitRecord.{PermitRecord}
use Rattle.link_pool.specs.declared.replies.AcquireReply.{AcquireReply}
use Rattle.link_pool.specs.declared.replies.AcquireReply.TheVariants as acquire
use Rattle.locked_node.specs.declared.steps.clients.Without.{Without}
use Rattle.locked_node.specs.declared.steps.clients.Without.TheVariants as without

-- such a reply, as the node returns it
abbrev pub without_said : Without → AcquireReply LinkRecord PermitRecord
without_said without.Waiting = acquire.Waiting
without_said without.Cancelled = acquire.Cancelled
without_said without.Holding = acquire.Holding
without_said without.Stale = acquire.Stale
without_said without.Exhausted = acquire.Exhausted
