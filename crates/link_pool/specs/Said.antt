-- Replies without their streams, as a journal keeps them (own).
use Rattle.lease.specs.LinkValue.{LinkValue}
use Rattle.lease.specs.declared.link_record.LinkRecord.{LinkRecord}
use Rattle.lease.specs.declared.permit.PermitRecord.{PermitRecord}
use Rattle.link_pool.specs.declared.replies.AcquireReply.{AcquireReply}
use Rattle.link_pool.specs.declared.replies.AcquireReply.TheVariants as acquire
use Rattle.link_pool.specs.declared.replies.UpReply.{UpReply}
use Rattle.link_pool.specs.declared.replies.UpReply.TheVariants as up
use Rattle.link_pool.specs.declared.replies.ReleaseReply.{ReleaseReply}
use Rattle.link_pool.specs.declared.replies.ReleaseReply.TheVariants as release
use Rattle.link_pool.specs.declared.replies.CloseReply.{CloseReply}
use Rattle.link_pool.specs.declared.replies.CloseReply.TheVariants as close
use Rattle.link_pool.specs.declared.replies.FailedReply.{FailedReply}
use Rattle.link_pool.specs.declared.replies.FailedReply.TheVariants as failed

-- asking for a link
abbrev pub acquire_said : {S : Type 0}
    → AcquireReply (LinkValue S) PermitRecord → AcquireReply LinkRecord PermitRecord
acquire_said (acquire.Got lease) = acquire.Got lease.details
acquire_said (acquire.Open permit) = acquire.Open permit
acquire_said acquire.Waiting = acquire.Waiting
acquire_said acquire.Cancelled = acquire.Cancelled
acquire_said acquire.Holding = acquire.Holding
acquire_said acquire.Exhausted = acquire.Exhausted
acquire_said acquire.Stale = acquire.Stale

-- a link is open
abbrev pub up_said : {S : Type 0}
    → UpReply (LinkValue S) PermitRecord S → UpReply LinkRecord PermitRecord (Unit {0})
up_said (up.Up lease) = up.Up lease.details
up_said (up.Exhausted permit stream) = up.Exhausted permit tt
up_said (up.Stale stream) = up.Stale tt
up_said (up.AtEnd stream) = up.AtEnd tt

-- giving a link back
abbrev pub release_said : {S : Type 0} → ReleaseReply S → ReleaseReply (Unit {0})
release_said release.Idle = release.Idle
release_said release.Quarantined = release.Quarantined
release_said (release.Closed stream) = release.Closed tt
release_said (release.Stale stream) = release.Stale tt
release_said (release.Exhausted stream) = release.Exhausted tt

-- closing a link
abbrev pub close_said : {S : Type 0} → CloseReply S → CloseReply (Unit {0})
close_said (close.Closed stream) = close.Closed tt
close_said (close.Stale stream) = close.Stale tt
close_said (close.Exhausted stream) = close.Exhausted tt

-- a cancel request that didn't end cleanly
abbrev pub failed_said : {S : Type 0} → FailedReply S → FailedReply (Unit {0})
failed_said failed.Condemned = failed.Condemned
failed_said (failed.Closed stream) = failed.Closed tt
failed_said failed.Stale = failed.Stale
failed_said failed.Exhausted = failed.Exhausted
