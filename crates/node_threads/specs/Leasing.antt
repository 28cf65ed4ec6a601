-- What a client that has asked for a link has in hand, and by which answer of the node (own).
use Rattle.std.specs.Prelude.{ℕ, ◌≡◌, ◌⊎◌, List, Option, Some, None}
use Rattle.lease.specs.LinkValue.{LinkValue}
use Rattle.lease.specs.declared.link_record.LinkRecord.{LinkRecord}
use Rattle.lease.specs.declared.pass.PassRecord.{PassRecord}
use Rattle.lease.specs.declared.permit.PermitRecord.{PermitRecord}
use Rattle.link_pool.specs.declared.replies.AcquireReply.{AcquireReply}
use Rattle.link_pool.specs.declared.replies.AcquireReply.TheVariants as acquire
use Rattle.link_pool.specs.declared.replies.UpReply.{UpReply}
use Rattle.link_pool.specs.declared.replies.UpReply.TheVariants as up
use Rattle.link_pool.specs.declared.replies.UpFailedReply.{UpFailedReply}
use Rattle.link_pool.specs.declared.replies.UpFailedReply.TheVariants as failing
use Rattle.node_core.specs.declared.exchange.Exchange.TheVariants as step
use Rattle.locked_node.specs.Lock.{CallerView, Counted}
use Rattle.startup.specs.declared.error_code.ErrorCode.{ErrorCode}
use Rattle.startup.specs.declared.error_code.ErrorCode.TheVariants.{TooManyConnections, ConnectionFailure, AdminShutdown}
use Rattle.node_threads.specs.Balance.{Hand, Balanced, nothing, a_lease}
use Rattle.node_threads.specs.Meaning.{Logins}
use Rattle.node_threads.specs.declared.session.leases.Acquired.{Acquired}
use Rattle.node_threads.specs.declared.session.leases.Acquired.TheVariants.{Lease, Cancelled, Refused, Ended}

-- a lease, where the client got a link
abbrev pub hand_of : {L : Type 0} → Acquired L → Hand
hand_of (Lease lease) = a_lease
hand_of Cancelled = nothing
hand_of (Refused code) = nothing
hand_of Ended = nothing

-- the same, or nothing where the client is to ask again
abbrev pub hand_of_answer : {L : Type 0} → Option (Acquired L) → Hand
hand_of_answer None = nothing
hand_of_answer (Some acquired) = hand_of acquired

-- where the client got a link, this holds of its lease
abbrev pub OfLease : {L : Type 0} → (L → Type 0) → Acquired L → Type 0
OfLease P (Lease lease) = P lease
OfLease P Cancelled = Unit {0}
OfLease P (Refused code) = Unit {0}
OfLease P Ended = Unit {0}

abbrev pub OfAnswer : {L : Type 0} → (L → Type 0) → Option (Acquired L) → Type 0
OfAnswer P None = Unit {0}
OfAnswer P (Some acquired) = OfLease P acquired

-- The caller's last step, which it made since then, asked for a link for the client of this pass,
-- and got this answer.
abbrev pub WasAnswered : PassRecord → AcquireReply LinkRecord PermitRecord → CallerView
    → CallerView → Type 0
WasAnswered pass reply old new = (before : CallerView) × Balanced old before
    × Counted (step.Acquire pass reply) reply acquire.Exhausted before new

-- It was reported to the node that the link of a permit is up, with the key of a login at its
-- database, and it gave this answer.
abbrev pub WentUp : Logins → PermitRecord → UpReply LinkRecord PermitRecord (Unit {0}) → CallerView
    → CallerView → Type 0
WentUp logins permit reply old new = (key : List ℕ) × logins permit.at.database key
    × Counted (step.Up permit key reply) reply (up.AtEnd tt) old new

-- it was reported to the node that the link of a permit couldn't be opened
abbrev pub HasFailed : PermitRecord → CallerView → CallerView → Type 0
HasFailed permit old new =
    (reply : UpFailedReply) × Counted (step.UpFailed permit reply) reply failing.Exhausted old new

-- By the last steps the client of this pass got this link: it was there, or it was opened for the
-- permit that the client got.
abbrev pub IsGiven : Logins → PassRecord → LinkRecord → CallerView → CallerView → Type 0
IsGiven logins pass link old new = WasAnswered pass (acquire.Got link) old new
    ⊎ ((permit : PermitRecord) × (asked : CallerView)
    × WasAnswered pass (acquire.Open permit) old asked × (link.at ≡ permit.at)
    × WentUp logins permit (up.Up link) asked new)

-- the error of a client whose pass is stale, or for whom the node has no number left
abbrev pub IsDenial : AcquireReply LinkRecord PermitRecord → ErrorCode → Type 0
IsDenial acquire.Stale code = code ≡ AdminShutdown
IsDenial acquire.Holding code = code ≡ TooManyConnections
IsDenial acquire.Exhausted code = code ≡ TooManyConnections
IsDenial (acquire.Got link) code = ⊥
IsDenial (acquire.Open permit) code = ⊥
IsDenial acquire.Waiting code = ⊥
IsDenial acquire.Cancelled code = ⊥

-- the same of a client whose permit is stale
abbrev pub IsUpDenial : UpReply LinkRecord PermitRecord (Unit {0}) → ErrorCode → Type 0
IsUpDenial (up.Stale stream) code = code ≡ AdminShutdown
IsUpDenial (up.AtEnd stream) code = code ≡ TooManyConnections
IsUpDenial (up.Exhausted permit stream) code = ⊥
IsUpDenial (up.Up link) code = ⊥

-- No link came of a permit, and this is the error because of that: the node has no use for the
-- permit; it has no number left for a link; or its server can't be reached.
abbrev pub IsUnopened : Logins → PermitRecord → ErrorCode → CallerView → CallerView → Type 0
IsUnopened logins permit code old new =
    ((reply : UpReply LinkRecord PermitRecord (Unit {0})) × IsUpDenial reply code
    × WentUp logins permit reply old new)
    ⊎ ((back : PermitRecord) × (between : CallerView)
    × WentUp logins permit (up.Exhausted back tt) old between × HasFailed back between new
    × (code ≡ TooManyConnections))
    ⊎ (HasFailed permit old new × (code ≡ ConnectionFailure))

-- by the last steps the client of this pass gets no link, and this is the error because of that
abbrev pub IsDenied : Logins → PassRecord → ErrorCode → CallerView → CallerView → Type 0
IsDenied logins pass code old new =
    ((reply : AcquireReply LinkRecord PermitRecord) × IsDenial reply code
    × WasAnswered pass reply old new)
    ⊎ ((permit : PermitRecord) × (asked : CallerView)
    × WasAnswered pass (acquire.Open permit) old asked × IsUnopened logins permit code asked new)

-- what came of a client's asking for a link is what the node answered last
abbrev pub IsAnswer : {L : Type 0} → Logins → PassRecord → Acquired (LinkValue L) → CallerView
    → CallerView → Type 0
IsAnswer logins pass (Lease lease) old new = IsGiven logins pass lease.details old new
IsAnswer logins pass Cancelled old new = WasAnswered pass acquire.Cancelled old new
IsAnswer logins pass (Refused code) old new = IsDenied logins pass code old new
IsAnswer logins pass Ended old new = Unit {0}

-- what came of a permit is what the node answered
abbrev pub IsOpened : {L : Type 0} → Logins → PermitRecord → Acquired (LinkValue L) → CallerView
    → CallerView → Type 0
IsOpened logins permit (Lease lease) old new =
    (lease.details.at ≡ permit.at) × WentUp logins permit (up.Up lease.details) old new
IsOpened logins permit Cancelled old new = ⊥
IsOpened logins permit (Refused code) old new = IsUnopened logins permit code old new
IsOpened logins permit Ended old new = Unit {0}

-- what came of a client's asking stays so, unless its session ends without a word
abbrev pub IsKept : {L : Type 0} → Acquired L → Acquired L → CallerView → CallerView → Type 0
IsKept opened result old new = ((result ≡ opened) × (new ≡ old)) ⊎ (result ≡ Ended)
