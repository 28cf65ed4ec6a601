-- The streams of idle and quarantined links (own): at which place each lies, and what each step
-- does with them.
use Rattle.std.specs.Prelude.{ℕ, ◌≡◌, ◌≢◌, Bool, true, false, List, Option, None, Some, is_some, slice_get}
use Rattle.lease.specs.LinkValue.{LinkValue}
use Rattle.lease.specs.declared.link_place.LinkPlace.{LinkPlace}
use Rattle.lease.specs.declared.permit.PermitRecord.{PermitRecord}
use Rattle.link_pool.specs.declared.place.Place.{Place}
use Rattle.link_pool.specs.declared.place.Place.TheVariants as place
use Rattle.link_pool.specs.declared.place.LinkState.{LinkState}
use Rattle.link_pool.specs.declared.place.LinkState.TheVariants as state
use Rattle.link_pool.specs.declared.replies.AcquireReply.{AcquireReply}
use Rattle.link_pool.specs.declared.replies.AcquireReply.TheVariants as acquire
use Rattle.link_pool.specs.declared.replies.UpReply.{UpReply}
use Rattle.link_pool.specs.declared.replies.UpReply.TheVariants as up
use Rattle.link_pool.specs.declared.replies.ReleaseReply.{ReleaseReply}
use Rattle.link_pool.specs.declared.replies.ReleaseReply.TheVariants as release
use Rattle.link_pool.specs.declared.replies.CloseReply.{CloseReply}
use Rattle.link_pool.specs.declared.replies.CloseReply.TheVariants as close
use Rattle.link_pool.specs.declared.replies.FailedReply.{FailedReply}
use Rattle.link_pool.specs.declared.replies.FailedReply.TheVariants as failed
use Rattle.link_pool.specs.declared.replies.RestartReply.{RestartReply}
use Rattle.link_pool.specs.declared.replies.RestartReply.TheVariants as restart
use Rattle.link_pool.specs.Pool.{PoolView, place_at}

-- A node's pools with their streams: the view, and by database and place the stream of the link
-- that is idle or quarantined there.
pub record PoolValue (S : Type 0) : Type 0 where
  pub view : PoolView
  pub stored : List (List (Option S))

-- the stream that lies at a place, if one does
abbrev pub stream_there : {S : Type 0} → Option (Option S) → Option S
stream_there None = None
stream_there (Some stream) = stream

abbrev pub stored_in : {S : Type 0} → Option (List (Option S)) → ℕ → Option S
stored_in None index = None
stored_in (Some streams) index = stream_there (slice_get streams index)

abbrev pub stored_at : {S : Type 0} → List (List (Option S)) → LinkPlace → Option S
stored_at stored at = stored_in (slice_get stored at.database) at.index

-- nothing lies anywhere
abbrev pub NothingStored : {S : Type 0} → List (List (Option S)) → Type 0
NothingStored stored = (at : LinkPlace) → stored_at stored at ≡ None

-- what lies at one place changes, and nowhere else
pub record Moves {S : Type 0} (at : LinkPlace) (was is : Option S)
    (old new : List (List (Option S))) : Type 0 where
  pub before : stored_at old at ≡ was
  pub after : stored_at new at ≡ is
  pub elsewhere : (other : LinkPlace) → other ≢ at → stored_at new other ≡ stored_at old other

-- the stream that lay at a place is taken away
abbrev pub Takes : {S : Type 0} → LinkPlace → S → List (List (Option S)) → List (List (Option S))
    → Type 0
Takes at stream old new = Moves at (Some stream) None old new

-- a stream is stored at a place where none lay
abbrev pub Puts : {S : Type 0} → LinkPlace → S → List (List (Option S)) → List (List (Option S))
    → Type 0
Puts at stream old new = Moves at None (Some stream) old new

-- whether the link's stream is with the pool
abbrev pub has_stream_in : LinkState → Bool
has_stream_in state.Idle = true
has_stream_in (state.Held slot) = false
has_stream_in (state.Quarantined giver) = true

-- whether the place has the stream of its link
abbrev pub has_stream : Option Place → Bool
has_stream None = false
has_stream (Some place.Free) = false
has_stream (Some (place.Open permit slot)) = false
has_stream (Some (place.Link link)) = has_stream_in link.state

-- a stream lies exactly where a link is idle or quarantined
abbrev pub AreStored : {S : Type 0} → PoolValue S → Type 0
AreStored pool = (at : LinkPlace) → is_some (stored_at pool.stored at)
    ≡ has_stream (place_at pool.view at)

-- asking for a link: the client gets the stream that lies at the link's place
abbrev pub AcquireStreams : {S : Type 0} → AcquireReply (LinkValue S) PermitRecord
    → List (List (Option S)) → List (List (Option S)) → Type 0
AcquireStreams (acquire.Got lease) old new = Takes lease.details.at lease.stream old new
AcquireStreams (acquire.Open permit) old new = new ≡ old
AcquireStreams acquire.Waiting old new = new ≡ old
AcquireStreams acquire.Cancelled old new = new ≡ old
AcquireStreams acquire.Holding old new = new ≡ old
AcquireStreams acquire.Exhausted old new = new ≡ old
AcquireStreams acquire.Stale old new = new ≡ old

-- a link is open: the stream that was handed in is the lease's, or is handed back
abbrev pub UpStreams : {S : Type 0} → S → UpReply (LinkValue S) PermitRecord S
    → List (List (Option S)) → List (List (Option S)) → Type 0
UpStreams own (up.Up lease) old new = (lease.stream ≡ own) × (new ≡ old)
UpStreams own (up.Exhausted permit stream) old new = (stream ≡ own) × (new ≡ old)
UpStreams own (up.Stale stream) old new = (stream ≡ own) × (new ≡ old)
UpStreams own (up.AtEnd stream) old new = (stream ≡ own) × (new ≡ old)

-- a link is given back: the lease's stream is stored at the link's place, or is handed back
abbrev pub ReleaseStreams : {S : Type 0} → LinkValue S → ReleaseReply S → List (List (Option S))
    → List (List (Option S)) → Type 0
ReleaseStreams lease release.Idle old new = Puts lease.details.at lease.stream old new
ReleaseStreams lease release.Quarantined old new = Puts lease.details.at lease.stream old new
ReleaseStreams lease (release.Closed stream) old new = (stream ≡ lease.stream) × (new ≡ old)
ReleaseStreams lease (release.Stale stream) old new = (stream ≡ lease.stream) × (new ≡ old)
ReleaseStreams lease (release.Exhausted stream) old new = (stream ≡ lease.stream) × (new ≡ old)

-- a link is closed: the lease's stream is handed back
abbrev pub CloseStreams : {S : Type 0} → LinkValue S → CloseReply S → List (List (Option S))
    → List (List (Option S)) → Type 0
CloseStreams lease (close.Closed stream) old new = (stream ≡ lease.stream) × (new ≡ old)
CloseStreams lease (close.Stale stream) old new = (stream ≡ lease.stream) × (new ≡ old)
CloseStreams lease (close.Exhausted stream) old new = (stream ≡ lease.stream) × (new ≡ old)

-- a cancel request hasn't ended cleanly: the stream of a quarantined link is handed back
abbrev pub FailedStreams : {S : Type 0} → LinkPlace → FailedReply S → List (List (Option S))
    → List (List (Option S)) → Type 0
FailedStreams at failed.Condemned old new = new ≡ old
FailedStreams at (failed.Closed stream) old new = Takes at stream old new
FailedStreams at failed.Stale old new = new ≡ old
FailedStreams at failed.Exhausted old new = new ≡ old

-- a new start: what lay in the pools is dropped
abbrev pub RestartStreams : {S : Type 0} → RestartReply → List (List (Option S))
    → List (List (Option S)) → Type 0
RestartStreams restart.Restarted old new = NothingStored new
RestartStreams restart.Exhausted old new = new ≡ old
