-- What a client's session is served with, who it is, and how far it is (own). `Meaning`: what the
-- parts of a service mean. `Joining`: with what a client joins the node. `Member`: a client that has
-- joined. `Moment`: what is kept of its input, and the caller of its node.
use Rattle.std.specs.Prelude.{ℕ, ◌≡◌, List, Some, Ok, slice_get}
use Rattle.pg_ids.specs.declared.any_key.Kind.{Kind}
use Rattle.ini_config.specs.Node.{DatabaseSettings}
use Rattle.lease.specs.declared.pass.PassRecord.{PassRecord}
use Rattle.locked_node.specs.Lock.{CallerView}
use Rattle.startup.specs.Replies.{Report}
use Rattle.peer_forward.specs.Calls.{Effect}
use Rattle.peer_forward.specs.declared.calls.WriteCalls as WriteCalls
use Rattle.peer_forward.specs.declared.calls.ReadCalls as ReadCalls
use Rattle.session_io.specs.LoggingIn.{LogsIn}
use Rattle.session_io.specs.StreamCalls.{SomeCalls}
use Rattle.session_io.specs.declared.session.link.Link.{Link}
use Rattle.node_threads.specs.Cancelling.{Opens}
use Rattle.node_threads.specs.declared.opener.Opener as Opener
use Rattle.node_threads.specs.declared.service.Service.{Service}

-- The limit of a message; what the calls on a link's stream make of it; what may come of connecting
-- to the server of a database, for a link; the databases of the settings; and the parameters that
-- logins report.
pub record Meaning (T : Type 0) : Type 1 where
  pub limit : ℕ
  pub wrote : Effect T
  pub gave : Effect T
  pub connects : Opens T
  pub databases : List DatabaseSettings
  pub reports : List Report

-- what the parts of a service mean, with the streams that its opener returns
abbrev pub meaning_of : {R O G T V : Type 0} → Opener.Ghosts O T V → WriteCalls.Ghosts T
    → ReadCalls.Ghosts T → Service R (Link T) O G → Meaning T
meaning_of opener writes reads service = record {
  limit = service.limit.now;
  wrote = writes.wrote;
  gave = reads.gave;
  connects = opener.connects service.opener.now;
  databases = service.settings.now.databases;
  reports = service.reports.now;
}

-- A stream was opened at the server of this database, and the login there named the user and the
-- database of its entry. The server gave this key.
pub record IsLoggedIn {T : Type 0} (m : Meaning T) (database : ℕ) (key : List ℕ) (stream : T)
    : Type 0 where
  pub entry : DatabaseSettings
  pub entry_is : slice_get m.databases database ≡ Some entry
  pub before : T
  pub opened : m.connects database (Ok before)
  pub logs_in : SomeCalls m.wrote m.gave before stream (LogsIn m.limit entry.user entry.dbname key)

-- which logins at the server of the database with a number may have given a key
abbrev pub Logins : Type 1
Logins = ℕ → List ℕ → Type 0

-- those over a stream that was opened for it, as the user and to the database of its entry
abbrev pub logins : {T : Type 0} → Meaning T → Logins
logins {T} m database key = (stream : T) × IsLoggedIn m database key stream

-- the one that gave this key at this database
abbrev pub IsThisLogin : ℕ → List ℕ → Logins
IsThisLogin database key number given = (number ≡ database) × (given ≡ key)

-- a client that asks for a slot for this database, with this secret and a key of this kind
pub record Joining : Type 0 where
  pub database : ℕ
  pub secret : ℕ
  pub kind : Kind

-- a client of this database that has this pass
pub record Member : Type 0 where
  pub pass : PassRecord
  pub database : ℕ

-- what was read of a client and isn't used yet, and the caller of its node
pub record Moment : Type 0 where
  pub kept : List ℕ
  pub caller : CallerView

-- the moment with this input kept, and this caller
abbrev pub moment : List ℕ → CallerView → Moment
moment kept caller = record { kept = kept; caller = caller }
