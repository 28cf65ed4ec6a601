-- A connection from its first packets to its end (own; PostgreSQL manual, "Message Flow").
-- `ServesConnection`: they lead to a session on the database that they name, to the console, or to
-- a cancel request, once the connection is admitted for that.
use Rattle.std.specs.Prelude.{◌≡◌, ◌⊎◌, ℕ, Bool, List, [], codes, string_bytes, position, true, false, Option, Some, None}
use Rattle.std.specs.Str.{bytes_eq}
use Rattle.pg_ids.specs.declared.any_key.AnyKey.{AnyKey}
use Rattle.pg_ids.specs.declared.any_key.Kind.{Kind}
use Rattle.ini_config.specs.Node.{DatabaseSettings, NodeSettings}
use Rattle.locked_node.specs.Lock.{CallerView}
use Rattle.peer_forward.specs.Calls.{Call, Effect}
use Rattle.peer_forward.specs.Finishing.{Finishes}
use Rattle.peer_forward.specs.declared.arrival.Asks.{Asks}
use Rattle.peer_forward.specs.declared.arrival.Asks.TheVariants as asks
use Rattle.stat_board.specs.Seats.{SeatView}
use Rattle.startup.specs.Replies.{Report}
use Rattle.startup.specs.declared.error_code.ErrorCode.TheVariants.{InvalidCatalogName}
use Rattle.startup.specs.declared.startup_error.StartupError.{StartupError}
use Rattle.session_io.specs.declared.login.first_packets.Opened.{Opened}
use Rattle.session_io.specs.declared.login.first_packets.Opened.TheVariants.{Session, Cancel, Over}
use Rattle.session_io.specs.StreamCalls.{SomeCalls}
use Rattle.session_io.specs.Asking.{SendsError}
use Rattle.session_io.specs.Opening.{Arriving, Opens}
use Rattle.node_threads.specs.Cancelling.{Opens as MayOpen, IsCarried, ServesCancel}
use Rattle.node_threads.specs.Meaning.{Meaning, Moment, moment}
use Rattle.node_threads.specs.Secrets.{Drawing, secret_at}
use Rattle.node_threads.specs.Serving.{ServesClient}
use Rattle.node_threads.specs.ConsoleSession.{ServesConsole}

-- the name by which a client asks for the console
abbrev pub console_name : List ℕ
console_name = codes "pgbouncer"

-- the place of the database with a name
abbrev pub place_of : List ℕ → List DatabaseSettings → Option ℕ
place_of name databases = position (λ d. bytes_eq name d.name) databases

-- A session was served on the database at this place, with a key of this kind whose secret was
-- drawn from these, or refused where there is none.
abbrev pub ServesAt : {T : Type 0} → Meaning T → Drawing → Option ℕ → Kind → Moment → List Call
    → Moment → Type 0
ServesAt m secrets None kind old calls new = SendsError InvalidCatalogName calls
    × (new.kept ≡ old.kept) × (new.caller ≡ old.caller)
ServesAt m secrets (Some database) kind old calls new = (number : ℕ) × ServesClient m
    (record { database = database; secret = secret_at secrets number; kind = kind }) old calls new

-- What a connection is served with, and what its parts mean: the limit of a message; what the calls
-- of a link's stream and of the client's make of them, and what a look at the client's connection
-- makes of it, taking the byte that was seen, giving it up, admitting it, and refusing its first
-- packets; what may come of connecting for a link and for a cancel request, to a server and to a
-- peer; the secrets, what logins report, and the settings.
pub record Served (T C : Type 0) : Type 1 where
  pub limit : ℕ
  pub link_wrote : Effect T
  pub link_gave : Effect T
  pub wrote : Effect C
  pub gave : Effect C
  pub saw : Effect C
  pub takes : C → C → Type 0
  pub resets : C → C → Type 0
  pub admitted : C → Asks → Bool → C → Type 0
  pub refused : C → StartupError → Bool → C → Type 0
  pub connects : MayOpen T
  pub cancels : MayOpen T
  pub reaches : MayOpen T
  pub secrets : Drawing
  pub reports : List Report
  pub settings : NodeSettings

-- what a session of a database is served with
abbrev pub meaning : {T C : Type 0} → Served T C → Meaning T
meaning served = record {
  limit = served.limit;
  wrote = served.link_wrote;
  gave = served.link_gave;
  connects = served.connects;
  databases = served.settings.databases;
  reports = served.reports;
}

-- A session of this name was served: at the console, or on the database with this name.
abbrev pub ServesSession : {T C : Type 0} → Served T C → (name : List ℕ) → Kind → List ℕ
    → List Call → List ℕ → CallerView → CallerView → Type 0
ServesSession served name kind kept calls left old new =
    ((bytes_eq name console_name ≡ true) × (new ≡ old)
    × ServesConsole served.limit served.reports served.settings old kept calls left)
    ⊎ ((bytes_eq name console_name ≡ false)
    × ServesAt (meaning served) served.secrets (place_of name served.settings.databases) kind
    (moment kept old) calls (moment left new))

-- A cancel request with this key was served, and its sender's connection finished by the verdict. Or
-- no seat was free for it: it got no order, and the connection was given up.
abbrev pub ServesRequest : {T C : Type 0} → Served T C → AnyKey → C → C → CallerView → CallerView
    → Type 0
ServesRequest served key client client' old new =
    (served.resets client client' × (new ≡ old))
    ⊎ ((seat next : SeatView) × ServesCancel
    (IsCarried served.link_wrote served.link_gave served.cancels)
    (IsCarried served.link_wrote served.link_gave served.reaches) key old new seat next
    (λ verdict. Finishes served.wrote served.takes client verdict client'))

-- A connection was admitted for what its first packets ask for, and then served so. Or it wasn't, and
-- nothing was done.
abbrev pub IfAdmitted : {T C : Type 0} → Served T C → Asks → C → C → CallerView → CallerView
    → (C → Type 0) → Type 0
IfAdmitted {T} {C} served asked client client' old new IsServed =
    ((next : C) × served.admitted client asked true next × IsServed next)
    ⊎ (served.admitted client asked false client' × (new ≡ old))

-- what a session of this name asks for
abbrev pub AsksFor : (name : List ℕ) → Asks → Type 0
AsksFor name asks.Console = bytes_eq name console_name ≡ true
AsksFor name asks.Session = bytes_eq name console_name ≡ false
AsksFor name asks.Cancel = ⊥

-- What the first packets lead to was served.
abbrev pub ServesOpened : {T C : Type 0} → Served T C → Opened → C → C → CallerView → CallerView
    → Type 0
ServesOpened served (Session name kind) client client' old new =
    (asked : Asks) × AsksFor (string_bytes name) asked
    × IfAdmitted served asked client client' old new (λ next. (left : List ℕ)
    × SomeCalls served.wrote served.gave next client'
    (λ calls. ServesSession served (string_bytes name) kind [] calls left old new))
ServesOpened served (Cancel key) client client' old new =
    IfAdmitted served asks.Cancel client client' old new
    (λ next. ServesRequest served key next client' old new)
ServesOpened served Over client client' old new = (client' ≡ client) × (new ≡ old)

-- what the calls of the client's connection make of it until its first packets were read
abbrev pub arriving : {T C : Type 0} → Served T C → Arriving C
arriving served = record {
  wrote = served.wrote;
  gave = served.gave;
  saw = served.saw;
  refused = served.refused;
}

-- The first packets were read, and then what they lead to was served.
abbrev pub ServesConnection : {T C : Type 0} → Served T C → C → C → CallerView → CallerView
    → Type 0
ServesConnection {T} {C} served client client' old new =
    (opened : Opened) × (next : C) × Opens (arriving served) client opened next
    × ServesOpened served opened next client' old new
