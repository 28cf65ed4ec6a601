-- What a connection's first packets lead to.
use Rattle.std.proofs.Common.{◌≡◌, ℕ, List, Option, None, Some, refl, sym, ap, ◌∙◌, subst, unwrap_or}
use Rattle.pg_ids.specs.declared.any_key.AnyKey.{AnyKey}
use Rattle.pg_ids.specs.declared.any_key.Kind.{Kind}
use Rattle.ini_config.specs.Node.{NodeSettings}
use Rattle.locked_node.specs.Lock.{CallerView}
use Rattle.startup.specs.Replies.{Report}
use Rattle.peer_forward.specs.Calls.{Effect}
use Rattle.peer_forward.specs.declared.verdict.Verdict.{Verdict}
use Rattle.stat_board.specs.Seats.{SeatView}
use Rattle.startup.specs.declared.error_code.ErrorCode.TheVariants.{InvalidCatalogName}
use Rattle.session_io.specs.StreamCalls.{SomeCalls}
use Rattle.session_io.specs.Asking.{SendsError}
use Rattle.node_threads.specs.Cancelling.{Opens, IsCarried, ServesCancel}
use Rattle.node_threads.specs.Meaning.{Meaning, Moment, moment}
use Rattle.node_threads.specs.Secrets.{Drawing, secret_at}
use Rattle.node_threads.specs.Serving.{ServesClient}
use Rattle.node_threads.specs.Connection.{place_of, ServesAt}

-- The database at this place has it.
pub serves_some : {T C : Type 0} (m : Meaning T) (wrote gave : Effect C) (a b : C)
    (secrets : Drawing) (place : Option ℕ) (database secret : ℕ) (kind : Kind) (old new : Moment)
    → place ≡ Some database → (number : ℕ) × (secret ≡ secret_at secrets number)
    → SomeCalls wrote gave a b (λ calls. ServesClient m
    (record { database = database; secret = secret; kind = kind }) old calls new)
    → SomeCalls wrote gave a b (λ calls. ServesAt m secrets place kind old calls new)
serves_some m wrote gave a b secrets place database secret kind old new is drawn serves =
    let here : SomeCalls wrote gave a b (λ calls. ServesClient m
    (record { database = database; secret = secret_at secrets drawn.0; kind = kind }) old calls
    new) =
    subst (λ (x : ℕ). SomeCalls wrote gave a b (λ calls. ServesClient m
    (record { database = database; secret = x; kind = kind }) old calls new)) drawn.1 serves in
    subst (λ (p : Option ℕ). SomeCalls wrote gave a b
    (λ calls. ServesAt m secrets p kind old calls new)) (sym is)
    (here.0, here.1, (drawn.0, here.2))

-- there is none at this place
pub serves_none : {T C : Type 0} (m : Meaning T) (wrote gave : Effect C) (a b : C)
    (secrets : Drawing) (place : Option ℕ) (kind : Kind) (kept : List ℕ) (old : CallerView)
    → place ≡ None → SomeCalls wrote gave a b (SendsError InvalidCatalogName)
    → SomeCalls wrote gave a b (λ calls. ServesAt m secrets place kind (moment kept old) calls
    (moment kept old))
serves_none m wrote gave a b secrets place kind kept old is said =
    subst (λ (p : Option ℕ). SomeCalls wrote gave a b (λ calls. ServesAt m secrets p kind
    (moment kept old) calls (moment kept old))) (sym is)
    (said.0, said.1, (said.2, refl, refl))

-- what a session of these settings is served with, with this limit, opener and parameters
abbrev meaning_at : {T X : Type 0} → Effect T → Effect T → (X → Opens T) → ℕ → X → NodeSettings
    → List Report → Meaning T
meaning_at writes reads connects limit opener settings reports = record {
  limit = limit;
  wrote = writes;
  gave = reads;
  connects = connects opener;
  databases = settings.databases;
  reports = reports;
}

-- A session of this name was served by these settings, with this limit, opener and parameters.
pub serves_by : {T C X : Type 0} (writes reads : Effect T) (connects : X → Opens T)
    (wrote gave : Effect C) (a b : C) (limit at : ℕ) (opener by : X) (group : Option NodeSettings)
    (settings read : NodeSettings) (reports same : List Report) (secrets drawn : Drawing)
    (name named : List ℕ) (kind : Kind) (old new : Moment) → at ≡ limit → by ≡ opener
    → group ≡ Some read → group ≡ Some settings → reports ≡ same → drawn ≡ secrets → named ≡ name
    → SomeCalls wrote gave a b (λ calls. ServesAt
    (meaning_at writes reads connects at by read reports) drawn (place_of named read.databases)
    kind old calls new)
    → SomeCalls wrote gave a b (λ calls. ServesAt
    (meaning_at writes reads connects limit opener settings same) secrets
    (place_of name settings.databases) kind old calls new)
serves_by writes reads connects wrote gave a b limit at opener by group settings read reports same
    secrets drawn name named kind old new limit_is by_is was is are is_drawn name_is serves =
    let one : read ≡ settings = ap (λ o. unwrap_or o read) (sym was ∙ is) in
    subst (λ (k : List ℕ). SomeCalls wrote gave a b (λ calls. ServesAt
    (meaning_at writes reads connects limit opener settings same) secrets
    (place_of k settings.databases) kind old calls new)) name_is
    (subst (λ (d : Drawing). SomeCalls wrote gave a b (λ calls. ServesAt
    (meaning_at writes reads connects limit opener settings same) d
    (place_of named settings.databases) kind old calls new)) is_drawn
    (subst (λ (rs : List Report). SomeCalls wrote gave a b (λ calls. ServesAt
    (meaning_at writes reads connects limit opener settings rs) drawn
    (place_of named settings.databases) kind old calls new)) are
    (subst (λ (s : NodeSettings). SomeCalls wrote gave a b (λ calls. ServesAt
    (meaning_at writes reads connects limit opener s reports) drawn
    (place_of named s.databases) kind old calls new)) one
    (subst (λ o. SomeCalls wrote gave a b (λ calls. ServesAt
    (meaning_at writes reads connects limit o read reports) drawn
    (place_of named read.databases) kind old calls new)) by_is
    (subst (λ (n : ℕ). SomeCalls wrote gave a b (λ calls. ServesAt
    (meaning_at writes reads connects n by read reports) drawn
    (place_of named read.databases) kind old calls new)) limit_is serves)))))

-- a cancel request that was served over an opener that is another
pub serves_cancel_same : {T X : Type 0} (wrote gave : Effect T) (cancels reaches : X → Opens T)
    (opener same : X) (key : AnyKey) (old new : CallerView) (seat next : SeatView)
    (Finished : Verdict → Type 0) → opener ≡ same
    → ServesCancel (IsCarried wrote gave (cancels opener)) (IsCarried wrote gave (reaches opener))
    key old new seat next Finished
    → ServesCancel (IsCarried wrote gave (cancels same)) (IsCarried wrote gave (reaches same))
    key old new seat next Finished
serves_cancel_same wrote gave cancels reaches opener same key old new seat next Finished is serves =
    subst (λ o. ServesCancel (IsCarried wrote gave (cancels o)) (IsCarried wrote gave (reaches o))
    key old new seat next Finished) is serves
