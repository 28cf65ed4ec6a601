-- A key that is given at a login was never given before.
use Rattle.std.proofs.Common.{◌≡◌, ◌≢◌, ℕ, ◌<◌, ◌^◌, true, List, Some, Ok, length, refl, sym, ◌∙◌, arith}
use Rattle.std.specs.List.{slice_get}
use Rattle.pg_ids.specs.Key.{IsKey, identity_of}
use Rattle.pg_ids.specs.AnyKey.{any_identity_of}
use Rattle.pg_ids.specs.declared.any_key.{AnyKey.AnyKey, Identity.Identity, Kind.Kind}
use Rattle.key_table.specs.Slots.{first_key}
use Rattle.lease.specs.declared.pass.PassRecord.{PassRecord}
use Rattle.node_core.specs.declared.exchange.Exchange.{Exchange}
use Rattle.node_core.specs.View.{NodeView}
use Rattle.world.specs.declared.reply.Reply.{Reply}
use Rattle.world.specs.World.{World, Hand, Issue, Session}
use Rattle.world.specs.Changes.{and_then, Steps}
use Rattle.world.specs.Admissible.{MayLogIn, NeverIssued}
use Rattle.world.specs.Facts.{Facts, AreWhole}
use Rattle.world.proofs.Lists.{kept_behind, added_last, before_end}
use Rattle.world.proofs.Keys.{any_peer}
use Rattle.world.proofs.Logins.{login_event_kept}

pub new_identity : (w : World) → Facts w → AreWhole w.nodes → (node label database secret : ℕ) (kind : Kind) (pass : PassRecord)
    (nodes : List NodeView) → secret < 2 ^ 32 → MayLogIn w node label database secret kind
    → Steps node (Exchange.Join database secret kind (Ok pass)) w.nodes nodes
    → (place : ℕ) (other : Issue) → slice_get w.issues place ≡ Some other
    → other.identity ≢ any_identity_of pass.key
new_identity w f whole node label database secret kind pass nodes below may step place other there same =
    let issue : Issue = record {
      node = node;
      incarnation = pass.incarnation;
      identity = any_identity_of pass.key;
      label = label;
    } in
    let session : Session = record {
      label = label;
      node = node;
      database = database;
      pass = pass;
      stays = true;
      hand = Hand.Empty;
    } in
    let new : World = record w {
      nodes = nodes;
      issues = and_then w.issues issue;
      sessions = and_then w.sessions session;
    } in
    let g = login_event_kept w new node label database secret kind (Reply.Key pass.key) whole below may
    (record { nodes = nodes; joined = Ok pass; step = step; after = (refl, refl) }) f in
    let one : place ≡ length w.issues = g.issues.once place (length w.issues) other issue
    (kept_behind w.issues _ place other there) (added_last w.issues issue) same in
    let few = before_end w.issues place other there in
    absurd (omega (arith, one, few))

-- a short key's identity was given by its own node
pub given_there : (w : World) → Facts w → (node slot secret place : ℕ) (issue : Issue) → IsKey (first_key node slot secret)
    → slice_get w.issues place ≡ Some issue → issue.identity ≡ Identity.Short (identity_of (first_key node slot secret))
    → NeverIssued w.issues node (Identity.Short (identity_of (first_key node slot secret))) → ⊥
given_there w f node slot secret place issue is there same never =
    let given = f.issues.each place issue there in
    let peer = any_peer given.key (AnyKey.Short (first_key node slot secret)) given.is is (sym given.of ∙ same) in
    never place issue there (given.node ∙ peer) same
