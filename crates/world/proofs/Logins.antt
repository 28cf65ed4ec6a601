-- What a node's answer to a login makes known.
use Rattle.std.proofs.Common.{◌≡◌, zero, suc, ◌∷◌, [], ◌≢◌, ℕ, ◌+◌, ◌<◌, ◌≤◌, ◌^◌, ⊎_elim, Bool, true, false, List, Option, Some, None, Result, Ok, Err, length, refl, ap, sym, subst, ◌∙◌, arith, length-set}
use Rattle.std.proofs.Math.ListN.{set}
use Rattle.std.specs.List.{slice_get}
use Rattle.std.specs.Option.{is_some, option_map}
use Rattle.std.proofs.lemmas.Option.{same_Some, none-some, slice_get-map}
use Rattle.pg_ids.specs.Key.{IsKey, identity_of}
use Rattle.pg_ids.specs.AnyKey.{any_key, any_identity_of, slot_of, short_of, long_part_of, peer_of}
use Rattle.pg_ids.specs.declared.{any_key.AnyKey.AnyKey, any_key.Identity.Identity, any_key.Kind.Kind, client_key.ClientKey.ClientKey, long_part.LongPart.LongPart}
use Rattle.key_table.specs.declared.entry.Entry.{Entry}
use Rattle.key_table.specs.Slots.{IsNext, entry_of, first_key}
use Rattle.lease.specs.declared.pass.PassRecord.{PassRecord}
use Rattle.link_pool.specs.Pool.{PoolView}
use Rattle.node_core.specs.declared.client.Client.{Client}
use Rattle.node_core.specs.declared.refusal.JoinRefusal.{JoinRefusal}
use Rattle.node_core.specs.View.{NodeView, IsView}
use Rattle.node_core.specs.NodeStep.{part_of, serial_after, Joins as NodeJoins, JoinStep}
use Rattle.world.specs.declared.reply.Reply.{Reply}
use Rattle.ini_config.specs.Node.{DatabaseSettings}
use Rattle.std.proofs.lemmas.List.{length-map}
use Rattle.world.specs.World.{World, Hand, Issue, Session, HadBoot, IsNode}
use Rattle.world.specs.Changes.{and_then, with_nodes}
use Rattle.world.specs.Admissible.{IsNewSecret, MayLogIn}
use Rattle.world.specs.LinkEvents.{Joins, LogsIn}
use Rattle.world.specs.Facts.{HasServer, IsGiven, WasGiven, Facts, AreWhole}
use Rattle.world.proofs.ServerNumbers.{its_server}
use Rattle.world.proofs.Lists.{set_cases, before_end}
use Rattle.world.proofs.GivingBack.{same_nodes}
use Rattle.world.proofs.Keys.{any_peer, any_part}
use Rattle.world.proofs.LoggingIn.{login_kept}

-- the parts of a key that was put together
short_of_key : (key : ClientKey) (part : Option LongPart) → short_of (any_key key part) ≡ key
short_of_key key None = refl
short_of_key key (Some part) = refl

part_of_key : (key : ClientKey) (part : Option LongPart) → long_part_of (any_key key part) ≡ part
part_of_key key None = refl
part_of_key key (Some part) = refl

-- a free slot has no client
no_client : (v : NodeView) (slot : ℕ) → IsView v → slice_get v.keys.entries slot ≡ Some None
    → slice_get v.clients slot ≡ Some None
no_client v slot whole free =
    by_client (slice_get v.clients slot)
    (sym (slice_get-map is_some v.clients slot) ∙ ap (λ (l : List Bool). slice_get l slot) (sym whole.node.live)
    ∙ slice_get-map is_some v.keys.entries slot ∙ ap (option_map is_some) free)
  where
    by_client : (o : Option (Option Client)) → option_map is_some o ≡ Some false → o ≡ Some None
    by_client None h = absurd (cc)
    by_client (Some None) h = refl
    by_client (Some (Some c)) h = absurd (cc)

serial_grows : (kind : Kind) (serial : ℕ) → serial ≤ serial_after kind serial
serial_grows Kind.Short serial = omega arith
serial_grows Kind.Long serial = omega arith

-- a client's key is none that was given before
new_identity : (w : World) → Facts w → (q node slot secret : ℕ) (v : NodeView) (kind : Kind) (key : AnyKey)
    → IsNode w.nodes node q v → v.keys.peer ≡ v.me
    → key ≡ any_key (first_key v.keys.peer slot secret) (part_of kind v)
    → IsKey (short_of key) → IsNewSecret w.issues node kind secret (Some slot)
    → (j : ℕ) (a : Issue) → slice_get w.issues j ≡ Some a → a.identity ≢ any_identity_of key
new_identity w f q node slot secret v kind key is own made ok fresh j a at same =
    let g = f.issues.each j a at in
    let peer : peer_of key ≡ v.keys.peer = ap peer_of made
    ∙ ap (λ (k : ClientKey). k.peer) (short_of_key (first_key v.keys.peer slot secret) (part_of kind v)) in
    let here : a.node ≡ node = g.node ∙ any_peer g.key key g.is ok (sym g.of ∙ same) ∙ peer ∙ own ∙ is.named in
    by_kind kind made fresh g here
  where
    by_kind : (kind : Kind) → key ≡ any_key (first_key v.keys.peer slot secret) (part_of kind v)
        → IsNewSecret w.issues node kind secret (Some slot) → IsGiven w.nodes w.starts a → a.node ≡ node → ⊥
    by_kind Kind.Short made fresh g here = fresh j a at here
        (same ∙ ap any_identity_of made
        ∙ ap (λ (p : ℕ). Identity.Short (identity_of (first_key p slot secret))) (own ∙ is.named))
    by_kind Kind.Long made fresh g here =
        let part : LongPart = record { boot = v.boot; serial = v.next_serial } in
        let has : long_part_of g.key ≡ Some part = any_part g.key key (sym g.of ∙ same) ∙ ap long_part_of made in
        let old = (g.part part has).serial q v (record { there = is.there; named = is.named ∙ sym here }) refl in
        omega (arith, old)

-- the key's part was given with it
part_given : (w : World) → Facts w → (q node : ℕ) (v n : NodeView) (kind : Kind) (part : LongPart)
    → IsNode w.nodes node q v → n.me ≡ v.me → n.next_serial ≡ serial_after kind v.next_serial
    → part_of kind v ≡ Some part → WasGiven (set w.nodes q n) w.starts node part
part_given w f q node v n Kind.Short part is me serial has = absurd (none-some part has)
part_given w f q node v n Kind.Long part is me serial has =
    let its : LongPart = record { boot = v.boot; serial = v.next_serial } in
    let same : its ≡ part = same_Some its part has in
    record {
      boot = subst (λ (m : ℕ). HadBoot w.starts m part.boot) is.named
          (subst (λ (p : LongPart). HadBoot w.starts v.me p.boot) same (f.issues.booted q v is.there));
      serial = λ place view node boot. ⊎_elim
          (λ was. absurd (was.0 (f.nodes.once place q view v was.1 is.there (node.named ∙ sym is.named))))
          (λ new.
          let one : part.serial ≡ v.next_serial = ap (λ (p : LongPart). p.serial) (sym same) in
          let next : view.next_serial ≡ v.next_serial + 1 = ap (λ (z : NodeView). z.next_serial) new.1 ∙ serial in
          omega (arith, one, next))
          (set_cases w.nodes q place view n node.there);
    }

-- what is at a place before the end
entry_at : (ds : List DatabaseSettings) (i : ℕ) → i < length ds
    → (d : DatabaseSettings) × (slice_get ds i ≡ Some d)
entry_at [] i below = absurd (omega (arith, below))
entry_at (d ∷ ds) zero below = (d, refl)
entry_at (d ∷ ds) (suc i) below = entry_at ds i (omega (arith, below))

-- a database that a node has is one of its settings
has_server : (w : World) → Facts w → (q node database : ℕ) (v : NodeView) → IsNode w.nodes node q v
    → database < length v.pools → HasServer w.group node database
has_server w f q node database v is few =
    let settings = f.nodes.settings q v is.there in
    let long : length v.pools ≡ length settings.0.databases = ap length (sym settings.3)
    ∙ length-map settings.0.databases (λ (d : DatabaseSettings). d.pool_size) in
    let at = entry_at settings.0.databases database (omega (arith, few, long)) in
    let server = its_server w.group q database settings.0 at.0 settings.1 at.1 in (
      server.0,
      record {
        place = q;
        settings = settings.0;
        entry = at.0;
        there = settings.1;
        number = settings.2 ∙ is.named;
        at = at.1;
        is = server.1;
      },
    )

-- a client has logged in
joined_kept : (w : World) (q node label database secret : ℕ) (v n : NodeView) (kind : Kind) (pass : PassRecord)
    → Facts w → AreWhole w.nodes → IsNode w.nodes node q v → secret < 2 ^ 32
    → ((j : ℕ) (z : Session) → slice_get w.sessions j ≡ Some z → z.label ≢ label)
    → IsNewSecret w.issues node kind secret v.keys.next
    → HasServer w.group node database → NodeJoins database secret kind pass v n
    → Facts (record w {
      nodes = set w.nodes q n;
      issues = and_then w.issues (record { node = node; incarnation = pass.incarnation; identity = any_identity_of pass.key; label = label });
      sessions = and_then w.sessions (record { label = label; node = node; database = database; pass = pass; stays = true; hand = Hand.Empty });
    })
joined_kept w q node label database secret v n kind pass f whole is below fresh_label fresh server j =
    let slot = slot_of pass.key in
    let view = whole q v is.there in
    let own = view.node.own.0 in
    let next : IsNext v.keys.entries (Some slot) = subst (IsNext v.keys.entries) j.slot.slot view.node.next in
    let free = no_client v slot view next in
    let made = j.slot.key in
    let short : short_of pass.key ≡ first_key v.keys.peer slot secret =
    ap short_of made ∙ short_of_key (first_key v.keys.peer slot secret) (part_of kind v) in
    let part : long_part_of pass.key ≡ part_of kind v =
    ap long_part_of made ∙ part_of_key (first_key v.keys.peer slot secret) (part_of kind v) in
    let ranges = f.nodes.ranges q v is.there in
    let me_range = ranges.0 in
    let slots_range = ranges.1 in
    let slot_range = before_end v.clients slot None free in
    let first_ok : IsKey (first_key v.keys.peer slot secret) = record {
      peer = omega (arith, own, me_range);
      slot = omega (arith, slot_range, slots_range);
      secret = below;
      hops = omega arith;
    } in
    let ok : IsKey (short_of pass.key) = subst IsKey (sym short) first_ok in
    let peer : node ≡ peer_of pass.key = sym is.named ∙ sym own ∙ ap (λ (k : ClientKey). k.peer) (sym short) in
    let me : n.me ≡ v.me = ap (λ (z : NodeView). z.me) j.after in
    let links : n.links ≡ v.links = ap (λ (z : NodeView). z.links) j.after in
    let clients = ap (λ (z : NodeView). z.clients) j.after in
    let serial : n.next_serial ≡ serial_after kind v.next_serial = ap (λ (z : NodeView). z.next_serial) j.after in
    let grows = serial_grows kind v.next_serial in
    let number : n.next_pass ≡ v.next_pass + 1 = ap (λ (z : NodeView). z.next_pass) j.after in
    let new = new_identity w f q node slot secret v kind pass.key is own made ok
    (subst (IsNewSecret w.issues node kind secret) j.slot.slot fresh) in
    login_kept w q v n (record { node = node; incarnation = pass.incarnation; identity = any_identity_of pass.key; label = label })
    (record { label = label; node = node; database = database; pass = pass; stays = true; hand = Hand.Empty }) whole (record {
      node = is.there;
      next = free;
      was_free = next;
      grew = record {
        kept = record {
          me = me;
          slots = ap length clients ∙ length-set v.clients slot _;
          pools = ap (λ (z : NodeView). z.pools) j.after;
          incarnation = let e = ap (λ (u : PoolView). u.incarnation) links in omega (arith, e);
          pass = omega (arith, number);
          link = let e = ap (λ (u : PoolView). u.next_link) links in omega (arith, e);
          ticket = let e = ap (λ (u : PoolView). u.next_ticket) links in omega (arith, e);
        };
        boot = ap (λ (z : NodeView). z.boot) j.after;
        serial = omega (arith, serial, grows);
      };
      clients = clients;
      entries = j.slot.entries ∙ ap (λ (e : Entry). set v.keys.entries slot (Some e))
          (ap (λ (k : ℕ). entry_of k (part_of kind v)) (ap (λ (k : ClientKey). k.secret) (sym short))
          ∙ ap (entry_of (short_of pass.key).secret) (sym part));
      links = links;
      fresh = new;
      given = record {
        key = pass.key;
        is = ok;
        of = refl;
        node = peer;
        part = λ p has. part_given w f q node v n kind p is me serial (sym part ∙ has);
      };
      identity = refl;
      label = refl;
      new_label = fresh_label;
      key = ok;
      peer = peer;
      here = sym is.named;
      stays = refl;
      hand = refl;
      incarnation = j.incarnation;
      number = j.number.0;
      next_number = number;
      server = server;
    }) f

-- a client logs in, or gets no slot
login_by : (w new : World) (nodes : List NodeView) (q node label database secret : ℕ) (v n : NodeView) (kind : Kind)
    (joined : Result PassRecord JoinRefusal) (said : Reply)
    → Facts w → AreWhole w.nodes → IsNode w.nodes node q v → secret < 2 ^ 32
    → ((j : ℕ) (z : Session) → slice_get w.sessions j ≡ Some z → z.label ≢ label)
    → IsNewSecret w.issues node kind secret v.keys.next
    → HasServer w.group node database → JoinStep database secret kind joined v n → nodes ≡ set w.nodes q n
    → Joins node label database joined said (with_nodes nodes w) new → Facts new
login_by w new nodes q node label database secret v n kind (Ok pass) said f whole is below fresh_label fresh server step all after =
    subst Facts (sym (after.1 ∙ ap (λ (ns : List NodeView). let z : World = record w {
      nodes = ns;
      issues = and_then w.issues (record { node = node; incarnation = pass.incarnation; identity = any_identity_of pass.key; label = label });
      sessions = and_then w.sessions (record { label = label; node = node; database = database; pass = pass; stays = true; hand = Hand.Empty });
    } in z) all))
    (joined_kept w q node label database secret v n kind pass f whole is below fresh_label fresh server step)
login_by w new nodes q node label database secret v n kind (Err JoinRefusal.Full) said f whole is below fresh_label fresh server step all after =
    subst Facts (sym (after.1 ∙ ap (λ (ns : List NodeView). with_nodes ns w)
    (all ∙ ap (set w.nodes q) step.1 ∙ same_nodes w.nodes q v is.there))) f
login_by w new nodes q node label database secret v n kind (Err JoinRefusal.Exhausted) said f whole is below fresh_label fresh server step all after =
    subst Facts (sym (after.1 ∙ ap (λ (ns : List NodeView). with_nodes ns w)
    (all ∙ ap (set w.nodes q) step.2 ∙ same_nodes w.nodes q v is.there))) f

pub login_event_kept : (old new : World) (node label database secret : ℕ) (kind : Kind) (said : Reply)
    → AreWhole old.nodes → secret < 2 ^ 32 → MayLogIn old node label database secret kind
    → LogsIn node label database secret kind said old new → Facts old → Facts new
login_event_kept old new node label database secret kind said whole below may does f =
    let place : may.place ≡ does.step.place = f.nodes.once may.place does.step.place may.view does.step.view
    may.is.there does.step.is.there (may.is.named ∙ sym does.step.is.named) in
    let one : may.view ≡ does.step.view = same_Some may.view does.step.view
    (sym may.is.there ∙ ap (slice_get old.nodes) place ∙ does.step.is.there) in
    login_by old new does.nodes does.step.place node label database secret does.step.view does.step.next kind does.joined said
    f whole does.step.is below (λ j z at e. may.new j z (record { there = at; named = e }))
    (subst (λ (x : NodeView). IsNewSecret old.issues node kind secret x.keys.next) one may.fresh)
    (has_server old f may.place node database may.view may.is may.has)
    does.step.step does.step.after does.after
