-- What an event needs is there: the node of a session and of a ticket, the server process of a link
-- and of a cancel connection, the client of a slot; and a client with nothing in hand holds
-- nothing, as its node sees it.
use Rattle.std.proofs.Common.{◌≡◌, ◌≢◌, ℕ, ◌<◌, zero, suc, [], ◌∷◌, Bool, true, false, List, Option, Some, None, length, refl, ap, sym, subst, ◌∙◌, arith, ◌==◌, ◌&&◌}
use Rattle.std.specs.List.{slice_get}
use Rattle.std.specs.Option.{is_some, option_map}
use Rattle.std.proofs.lemmas.Option.{same_Some, none-some, slice_get-map}
use Rattle.pg_ids.specs.AnyKey.{IsAnyKey, peer_of, slot_of}
use Rattle.pg_ids.specs.declared.any_key.AnyKey.{AnyKey}
use Rattle.key_table.specs.declared.entry.Entry.{Entry}
use Rattle.key_table.specs.Slots.{is_opened}
use Rattle.lease.specs.declared.{link_place.LinkPlace.LinkPlace, ticket.TicketRecord.TicketRecord}
use Rattle.link_pool.specs.declared.place.{Place.Place, Link.Link}
use Rattle.link_pool.specs.Pool.{PoolView, place_at}
use Rattle.link_pool.specs.PoolStep.{is_holding, Serves as PoolServes}
use Rattle.ini_config.specs.Node.{NodeSettings}
use Rattle.node_core.specs.declared.client.Client.{Client}
use Rattle.node_core.specs.View.{NodeView, IsView, IsClient}
use Rattle.world.specs.World.{World, Backend, Connection, Hand, Session, IsBackend, IsNode, IsServer}
use Rattle.world.specs.LinkEvents.{IsLeased}
use Rattle.world.specs.CancelEvents.{IsInSlot, Holds, IsConnection}
use Rattle.world.specs.Facts.{Process, process_of, grip_of, Face, face_of, IsIn, GripFits, HasServer, Facts, AreWhole}
use Rattle.world.proofs.Lists.{before_end, read_map, from_map}
use Rattle.world.proofs.Holding.{link_place}
use Rattle.world.proofs.Keys.{TakesHome}
use Rattle.world.proofs.Arriving.{slot_owner}
use Rattle.world.proofs.Serving.{claim_holder}

-- there is a node with this number
abbrev pub HasNodeAt : World → ℕ → Type 0
HasNodeAt w node = (place : ℕ) × (view : NodeView) × IsNode w.nodes node place view

-- a number of the settings is a node's
settings_node : (w : World) → Facts w → (node place : ℕ) (s : NodeSettings) → slice_get w.group place ≡ Some s
    → s.peer_id ≡ node → HasNodeAt w node
settings_node w f node place s there named =
    let below = before_end w.group place s there in
    let long = f.nodes.long in
    at_place (slice_get w.nodes place) refl (omega (arith, below, long))
  where
    at_place : (o : Option NodeView) → slice_get w.nodes place ≡ o → place < length w.nodes → HasNodeAt w node
    at_place (Some v) at few =
        let settings = f.nodes.settings place v at in
        let one : settings.0 ≡ s = same_Some settings.0 s (sym settings.1 ∙ there) in (
          place,
          v,
          record {
            there = at;
            named = sym settings.2 ∙ ap (λ (z : NodeSettings). z.peer_id) one ∙ named;
          },
        )
    at_place None at few = absurd (within w.nodes place few at)
      where
        within : (vs : List NodeView) (i : ℕ) → i < length vs → slice_get vs i ≢ None
        within [] i few at = absurd (omega (arith, few))
        within (v ∷ vs) zero few at = absurd (none-some v (sym at))
        within (v ∷ vs) (suc i) few at = within vs i (omega (arith, few)) at

-- the node of a session
pub session_node : (w : World) → Facts w → (p : ℕ) (s : Session) → slice_get w.sessions p ≡ Some s
    → HasNodeAt w s.node
session_node w f p s there =
    let server = f.servers.clients p (face_of s) (read_map face_of w.sessions p s there) in
    settings_node w f s.node server.1.place server.1.settings server.1.there server.1.number

-- the node of a ticket
pub ticket_node : (w : World) → Facts w → (k : ℕ) (c : Connection) → slice_get w.connections k ≡ Some c
    → HasNodeAt w c.ticket.peer
ticket_node w f k c there =
    let server = f.servers.asked k c there in
    settings_node w f c.ticket.peer server.1.place server.1.settings server.1.there server.1.number

-- the server of a session's database
pub session_server : (w : World) → Facts w → (p : ℕ) (s : Session) → slice_get w.sessions p ≡ Some s
    → HasServer w.group s.node s.database
session_server w f p s there = f.servers.clients p (face_of s) (read_map face_of w.sessions p s there)

-- the server process of a link that stands in a pool
pub link_backend : (w : World) → Facts w → (q : ℕ) (v : NodeView) (at : LinkPlace) (link : Link)
    → slice_get w.nodes q ≡ Some v → place_at v.links at ≡ Some (Place.Link link)
    → (b : ℕ) × (backend : Backend) × IsLeased w.backends link.details b backend
link_backend w f q v at link at_q there =
    let h = f.links q v at_q at link there in
    let b = from_map process_of w.backends h.0 h.1.process h.1.there in
    (h.0, b.0, record { there = b.1; link = ap (λ (p : Process). p.link) b.2 ∙ h.1.of })

-- the server process that a cancel connection is for
pub connection_backend : (w : World) → Facts w → (k : ℕ) (c : Connection) → slice_get w.connections k ≡ Some c
    → (backend : Backend) × IsBackend w.backends c.server c.key c.backend backend
connection_backend w f k c there =
    let h = f.connections.each k c there in
    let b = from_map process_of w.backends c.backend h.process h.there in (
      b.0,
      record {
        there = b.1;
        of = ap (λ (p : Process). p.server) b.2 ∙ h.server;
        by = ap (λ (p : Process). p.key) b.2 ∙ h.key;
      },
    )

both_true : (a b : Bool) → a && b ≡ true → b ≡ true
both_true true b h = h
both_true false b h = absurd (cc)

-- a live slot has its client
live_client : (v : NodeView) (key : AnyKey) → IsView v → is_opened (slice_get v.keys.entries (slot_of key)) key ≡ true
    → (client : Client) × IsClient v (slot_of key) client
live_client v key whole opened =
    let slot = slot_of key in
    by_entry (slice_get v.keys.entries slot) (slice_get v.clients slot) opened
    (sym (slice_get-map is_some v.keys.entries slot) ∙ ap (λ (l : List Bool). slice_get l slot) whole.node.live
    ∙ slice_get-map is_some v.clients slot)
  where
    by_entry : (e : Option (Option Entry)) (c : Option (Option Client)) → is_opened e key ≡ true
        → option_map is_some e ≡ option_map is_some c → (client : Client) × (c ≡ Some (Some client))
    by_entry None c h same = absurd (cc)
    by_entry (Some None) c h same = absurd (cc)
    by_entry (Some (Some e)) None h same = absurd (cc)
    by_entry (Some (Some e)) (Some None) h same = absurd (cc)
    by_entry (Some (Some e)) (Some (Some client)) h same = (client, refl)

-- the client that a key names, where a node takes it for a client's
pub named_client : (w : World) → Facts w → AreWhole w.nodes → (q node : ℕ) (v : NodeView) (key : AnyKey)
    → IsNode w.nodes node q v → TakesHome v key
    → (label : ℕ) × IsInSlot w node (slot_of key) label
named_client w f whole q node v key is home =
    let live = live_client v key (whole q v is.there)
    (both_true (peer_of key == v.keys.peer) (is_opened (slice_get v.keys.entries (slot_of key)) key) home.named) in
    let face = (f.slots q v is.there).filled (slot_of key) live.0 live.1 in
    let s = from_map face_of w.sessions face.0 face.1 face.2 in
    let stays = ap (λ (z : Face). z.stays) s.2 ∙ face.3.stays in
    let fits = (f.slots q v is.there).fits face.0 face.1 face.2 face.3 in
    let client : Client = record { database = face.1.database; pass = face.1.pass.number } in
    let one : client ≡ live.0 = same_Some client live.0 (same_Some (Some client) (Some live.0)
    (sym fits.client ∙ ap (slice_get v.clients) face.4 ∙ live.1)) in (
      s.0.label,
      record {
        at = q;
        view = v;
        is = is;
        client = live.0;
        live = live.1;
        place = face.0;
        session = s.0;
        there = record { there = s.1; named = refl };
        stays = stays;
        here = ap (λ (z : Face). z.node) s.2 ∙ face.3.node ∙ is.named;
        pass = (
          ap (λ (z : Face). z.pass.number) s.2 ∙ ap (λ (c : Client). c.pass) one,
          ap (λ (z : Face). z.pass.incarnation) s.2 ∙ face.3.incarnation,
        );
      },
    )

-- a client with nothing in hand holds nothing, as its node sees it
pub holds_nothing : (w : World) → Facts w → (p q : ℕ) (s : Session) (v : NodeView)
    → slice_get w.sessions p ≡ Some s → s.hand ≡ Hand.Empty → slice_get w.nodes q ≡ Some v
    → IsIn v (face_of s) → is_holding (slice_get v.links.claims (slot_of s.pass.key)) ≡ false
holds_nothing w f p q s v there empty at_q is =
    subst (GripFits v.links (slot_of s.pass.key)) (ap grip_of empty)
    ((f.slots q v at_q).fits p (face_of s) (read_map face_of w.sessions p s there) is).grip

-- the cancel connection of an order
pub order_connection : (w : World) → Facts w → AreWhole w.nodes → (q label node database : ℕ) (v : NodeView) (u : PoolView)
    (key : AnyKey) (server_key : List ℕ) (ticket : TicketRecord)
    → IsNode w.nodes node q v → IsAnyKey key → TakesHome v key → IsInSlot w node (slot_of key) label
    → PoolServes (slot_of key) ticket database server_key v.links u
    → (c : Connection) × IsConnection w node database server_key ticket c × (c.holder ≡ Some label)
order_connection w f whole q label node database v u key server_key ticket is is_key home in_slot serves =
    let at = serves.at in
    let link = serves.link in
    let there = serves.has.1 in
    let h = f.links q v is.there at link there in
    let b = from_map process_of w.backends h.0 h.1.process h.1.there in
    let of = slot_owner w f whole q label v node key is is_key home in_slot in
    let has = claim_holder w f whole q label node h.0 v key at link is of serves.has h.1 in
    let database_is : link.details.at.database ≡ database =
    ap (λ (k : LinkPlace). k.database) (link_place v.links at link (whole q v is.there).places there) ∙ sym serves.of.0 in
    let c : Connection = record {
      server = h.1.process.server;
      key = server_key;
      backend = h.0;
      holder = Some label;
      arrival = length w.arrivals;
      ticket = ticket;
      acted = false;
      ended = false;
      report = None;
    } in (
      c,
      record {
        server = h.1.process.server;
        place = h.0;
        backend = b.0;
        holder = Some label;
        at = subst (λ (d : ℕ). IsServer w.group node d h.1.process.server) database_is
            (subst (λ (m : ℕ). IsServer w.group m link.details.at.database h.1.process.server) is.named h.1.server);
        runs = record {
          there = b.1;
          of = ap (λ (p : Process). p.server) b.2;
          by = ap (λ (p : Process). p.key) b.2 ∙ h.1.key ∙ sym serves.of.1;
        };
        held = subst (λ (m : ℕ). Holds w node m h.0 label)
            (sym (ap (λ (t : TicketRecord). t.incarnation) serves.says)) has.holds;
        is = refl;
      },
      refl,
    )
