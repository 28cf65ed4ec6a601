-- The bytes of a flight come to a node.
use Rattle.std.proofs.Common.{◌≡◌, ◌≢◌, ℕ, ◌+◌, ◌≤◌, Bool, true, false, List, Some, length, refl, ap, sym, subst, ◌∙◌, arith}
use Rattle.std.proofs.Math.ListN.{set}
use Rattle.std.specs.List.{slice_get}
use Rattle.pg_ids.specs.AnyKey.{IsAnyKey, any_identity_of, peer_of, slot_of, short_of}
use Rattle.pg_ids.specs.declared.any_key.AnyKey.{AnyKey}
use Rattle.startup.specs.CancelPacket.{packet_bytes}
use Rattle.startup.specs.declared.packet.Packet.{Packet}
use Rattle.lease.specs.declared.{link_place.LinkPlace.LinkPlace, ticket.TicketRecord.TicketRecord}
use Rattle.link_pool.specs.declared.place.{Place.Place}
use Rattle.link_pool.specs.declared.replies.ServeReply.{ServeReply}
use Rattle.link_pool.specs.Pool.{PoolView, with_place, unwaited}
use Rattle.link_pool.specs.PoolStep.{ServeStep, UnwaitStep, Serves as PoolServes, with_hold, one_more, link_of}
use Rattle.cancel_router.specs.declared.{decision.Route.Route, refusal.RouteRefusal.RouteRefusal}
use Rattle.node_core.specs.declared.refusal.CancelRefusal.{CancelRefusal}
use Rattle.node_core.specs.declared.exchange.Order.{Order}
use Rattle.node_core.specs.View.{NodeView}
use Rattle.node_core.specs.NodeStep.{LinksStep, Orders, CancelStep, route_of}
use Rattle.world.specs.declared.reply.Reply.{Reply}
use Rattle.world.specs.World.{World, Arrival, Connection, Issue, Taken, IsNode, IsOwner, IsServer}
use Rattle.world.specs.Changes.{and_then}
use Rattle.world.specs.CancelEvents.{IsInSlot, takes_key, IsTaken, IsConnection, IsHolder, new_forward, Makes, Arrives, Comes}
use Rattle.world.specs.SafeCancellation.{IsRightly}
use Rattle.world.specs.Facts.{process_of, processes_of, IsProcess, IsServed, Facts, AreWhole}
use Rattle.world.proofs.Lists.{added_last, before_end, read_map}
use Rattle.world.proofs.Holding.{link_fits, link_place}
use Rattle.world.proofs.LinkSteps.{with_links}
use Rattle.world.proofs.GivingBack.{same_nodes}
use Rattle.world.proofs.Waiting.{unwaited_waits, wait_kept}
use Rattle.world.proofs.Keys.{IsHome, TakesHome, takes_home}
use Rattle.world.proofs.Arriving.{slot_owner, arrived_kept, taken_kept, IsNewForward, forwarded_kept}
use Rattle.world.proofs.Serving.{IsNewConnection, served_kept, claim_holder, holder_is}

-- what each order tells of the way that was found
pub orders_serve : (slot : ℕ) (way : Route) (ticket : TicketRecord) (database : ℕ) (key : List ℕ) (v n : NodeView)
    → Orders slot way (Order.Serve ticket database key) v n
    → IsHome way × LinksStep (ServeStep slot (ServeReply.Serve ticket database key)) v n
orders_serve slot (Route.Send link) ticket database key v n h = (tt, h.1)
orders_serve slot (Route.Forward peer k) ticket database key v n h = absurd h
orders_serve slot (Route.Unwait waiting) ticket database key v n h = absurd h
orders_serve slot (Route.Refused reason) ticket database key v n h = absurd h

pub orders_unwait : (slot : ℕ) (way : Route) (told : ℕ) (v n : NodeView) → Orders slot way (Order.Unwait told) v n
    → IsHome way × ((waiting : ℕ) × LinksStep (UnwaitStep waiting) v n)
orders_unwait slot (Route.Unwait waiting) told v n h = (tt, (waiting, h.1))
orders_unwait slot (Route.Send link) told v n h = absurd h
orders_unwait slot (Route.Forward peer k) told v n h = absurd h
orders_unwait slot (Route.Refused reason) told v n h = absurd h

pub orders_forward : (slot : ℕ) (way : Route) (to : ℕ) (packet : Packet) (v n : NodeView)
    → Orders slot way (Order.Forward to packet) v n → n ≡ v
orders_forward slot (Route.Forward peer k) to packet v n h = h.2
orders_forward slot (Route.Send link) to packet v n h = absurd h
orders_forward slot (Route.Unwait waiting) to packet v n h = absurd h
orders_forward slot (Route.Refused reason) to packet v n h = absurd h

-- a refusal by its route
refused_home : (r : RouteRefusal) (reason : CancelRefusal) → reason ≡ CancelRefusal.Route r
    → takes_key (Order.Refused reason) ≡ true → IsHome (Route.Refused r)
refused_home r reason same takes =
    by_route r (ap (λ (x : CancelRefusal). takes_key (Order.Refused x)) (sym same) ∙ takes)
  where
    by_route : (r : RouteRefusal) → takes_key (Order.Refused (CancelRefusal.Route r)) ≡ true → IsHome (Route.Refused r)
    by_route RouteRefusal.NoLink h = tt
    by_route RouteRefusal.Spent h = absurd (cc)
    by_route RouteRefusal.Unknown h = absurd (cc)
    by_route RouteRefusal.NoPeer h = absurd (cc)

same_links : (v n : NodeView) → n.links ≡ v.links → n ≡ with_links v n.links → n ≡ v
same_links v n links node = node ∙ ap (with_links v) links

pub orders_refused : (slot : ℕ) (way : Route) (reason : CancelRefusal) (v n : NodeView)
    → Orders slot way (Order.Refused reason) v n
    → (n ≡ v) × (takes_key (Order.Refused reason) ≡ true → IsHome way)
orders_refused slot (Route.Refused r) reason v n h = (h.1, λ takes. refused_home r reason h.0 takes)
orders_refused slot (Route.Send link) CancelRefusal.Busy v n h = (same_links v n h.0.1 h.1, λ takes. tt)
orders_refused slot (Route.Send link) CancelRefusal.Exhausted v n h = (same_links v n h.0.2 h.1, λ takes. tt)
orders_refused slot (Route.Send link) (CancelRefusal.Route r) v n h = absurd h
orders_refused slot (Route.Forward peer k) reason v n h = absurd h
orders_refused slot (Route.Unwait waiting) reason v n h = absurd h

-- a key was taken rightly
rightly : (w : World) → Facts w → AreWhole w.nodes → (q label node : ℕ) (v : NodeView) (key : AnyKey)
    → IsNode w.nodes node q v → IsAnyKey key → TakesHome v key
    → IsInSlot w node (slot_of key) label
    → IsRightly w.issues (record { node = node; key = key; label = label })
rightly w f whole q label node v key is is_key home in_slot = record {
  key = is_key;
  node = sym is.named ∙ sym home.own;
  owner = (slot_owner w f whole q label v node key is is_key home in_slot).owner;
}

-- the keys that were taken, after an order
taken_by : (w x : World) (t : Bool) (q node : ℕ) (v : NodeView) (key : AnyKey) (taken : List Taken)
    → Facts w → AreWhole w.nodes → IsNode w.nodes node q v → IsAnyKey key
    → (t ≡ true → IsHome (route_of v key)) → IsTaken t w node key taken
    → x.issues ≡ w.issues → x.taken ≡ w.taken → Facts x → Facts (record x { taken = taken })
taken_by w x false q node v key taken f whole is is_key home is_taken issues same g =
    subst (λ (ts : List Taken). Facts (record x { taken = ts })) (same ∙ sym is_taken) g
taken_by w x true q node v key taken f whole is is_key home is_taken issues same g =
    let t : Taken = record { node = node; key = key; label = is_taken.0 } in
    let right = rightly w f whole q is_taken.0 node v key is is_key (takes_home v key (home refl)) is_taken.1 in
    subst (λ (ts : List Taken). Facts (record x { taken = ts }))
    (ap (λ (ts : List Taken). and_then ts t) same ∙ sym is_taken.2)
    (taken_kept x t (subst (λ (is : List Issue). IsRightly is t) (sym issues) right) g)

-- the world after an arrival
after_is : (new made m : World) (nodes ns : List NodeView) (taken : List Taken) (arrivals : List Arrival)
    → new ≡ record made { nodes = nodes; taken = taken; arrivals = arrivals } → made ≡ m → nodes ≡ ns
    → new ≡ record m { nodes = ns; taken = taken; arrivals = arrivals }
after_is new made m nodes ns taken arrivals after is all =
    after ∙ ap (λ (z : World). record z { nodes = nodes; taken = taken; arrivals = arrivals }) is
    ∙ ap (λ (z : List NodeView). record m { nodes = z; taken = taken; arrivals = arrivals }) all

same_node : (w : World) (nodes : List NodeView) (q : ℕ) (v n : NodeView) → slice_get w.nodes q ≡ Some v
    → nodes ≡ set w.nodes q n → n ≡ v → nodes ≡ w.nodes
same_node w nodes q v n there all same = all ∙ ap (set w.nodes q) same ∙ same_nodes w.nodes q v there

-- each arrival is before the next one
before_next : (w : World) (i : ℕ) (a : Arrival) (n : ℕ) → slice_get w.arrivals i ≡ Some a
    → n ≡ length w.arrivals → i ≢ n
before_next w i a n there next same =
    let below = before_end w.arrivals i a there in absurd (omega (arith, below, next, same))

-- what is known of a connection for this order
connection_of : (w : World) → Facts w → AreWhole w.nodes → (q label node database : ℕ) (key : AnyKey) (server_key : List ℕ) (v : NodeView) (u : PoolView)
    (ticket : TicketRecord) (c : Connection) (a : Arrival)
    → IsNode w.nodes node q v → IsAnyKey key → TakesHome v key
    → IsInSlot w node (slot_of key) label
    → (serves : PoolServes (slot_of key) ticket database server_key v.links u)
    → IsConnection w node database server_key ticket c
    → a.node ≡ node → a.key ≡ key → a.order ≡ Order.Serve ticket database server_key
    → IsNewConnection (record w { arrivals = and_then w.arrivals a }) q c.backend v serves.at serves.link c
connection_of w f whole q label node database key server_key v u ticket c a is is_key home in_slot serves conn a_node a_key a_order =
    let at = serves.at in
    let link = serves.link in
    let there = serves.has.1 in
    let h = f.links q v is.there at link there in
    let fits = link_fits v.links at link (whole q v is.there).places there in
    let backend : c.backend ≡ conn.place = ap (λ (x : Connection). x.backend) conn.is in
    let database_is : link.details.at.database ≡ database =
    ap (λ (k : LinkPlace). k.database) (link_place v.links at link (whole q v is.there).places there) ∙ sym serves.of.0 in
    let server : h.1.process.server ≡ conn.server =
    f.servers.one node database h.1.process.server conn.server
    (subst (λ (d : ℕ). IsServer w.group node d h.1.process.server) database_is
    (subst (λ (m : ℕ). IsServer w.group m link.details.at.database h.1.process.server) is.named h.1.server)) conn.at in
    let key_is : h.1.process.key ≡ server_key = h.1.key ∙ sym serves.of.1 in
    let at_b = read_map process_of w.backends conn.place conn.backend conn.runs.there in
    let same : h.0 ≡ conn.place = f.processes.keys h.0 conn.place h.1.process (process_of conn.backend)
    h.1.there at_b (server ∙ sym conn.runs.of) (key_is ∙ sym conn.runs.by) in
    let process : IsProcess w.group (processes_of w) v.me link c.backend = record {
      process = h.1.process;
      there = ap (slice_get (processes_of w)) (backend ∙ sym same) ∙ h.1.there;
      of = h.1.of;
      key = h.1.key;
      server = h.1.server;
    } in
    let of = slot_owner w f whole q label v node key is is_key home in_slot in
    let has = claim_holder w f whole q label node c.backend v key at link is of serves.has process in
    let incarnation : ticket.incarnation ≡ v.links.incarnation =
    ap (λ (t : TicketRecord). t.incarnation) serves.says in
    let held : IsHolder w node v.links.incarnation c.backend conn.holder =
    subst (λ (b : ℕ). IsHolder w node v.links.incarnation b conn.holder) (sym backend)
    (subst (λ (m : ℕ). IsHolder w node m conn.place conn.holder) incarnation conn.held) in
    let holder : c.holder ≡ Some label = ap (λ (x : Connection). x.holder) conn.is
    ∙ holder_is w f node v.links.incarnation c.backend label conn.holder has held in
    let arrival : c.arrival ≡ length w.arrivals = ap (λ (x : Connection). x.arrival) conn.is in
    let ticket_is : c.ticket ≡ ticket = ap (λ (x : Connection). x.ticket) conn.is in
    let came : slice_get (and_then w.arrivals a) c.arrival ≡ Some a =
    ap (slice_get (and_then w.arrivals a)) arrival ∙ added_last w.arrivals a in
    record {
      node = is.there;
      there = there;
      process = process;
      backend = refl;
      server = server ∙ ap (λ (x : Connection). x.server) (sym conn.is);
      key = key_is ∙ ap (λ (x : Connection). x.key) (sym conn.is);
      link_is = fits.says ∙ ap link_of (sym (ticket_is ∙ serves.says));
      peer = ap (λ (t : TicketRecord). t.peer) (ticket_is ∙ serves.says) ∙ (whole q v is.there).node.own.1;
      number = ap (λ (t : TicketRecord). t.number) (ticket_is ∙ serves.says);
      acted = ap (λ (x : Connection). x.acted) conn.is;
      ended = ap (λ (x : Connection). x.ended) conn.is;
      report = ap (λ (x : Connection). x.report) conn.is;
      holder = has.last ∙ ap Some (sym holder);
      served = (
        a,
        came,
        subst (IsServed c.ticket c.key) (sym a_order)
            (sym ticket_is, ap (λ (x : Connection). x.key) (sym conn.is)),
      );
      apart = λ i x at_i. let s = (f.connections.each i x at_i).served in
          before_next w x.arrival s.0 c.arrival s.1 arrival;
      earned = record {
        came = a;
        there = came;
        hops = subst (λ (k : AnyKey). 1 ≤ (short_of k).hops) (sym a_key) home.hops;
        node = a_node ∙ sym is.named ∙ sym home.own ∙ ap peer_of (sym a_key);
        label = label;
        holder = holder;
        owner = subst (λ (k : AnyKey). IsOwner w.issues (any_identity_of k) label) (sym a_key) of.owner;
      };
    }

-- a request comes to a node
arrive_by : (w new made : World) (nodes : List NodeView) (taken : List Taken) (flight node q : ℕ) (v n : NodeView) (key : AnyKey) (given : Order TicketRecord) (said : Reply)
    → Facts w → AreWhole w.nodes → IsAnyKey key → IsNode w.nodes node q v
    → CancelStep key given v n → nodes ≡ set w.nodes q n
    → IsTaken (takes_key given) w node key taken → Makes node given said w made
    → new ≡ record made { nodes = nodes; taken = taken; arrivals = and_then w.arrivals (record { flight = flight; node = node; key = key; order = given }) }
    → Facts new
arrive_by w new made nodes taken flight node q v n key (Order.Refused reason) said f whole is_key is step all is_taken makes after =
    let a : Arrival = record { flight = flight; node = node; key = key; order = Order.Refused reason } in
    let o = orders_refused (slot_of key) (route_of v key) reason v n step in
    subst Facts (sym (after_is new made w nodes w.nodes taken (and_then w.arrivals a) after makes.1
    (same_node w nodes q v n is.there all o.0)))
    (taken_by w (record w { arrivals = and_then w.arrivals a }) (takes_key (Order.Refused reason)) q node v key taken f whole is is_key
    o.1 is_taken refl refl (arrived_kept w a f))
arrive_by w new made nodes taken flight node q v n key (Order.Unwait slot) said f whole is_key is step all is_taken makes after =
    let a : Arrival = record { flight = flight; node = node; key = key; order = Order.Unwait slot } in
    let o = orders_unwait (slot_of key) (route_of v key) slot v n step in
    let w1 : World = record w { arrivals = and_then w.arrivals a } in
    let u = unwaited v.links o.1.0 in
    subst Facts (sym (after_is new made w nodes (set w.nodes q (with_links v u)) taken (and_then w.arrivals a) after makes.1
    (all ∙ ap (set w.nodes q) (o.1.1.1 ∙ ap (with_links v) o.1.1.0))))
    (taken_by w (record w1 { nodes = set w.nodes q (with_links v u) }) true q node v key taken f whole is is_key
    (λ e. o.0) is_taken refl refl
    (wait_kept w1 q v u is.there (unwaited_waits v.links o.1.0) (arrived_kept w a f)))
arrive_by w new made nodes taken flight node q v n key (Order.Forward to packet) said f whole is_key is step all is_taken makes after =
    let a : Arrival = record { flight = flight; node = node; key = key; order = Order.Forward to packet } in
    let w1 : World = record w { arrivals = and_then w.arrivals a } in
    let g = new_forward w in
    let fresh : IsNewForward w1 g = record {
      flight = refl;
      origin = (a, added_last w.arrivals a, tt);
      other = λ i h at_i. let o = (f.forwards.each i h at_i).origin in
          before_next w h.origin o.0 (length w.arrivals) o.1 refl;
      accepted = refl;
      ended = refl;
      report = refl;
    } in
    subst Facts (sym (after_is new made _ nodes w.nodes taken (and_then w.arrivals a) after makes.1
    (same_node w nodes q v n is.there all (orders_forward (slot_of key) (route_of v key) to packet v n step))))
    (taken_by w _ false q node v key taken f whole is is_key (λ e. absurd (differ e)) is_taken refl refl
    (forwarded_kept w1 (packet_bytes packet) g fresh (arrived_kept w a f)))
  where
    differ : false ≡ true → ⊥
    differ h = cc
arrive_by w new made nodes taken flight node q v n key (Order.Serve ticket database server_key) said f whole is_key is step all is_taken makes after =
    let a : Arrival = record { flight = flight; node = node; key = key; order = Order.Serve ticket database server_key } in
    let w1 : World = record w { arrivals = and_then w.arrivals a } in
    let o = orders_serve (slot_of key) (route_of v key) ticket database server_key v n step in
    let c = makes.0 in
    let serves = o.1.0 in
    let home = takes_home v key o.0 in
    let fresh = connection_of w f whole q is_taken.0 node database key server_key v n.links ticket c a is is_key home
    is_taken.1 serves makes.1 refl refl refl in
    let u : PoolView = record (with_place v.links serves.at (Place.Link (with_hold serves.link (one_more serves.link.hold))))
    { next_ticket = v.links.next_ticket + 1 } in
    subst Facts (sym (after_is new made _ nodes (set w.nodes q (with_links v u)) taken (and_then w.arrivals a) after makes.3
    (all ∙ ap (set w.nodes q) (o.1.1 ∙ ap (with_links v) serves.after))))
    (taken_by w _ true q node v key taken f whole is is_key (λ e. o.0) is_taken refl refl
    (served_kept w1 q c.backend v serves.at serves.link c whole fresh (arrived_kept w a f)))

pub arrives_kept : (old new : World) (flight node : ℕ) (key : AnyKey) (said : Reply) → AreWhole old.nodes
    → IsAnyKey key → Arrives flight node key said old new → Facts old → Facts new
arrives_kept old new flight node key said whole is_key x f =
    arrive_by old new x.made x.nodes x.taken flight node x.step.place x.step.view x.step.next key x.given said
    f whole is_key x.step.is x.step.step x.step.after x.taken_is x.makes x.after

-- the bytes of a flight come to a node
pub deliver_kept : (old new : World) (flight node : ℕ) (said : Reply) → AreWhole old.nodes
    → Comes flight node said old new → Facts old → Facts new
deliver_kept old new flight node said whole (Comes.Request bytes key there request arrives) f =
    arrives_kept old new flight node key said whole request.is.0 arrives f
deliver_kept old new flight node said whole (Comes.Other bytes there other told same) f =
    subst Facts (sym same) f
