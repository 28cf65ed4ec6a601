-- What a node's order for a request makes of the world in which the request came.
use Rattle.std.proofs.Common.{◌≡◌, ◌≢◌, ℕ, ◌<◌, Bool, true, false, List, [], ◌∷◌, Option, Some, None, IfSome, IfNone, Result, Ok, Err, ⊎_elim, length, get_or, refl, ap, sym, subst, ◌∙◌, arith}
use Rattle.std.specs.List.{slice_get}
use Rattle.std.specs.Option.{is_some}
use Rattle.std.proofs.lemmas.Option.{same_Some, none-some, slice_get_read}
use Rattle.pg_ids.specs.AnyKey.{IsAnyKey, any_identity_of, slot_of}
use Rattle.pg_ids.specs.declared.any_key.AnyKey.{AnyKey}
use Rattle.startup.specs.Kinds.{Seen, none_seen}
use Rattle.startup.specs.CancelPacket.{packet_bytes}
use Rattle.startup.specs.FirstPacket.{Outcome, Cancel as CancelPacket, IsOutcome, Tells}
use Rattle.startup.specs.declared.{first.First.First, packet.Packet.Packet, startup_error.StartupError.StartupError}
use Rattle.lease.specs.declared.ticket.TicketRecord.{TicketRecord}
use Rattle.cancel_router.specs.declared.decision.Route.{Route}
use Rattle.node_core.specs.declared.refusal.CancelRefusal.{CancelRefusal}
use Rattle.node_core.specs.declared.exchange.{Order.Order, Exchange.Exchange}
use Rattle.node_core.specs.View.{NodeView}
use Rattle.node_core.specs.NodeStep.{Orders, route_of}
use Rattle.world.specs.declared.reply.Reply.{Reply}
use Rattle.world.specs.declared.state.arrivals.Target.{Target}
use Rattle.world.specs.Table.{IsFound}
use Rattle.world.specs.World.{World, Arrival, Backend, Connection, Forward, Taken, IsBackend, IsForward, IsNode, IsOwner, IsServer}
use Rattle.world.specs.Changes.{and_then, Steps, with_forward}
use Rattle.world.specs.Admissible.{MayAccept}
use Rattle.world.specs.CancelEvents.{IsInSlot, IsOther, takes_key, IsTaken, IsConnection, new_forward, Makes, Arrives, Comes, bound_by, Accepts}
use Rattle.world.specs.Facts.{OneServer, Facts, AreWhole}
use Rattle.world.proofs.Lists.{before_end, kept_behind}
use Rattle.world.proofs.Keys.{IsHome, TakesHome, takes_home}
use Rattle.world.proofs.Arriving.{slot_owner}
use Rattle.world.proofs.Delivering.{orders_serve, orders_unwait, orders_refused}
use Rattle.world.proofs.Accepting.{arrival_adds, bound_is, same_forward}
use Rattle.world.proofs.Possible.{named_client, order_connection}

-- a node gave this order for a request with this key
pub record IsOrdered (w : World) (node : ℕ) (key : AnyKey) (order : Order TicketRecord) (nodes : List NodeView) : Type 0 where
  pub facts : Facts w
  pub whole : AreWhole w.nodes
  pub is_key : IsAnyKey key
  pub step : Steps node (Exchange.Cancel key order) w.nodes nodes

-- this is the client to whom a key with this identity was given, if there is one
abbrev pub FindsOwner : World → AnyKey → Option ℕ → Type 0
FindsOwner w key owner = (label : ℕ) → IsOwner w.issues (any_identity_of key) label → owner ≡ Some label

-- the order takes the key of a client that is at the node
order_home : (slot : ℕ) (way : Route) (order : Order TicketRecord) (v n : NodeView) → Orders slot way order v n
    → takes_key order ≡ true → IsHome way
order_home slot way (Order.Serve ticket database key) v n h takes =
    (orders_serve slot way ticket database key v n h).0
order_home slot way (Order.Forward to packet) v n h takes = absurd (cc)
order_home slot way (Order.Unwait told) v n h takes = (orders_unwait slot way told v n h).0
order_home slot way (Order.Refused reason) v n h takes = (orders_refused slot way reason v n h).1 takes

-- the client whose key an order took: it is in the key's slot, and the key was given to it
pub record IsTakenFor (w : World) (node : ℕ) (key : AnyKey) (v : NodeView) (label : ℕ) : Type 0 where
  pub home : TakesHome v key
  pub in_slot : IsInSlot w node (slot_of key) label
  pub owner : IsOwner w.issues (any_identity_of key) label

taken_for : (w : World) (node : ℕ) (key : AnyKey) (order : Order TicketRecord) (nodes : List NodeView)
    → (o : IsOrdered w node key order nodes) → takes_key order ≡ true
    → (label : ℕ) × IsTakenFor w node key o.step.view label
taken_for w node key order nodes o takes =
    let v = o.step.view in
    let q = o.step.place in
    let home = takes_home v key
    (order_home (slot_of key) (route_of v key) order v o.step.next o.step.step takes) in
    let named = named_client w o.facts o.whole q node v key o.step.is home in (
      named.0,
      record {
        home = home;
        in_slot = named.1;
        owner = (slot_owner w o.facts o.whole q named.0 v node key o.step.is o.is_key home named.1).owner;
      },
    )

-- the keys that were taken, once an order was noted
pub order_taken : (w : World) (node : ℕ) (key : AnyKey) (order : Order TicketRecord) (nodes : List NodeView)
    (owner : Option ℕ) (taken : List Taken)
    → IsOrdered w node key order nodes → FindsOwner w key owner
    → ((label : ℕ) → takes_key order ≡ true → owner ≡ Some label
    → taken ≡ and_then w.taken (record { node = node; key = key; label = label }))
    → (takes_key order ≡ false → taken ≡ w.taken)
    → IsTaken (takes_key order) w node key taken
order_taken w node key order nodes owner taken o finds one same = by_test (takes_key order) refl
  where
    by_test : (t : Bool) → takes_key order ≡ t → IsTaken t w node key taken
    by_test true e =
        let x = taken_for w node key order nodes o e in
        (x.0, x.1.in_slot, one x.0 e (finds x.0 x.1.owner))
    by_test false e = same e

-- the only server process with this key, of the only server of the database
abbrev pub FindsTarget : World → ℕ → ℕ → List ℕ → Option Target → Type 0
FindsTarget w node database server_key found =
    (server place : ℕ) (backend : Backend) → OneServer w.group → IsServer w.group node database server
    → IsBackend w.backends server server_key place backend
    → found ≡ Some (record { server = server; backend = place })

-- a new cancel connection to it
abbrev pub connection_to : Target → List ℕ → TicketRecord → Option ℕ → ℕ → Connection
connection_to target server_key ticket owner arrival = record {
  server = target.server;
  key = server_key;
  backend = target.backend;
  holder = owner;
  arrival = arrival;
  ticket = ticket;
  acted = false;
  ended = false;
  report = None;
}

-- what is found is the process of the order's connection
order_target : (w : World) (node : ℕ) (key : AnyKey) (order : Order TicketRecord) (nodes : List NodeView)
    (ticket : TicketRecord) (database : ℕ) (server_key : List ℕ) (owner : Option ℕ) (arrival : ℕ) (found : Option Target)
    → IsOrdered w node key order nodes → order ≡ Order.Serve ticket database server_key
    → FindsOwner w key owner → arrival ≡ length w.arrivals → FindsTarget w node database server_key found
    → (target : Target) × (found ≡ Some target)
    × IsConnection w node database server_key ticket (connection_to target server_key ticket owner arrival)
order_target w node key order nodes ticket database server_key owner arrival found o is finds next for =
    let v = o.step.view in
    let n = o.step.next in
    let x = taken_for w node key order nodes o (ap takes_key is) in
    let serves = orders_serve (slot_of key) (route_of v key) ticket database server_key v n
    (subst (λ (z : Order TicketRecord). Orders (slot_of key) (route_of v key) z v n) is o.step.step) in
    let made = order_connection w o.facts o.whole o.step.place x.0 node database v n.links key server_key ticket
    o.step.is o.is_key x.1.home x.1.in_slot serves.1.0 in
    let conn = made.1 in
    let target : Target = record { server = conn.server; backend = conn.place } in
    let holder : owner ≡ conn.holder =
    finds x.0 x.1.owner ∙ sym made.2 ∙ ap (λ (c : Connection). c.holder) conn.is in (
      target,
      for conn.server conn.place conn.backend o.facts.servers.one conn.at conn.runs,
      record {
        server = conn.server;
        place = conn.place;
        backend = conn.backend;
        holder = conn.holder;
        at = conn.at;
        runs = conn.runs;
        held = conn.held;
        is = ap (λ (h : Option ℕ). connection_to target server_key ticket h arrival) holder
            ∙ ap (connection_to target server_key ticket conn.holder) next;
      },
    )

-- so it is there
pub target_there : (w : World) (node : ℕ) (key : AnyKey) (order : Order TicketRecord) (nodes : List NodeView)
    (ticket : TicketRecord) (database : ℕ) (server_key : List ℕ) (owner : Option ℕ) (arrival : ℕ) (found : Option Target)
    → IsOrdered w node key order nodes → order ≡ Order.Serve ticket database server_key
    → FindsOwner w key owner → arrival ≡ length w.arrivals → FindsTarget w node database server_key found
    → found ≡ None → ⊥
target_there w node key order nodes ticket database server_key owner arrival found o is finds next for none =
    let x = order_target w node key order nodes ticket database server_key owner arrival found o is finds next for in
    none-some x.0 (sym none ∙ x.1)

-- no connection is for the next arrival
pub new_connection : (w : World) → Facts w → (arrival : ℕ) (rows : List Connection) → arrival ≡ length w.arrivals
    → rows ≡ w.connections → (place : ℕ) (other : Connection) → slice_get rows place ≡ Some other
    → other.arrival ≡ arrival → ⊥
new_connection w f arrival rows next same place other there is =
    let served = (f.connections.each place other
    (ap (λ (l : List Connection). slice_get l place) (sym same) ∙ there)).served in
    let below = before_end w.arrivals other.arrival served.0 served.1 in
    omega (arith, below, next, is)

pub new_origin : (w : World) → Facts w → (arrival : ℕ) (rows : List Forward) → arrival ≡ length w.arrivals
    → rows ≡ w.forwards → (place : ℕ) (other : Forward) → slice_get rows place ≡ Some other
    → other.origin ≡ arrival → ⊥
new_origin w f arrival rows next same place other there is =
    let origin = (f.forwards.each place other
    (ap (λ (l : List Forward). slice_get l place) (sym same) ∙ there)).origin in
    let below = before_end w.arrivals other.origin origin.0 origin.1 in
    omega (arith, below, next, is)

-- an order for a request was noted, with its arrival
pub record IsNoted (w now : World) (flight node : ℕ) (key : AnyKey) (order : Order TicketRecord) (nodes : List NodeView) (owner : Option ℕ) (arrival : ℕ) (taken : List Taken) (arrivals : List Arrival) : Type 0 where
  pub same : w ≡ now
  pub ordered : IsOrdered w node key order nodes
  pub finds : FindsOwner w key owner
  pub next : arrival ≡ length w.arrivals
  pub taken_is : IsTaken (takes_key order) w node key taken
  pub came : arrivals ≡ and_then w.arrivals (record { flight = flight; node = node; key = key; order = order })

-- so the request has come, once its order made all that it makes
module _ (w now : World) (flight node : ℕ) (key : AnyKey) (order : Order TicketRecord) (nodes : List NodeView) (owner : Option ℕ) (arrival : ℕ) (taken : List Taken) (arrivals : List Arrival) (noted : IsNoted w now flight node key order nodes owner arrival taken arrivals) (connections : List Connection) (forwards : List Forward) (flights : List (List ℕ)) (said : Reply) where
  arrives_by : (given : Order TicketRecord) → order ≡ given
      → Makes node given said w (record w { connections = connections; forwards = forwards; flights = flights })
      → Arrives flight node key said now (record w {
        nodes = nodes;
        taken = taken;
        arrivals = arrivals;
        connections = connections;
        forwards = forwards;
        flights = flights;
      })
  arrives_by given is makes = subst (λ (z : World). Arrives flight node key said z (record w {
    nodes = nodes;
    taken = taken;
    arrivals = arrivals;
    connections = connections;
    forwards = forwards;
    flights = flights;
  })) noted.same (record {
    nodes = nodes;
    given = order;
    taken = taken;
    step = noted.ordered.step;
    taken_is = noted.taken_is;
    made = record w { connections = connections; forwards = forwards; flights = flights };
    makes = subst (λ (z : Order TicketRecord). Makes node z said w (record w { connections = connections; forwards = forwards; flights = flights })) (sym is) makes;
    after = ap (λ (l : List Arrival). record w {
      nodes = nodes;
      taken = taken;
      arrivals = l;
      connections = connections;
      forwards = forwards;
      flights = flights;
    }) noted.came;
  })

  made_is : (cs : List Connection) (fs : List Forward) (bs : List (List ℕ))
      → connections ≡ cs → forwards ≡ fs → flights ≡ bs
      → record w { connections = connections; forwards = forwards; flights = flights }
      ≡ record w { connections = cs; forwards = fs; flights = bs }
  made_is cs fs bs is_c is_f is_b =
      ap (λ (l : List Connection). record w { connections = l; forwards = forwards; flights = flights }) is_c
      ∙ ap (λ (l : List Forward). record w { connections = cs; forwards = l; flights = flights }) is_f
      ∙ ap (λ (l : List (List ℕ)). record w { connections = cs; forwards = fs; flights = l }) is_b

  pub refused_comes : (reason : CancelRefusal) → order ≡ Order.Refused reason
      → said ≡ Reply.CancelRefused arrival reason
      → connections ≡ w.connections → forwards ≡ w.forwards → flights ≡ w.flights
      → Arrives flight node key said now (record w {
        nodes = nodes;
        taken = taken;
        arrivals = arrivals;
        connections = connections;
        forwards = forwards;
        flights = flights;
      })
  refused_comes reason is told is_c is_f is_b = arrives_by (Order.Refused reason) is
      (told ∙ ap (λ (n : ℕ). Reply.CancelRefused n reason) noted.next, made_is w.connections w.forwards w.flights is_c is_f is_b)

  pub unwait_comes : (slot : ℕ) → order ≡ Order.Unwait slot → said ≡ Reply.Unwait arrival
      → connections ≡ w.connections → forwards ≡ w.forwards → flights ≡ w.flights
      → Arrives flight node key said now (record w {
        nodes = nodes;
        taken = taken;
        arrivals = arrivals;
        connections = connections;
        forwards = forwards;
        flights = flights;
      })
  unwait_comes slot is told is_c is_f is_b = arrives_by (Order.Unwait slot) is
      (told ∙ ap Reply.Unwait noted.next, made_is w.connections w.forwards w.flights is_c is_f is_b)

  pub serve_comes : (ticket : TicketRecord) (database : ℕ) (server_key : List ℕ) (found : Option Target) (target : Target)
      → order ≡ Order.Serve ticket database server_key
      → FindsTarget w node database server_key found → found ≡ Some target
      → said ≡ Reply.Serve arrival (length w.connections)
      → connections ≡ and_then w.connections (connection_to target server_key ticket owner arrival)
      → forwards ≡ w.forwards → flights ≡ w.flights
      → Arrives flight node key said now (record w {
        nodes = nodes;
        taken = taken;
        arrivals = arrivals;
        connections = connections;
        forwards = forwards;
        flights = flights;
      })
  serve_comes ticket database server_key found target is for there told is_c is_f is_b =
      let x = order_target w node key order nodes ticket database server_key owner arrival found
      noted.ordered is noted.finds noted.next for in
      let c = connection_to target server_key ticket owner arrival in
      arrives_by (Order.Serve ticket database server_key) is (
        c,
        subst (λ (t : Target). IsConnection w node database server_key ticket (connection_to t server_key ticket owner arrival))
            (same_Some x.0 target (sym x.1 ∙ there)) x.2,
        told ∙ ap (λ (n : ℕ). Reply.Serve n (length w.connections)) noted.next,
        made_is (and_then w.connections c) w.forwards w.flights is_c is_f is_b,
      )

  pub forward_comes : (to : ℕ) (packet : Packet) (flight_no : ℕ) → order ≡ Order.Forward to packet
      → flight_no ≡ length w.flights → said ≡ Reply.Forward arrival flight_no
      → connections ≡ w.connections
      → forwards ≡ and_then w.forwards (record { flight = flight_no; origin = arrival; accepted = None; ended = false; report = None })
      → flights ≡ and_then w.flights (packet_bytes packet)
      → Arrives flight node key said now (record w {
        nodes = nodes;
        taken = taken;
        arrivals = arrivals;
        connections = connections;
        forwards = forwards;
        flights = flights;
      })
  forward_comes to packet flight_no is number told is_c is_f is_b = arrives_by (Order.Forward to packet) is (
    told ∙ ap (λ (n : ℕ). Reply.Forward n flight_no) noted.next ∙ ap (Reply.Forward (length w.arrivals)) number,
    made_is w.connections (and_then w.forwards (new_forward w)) (and_then w.flights (packet_bytes packet)) is_c
        (is_f ∙ ap (and_then w.forwards) (forward_is flight_no (length w.flights) arrival (length w.arrivals) number noted.next)) is_b,
  )
    where
      forward_is : (a b m n : ℕ) → a ≡ b → m ≡ n
          → ◌≡◌ {A = Forward} (record { flight = a; origin = m; accepted = None; ended = false; report = None })
          (record { flight = b; origin = n; accepted = None; ended = false; report = None })
      forward_is a b m n p q = cc

-- what was read as something else is no request
pub no_request : (bytes : List ℕ) (answer : Result First StartupError)
    → ((key : AnyKey) → answer ≡ Ok (First.Cancel key) → ⊥)
    → ((outcome : Outcome) → IsOutcome none_seen bytes true outcome → Tells answer outcome) → IsOther bytes
no_request bytes answer none only key request =
    by_answer answer none (only (CancelPacket request.spelled) request.outcome)
  where
    by_answer : (answer : Result First StartupError) → ((key : AnyKey) → answer ≡ Ok (First.Cancel key) → ⊥)
        → Tells answer (CancelPacket request.spelled) → ⊥
    by_answer (Ok (First.Cancel key)) none told = none key refl
    by_answer (Ok (First.Startup kind user database used)) none told = absurd (cc)
    by_answer (Ok First.Ssl) none told = absurd (cc)
    by_answer (Ok First.Gss) none told = absurd (cc)
    by_answer (Ok First.More) none told = absurd (cc)
    by_answer (Err error) none told = ⊎_elim (λ same. absurd (cc)) (λ wanting. absurd wanting.0) told

-- so no key was found in it
pub no_key : (bytes : List ℕ) (answer : First) (key : Option AnyKey)
    → IfNone key ((k : AnyKey) → answer ≢ First.Cancel k)
    → ((outcome : Outcome) → IsOutcome none_seen bytes true outcome → Tells (Ok answer) outcome)
    → IfNone key (IsOther bytes)
no_key bytes answer None none only =
    no_request bytes (Ok answer) (λ k same. none k (cc)) only
no_key bytes answer (Some key) none only = tt

-- the outcome of these bytes for a connection that has seen nothing
pub reads_from : (seen : Seen) (read bytes : List ℕ) (answer : Result First StartupError)
    → seen ≡ none_seen → read ≡ bytes
    → ((outcome : Outcome) → IsOutcome seen read true outcome → Tells answer outcome)
    → (outcome : Outcome) → IsOutcome none_seen bytes true outcome → Tells answer outcome
reads_from seen read bytes answer new same only outcome is =
    only outcome (subst (λ (s : Seen). IsOutcome s read true outcome) (sym new)
    (subst (λ (b : List ℕ). IsOutcome none_seen b true outcome) (sym same) is))

-- a forward connection stands where it stood, once the bytes came
forward_still : (old new : World) (flight node k : ℕ) (said : Reply) (x : Forward) → slice_get old.forwards k ≡ Some x
    → Comes flight node said old new → slice_get new.forwards k ≡ Some x
forward_still old new flight node k said x there (Comes.Request bytes key has request arrives) = ⊎_elim
    (λ e. ap (λ (fs : List Forward). slice_get fs k) e ∙ there)
    (λ e. ap (λ (fs : List Forward). slice_get fs k) e ∙ kept_behind old.forwards (new_forward old ∷ []) k x there)
    (arrival_adds old new flight node key said arrives).forwards
forward_still old new flight node k said x there (Comes.Other bytes has other told is) =
    ap (λ (w : World). slice_get w.forwards k) is ∙ there

-- so one with its flight and origin may be put there
pub forward_keys : (old new : World) (flight node k : ℕ) (said : Reply) (x y : Forward) (rows : List Forward) → slice_get old.forwards k ≡ Some x
    → Comes flight node said old new → rows ≡ new.forwards → (y.flight ≡ x.flight) × (y.origin ≡ x.origin)
    → IsFound (λ (f : Forward). f.flight) rows k y.flight × IsFound (λ (f : Forward). f.origin) rows k y.origin
forward_keys old new flight node k said x y rows there comes same is =
    let still = ap (λ (l : List Forward). slice_get l k) same ∙ forward_still old new flight node k said x there comes in
    (record { row = x; there = still; of = sym is.0 }, record { row = x; there = still; of = sym is.1 })

-- a request was accepted
pub accepts_request : (old delivered new : World) (flight node k : ℕ) (said : Reply) (x y : Forward)
    → IsForward old.forwards flight k x → Comes flight node said old delivered → said ≢ Reply.NoCancel
    → y ≡ record x { accepted = Some (length old.arrivals) } → new ≡ with_forward k y delivered
    → Accepts flight node said old new
accepts_request old delivered new flight node k said x y is comes apart bound after = record {
  place = k;
  forward = x;
  is = is;
  delivered = delivered;
  comes = comes;
  after = after ∙ ap (λ (z : Forward). with_forward k z delivered) (bound ∙ sym (bound_is said old x apart));
}

-- something else came
pub accepts_other : (old delivered new : World) (flight node k : ℕ) (said : Reply) (x : Forward)
    → IsForward old.forwards flight k x → Comes flight node said old delivered → said ≡ Reply.NoCancel
    → new ≡ delivered → Accepts flight node said old new
accepts_other old delivered new flight node k said x is comes told after = record {
  place = k;
  forward = x;
  is = is;
  delivered = delivered;
  comes = comes;
  after = after
      ∙ ap (λ (l : List Forward). let w : World = record delivered { forwards = l } in w)
      (sym (same_forward delivered.forwards k x (forward_still old delivered flight node k said x is.there comes)))
      ∙ ap (λ (s : Reply). with_forward k (bound_by s old x) delivered) (sym told);
}

-- the bytes that were read are the flight's
pub bytes_there : (flights xs ys : List (List ℕ)) (i flight : ℕ) (bytes : List ℕ) → xs ≡ ys → ys ≡ flights
    → i ≡ flight → flight < length flights → bytes ≡ get_or xs i bytes → slice_get flights flight ≡ Some bytes
bytes_there flights xs ys i flight bytes same is at within read =
    slice_get_read flights (length flights) flight bytes refl within
    (read ∙ ap (λ (l : List (List ℕ)). get_or l i bytes) (same ∙ is) ∙ ap (λ (n : ℕ). get_or flights n bytes) at)

-- whether a reply is that bytes are no request
abbrev is_no_cancel : Reply → Bool
is_no_cancel Reply.NoCancel = true
is_no_cancel said = false

-- a reply that is no other is that
pub no_cancel : (said : Reply) → (said ≢ Reply.NoCancel → false ≡ true) → said ≡ Reply.NoCancel
no_cancel Reply.NoCancel apart = refl
no_cancel said apart = absurd (differ (apart (λ e. differ (ap is_no_cancel e))))
  where
    differ : false ≡ true → ⊥
    differ h = cc

-- where there is a node with this number, it was found
pub node_found : {X : Type 0} (view : X → NodeView) (o : Option X) (nodes all : List NodeView) (node : ℕ) → is_some o ≡ true
    → nodes ≡ all → IfSome o (λ core. (place : ℕ) × IsNode nodes node place (view core))
    → (place : ℕ) × (v : NodeView) × IsNode all node place v
node_found view None nodes all node some same found = absurd (cc)
node_found view (Some core) nodes all node some same found =
    (found.0, view core, subst (λ (ns : List NodeView). IsNode ns node found.0 (view core)) same found.1)

-- a forward connection that is free yet may be accepted
pub may_accept : (w : World) (flight place : ℕ) (x : Forward) → IsForward w.forwards flight place x
    → false ≡ is_some x.accepted → false ≡ is_some x.report → MayAccept w flight
may_accept w flight place x is accepted reported = record {
  place = place;
  forward = x;
  is = is;
  new = nothing x.accepted accepted;
  unreported = nothing x.report reported;
}
  where
    nothing : {X : Type 0} (o : Option X) → false ≡ is_some o → o ≡ None
    nothing None h = refl
    nothing (Some x) h = absurd (cc)

-- a server process by the numbers of its server and its own
pub same_target : (s t a b : ℕ) → s ≡ t → a ≡ b
    → ◌≡◌ {A = Option Target} (Some (record { server = t; backend = a })) (Some (record { server = s; backend = b }))
same_target s t a b p q = cc
