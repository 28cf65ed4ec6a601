-- A cancel connection comes further on its way.
use Rattle.std.proofs.Common.{◌≡◌, ℕ, zero, suc, ◌<◌, ◌≤◌, ⊎_elim, true, false, List, [], ◌∷◌, Option, Some, length, refl, ap, sym, subst, ◌∙◌, arith}
use Rattle.std.proofs.Math.ListN.{set}
use Rattle.std.specs.List.{slice_get}
use Rattle.std.proofs.lemmas.Option.{same_Some}
use Rattle.std.proofs.lemmas.Bool.{cases_eq}
use Rattle.lease.specs.declared.ticket.TicketRecord.{TicketRecord}
use Rattle.link_pool.specs.PoolStep.{link_of}
use Rattle.node_core.specs.View.{NodeView}
use Rattle.ini_config.specs.Node.{NodeSettings}
use Rattle.world.specs.World.{Server, IsServer, Arrival, Connection, Forward, Issue, Report, IsNode}
use Rattle.world.specs.SafeCancellation.{IsEarned}
use Rattle.world.specs.Facts.{AreServers, Process, Face, is_open_for, open_for, IsServed, ConnectionStands, AreConnections, AreForwards, NumbersLeft}
use Rattle.world.proofs.Lists.{set_here, set_there, set_cases}
use Rattle.world.proofs.Settling.{GoesOn, settled_still}

-- what a connection was asked for stays; who acted on it, ended it, or reported it clean, did so in
-- this order
pub record Advances (c d : Connection) : Type 0 where
  pub server : d.server ≡ c.server
  pub key : d.key ≡ c.key
  pub backend : d.backend ≡ c.backend
  pub holder : d.holder ≡ c.holder
  pub arrival : d.arrival ≡ c.arrival
  pub ticket : d.ticket ≡ c.ticket
  pub waits : d.acted ≡ false → c.acted ≡ false
  pub ending : c.ended ≡ true → d.ended ≡ true
  pub acted : d.ended ≡ true → d.acted ≡ true
  pub clean : d.report ≡ Some Report.Clean → d.ended ≡ true

-- what stands still
stays_as : {arrivals : List Arrival} {processes : List Process} {lasts : List (Option ℕ)}
    (c : Connection) → ConnectionStands arrivals processes lasts c → Advances c c
stays_as c h = record {
  server = refl;
  key = refl;
  backend = refl;
  holder = refl;
  arrival = refl;
  ticket = refl;
  waits = λ e. e;
  ending = λ e. e;
  acted = h.acted;
  clean = h.clean;
}

-- one of a list advances
pub record OneAdvances (was : List Connection) (k : ℕ) (c d : Connection) : Type 0 where
  pub there : slice_get was k ≡ Some c
  pub step : Advances c d

module _ (arrivals : List Arrival) (processes : List Process) (lasts : List (Option ℕ)) (was : List Connection) (k : ℕ) (c d : Connection)
    (old : AreConnections arrivals processes lasts was) (one : OneAdvances was k c d) where
  -- each connection was there before
  pub came_from : (i : ℕ) (x : Connection) → slice_get (set was k d) i ≡ Some x
      → (y : Connection) × (slice_get was i ≡ Some y) × Advances y x
  came_from i x there = ⊎_elim
      (λ same. (x, same.1, stays_as x (old.each i x same.1)))
      (λ new. (c, ap (slice_get was) new.0 ∙ one.there, subst (Advances c) (sym new.1) one.step))
      (set_cases was k i x d there)

  -- and each is there still
  pub goes_to : (i : ℕ) (y : Connection) → slice_get was i ≡ Some y
      → (x : Connection) × (slice_get (set was k d) i ≡ Some x) × Advances y x
  goes_to i y there = ⊎_elim
      (λ same. let is : y ≡ c =
      same_Some y c (sym there ∙ ap (slice_get was) same ∙ one.there) in (
        d,
        ap (slice_get (set was k d)) same ∙ set_here was k c d one.there,
        subst (λ (z : Connection). Advances z d) (sym is) one.step,
      ))
      (λ apart. (y, set_there was k i d apart ∙ there, stays_as y (old.each i y there)))
      (cases_eq i k)

  pub goes_on : (led : List Forward) → GoesOn arrivals arrivals was (set was k d) led led
  goes_on led = record {
    arrivals = λ i a h. h;
    connections = λ i y there.
        let to = goes_to i y there in (to.0, to.1, to.2.arrival, to.2.ending);
    forwards = λ i f h. (f, h, refl, λ n e. e);
  }

  -- what is known of connections
  advanced : (x y : Connection) → Advances y x → ConnectionStands arrivals processes lasts y
      → ConnectionStands arrivals processes lasts x
  advanced x y step h = record {
    process = h.process;
    there = ap (slice_get processes) step.backend ∙ h.there;
    server = h.server ∙ sym step.server;
    key = h.key ∙ sym step.key;
    link = subst (λ (t : TicketRecord). h.process.link ≡ Some (link_of t)) (sym step.ticket) h.link;
    waits = λ e. ap (slice_get lasts) step.backend ∙ h.waits (step.waits e) ∙ ap Some (sym step.holder);
    acted = step.acted;
    clean = step.clean;
    served = (
      h.served.0,
      ap (slice_get arrivals) step.arrival ∙ h.served.1,
      subst (λ (t : TicketRecord). IsServed t x.key h.served.0.order) (sym step.ticket)
          (subst (λ (key : List ℕ). IsServed y.ticket key h.served.0.order) (sym step.key) h.served.2),
    );
  }

  pub connections_kept : AreConnections arrivals processes lasts (set was k d)
  connections_kept = record {
    each = λ i x there. let from = came_from i x there in
        advanced x from.0 from.2 (old.each i from.0 from.1);
    tickets = λ i j x y at_i at_j peer number.
        let a = came_from i x at_i in let b = came_from j y at_j in
        old.tickets i j a.0 b.0 a.1 b.1
        (ap (λ (t : TicketRecord). t.peer) (sym a.2.ticket) ∙ peer
        ∙ ap (λ (t : TicketRecord). t.peer) b.2.ticket)
        (ap (λ (t : TicketRecord). t.number) (sym a.2.ticket) ∙ number
        ∙ ap (λ (t : TicketRecord). t.number) b.2.ticket);
    apart = λ i j x y at_i at_j same.
        let a = came_from i x at_i in let b = came_from j y at_j in
        old.apart i j a.0 b.0 a.1 b.1 (sym a.2.arrival ∙ same ∙ b.2.arrival);
  }

  -- what is known of numbers
  pub numbers_kept : (nodes : List NodeView) (faces : List Face)
      → NumbersLeft nodes faces processes was → NumbersLeft nodes faces processes (set was k d)
  numbers_kept nodes faces h = record {
    passes = h.passes;
    incarnations = h.incarnations;
    links = h.links;
    tickets = λ i place x view there is. let a = came_from i x there in
        subst (λ (t : TicketRecord). t.number < view.links.next_ticket) (sym a.2.ticket)
        (h.tickets i place a.0 view a.1
        (subst (λ (t : TicketRecord). IsNode nodes t.peer place view) a.2.ticket is));
  }

  -- what is known of servers
  pub servers_kept : (group : List NodeSettings) (faces : List Face) → AreServers group faces was
      → AreServers group faces (set was k d)
  servers_kept group faces h = record {
    one = h.one;
    clients = h.clients;
    asked = λ i x there.
        let a = came_from i x there in
        let old = h.asked i a.0 a.1 in (
          old.0,
          subst (λ (t : TicketRecord). IsServer group t.peer old.0 x.server) (sym a.2.ticket)
              (subst (λ (s : Server). IsServer group a.0.ticket.peer old.0 s) (sym a.2.server) old.1),
        );
  }

  -- each is earned
  pub earned_kept : (issues : List Issue)
      → ((i : ℕ) (x : Connection) → slice_get was i ≡ Some x → IsEarned issues arrivals x)
      → (i : ℕ) (x : Connection) → slice_get (set was k d) i ≡ Some x → IsEarned issues arrivals x
  earned_kept issues h i x there =
      let a = came_from i x there in
      let e = h i a.0 a.1 in
      record {
        came = e.came;
        there = ap (slice_get arrivals) a.2.arrival ∙ e.there;
        hops = e.hops;
        node = e.node;
        label = e.label;
        holder = a.2.holder ∙ e.holder;
        owner = e.owner;
      }

-- forwards stand as they stood, where requests go on
pub forwards_kept : {flights more : List (List ℕ)} {came come : List Arrival}
    {was now : List Connection} (forwards : List Forward) → length flights ≤ length more
    → GoesOn came come was now forwards forwards → AreForwards flights came was forwards
    → AreForwards more come now forwards
forwards_kept forwards long on h = record {
  each = λ i f there. let x = h.each i f there in record {
    flight = let below = x.flight in omega (arith, below, long);
    origin = (x.origin.0, on.arrivals f.origin x.origin.0 x.origin.1, x.origin.2);
    onward = λ n e. let y = x.onward n e in (y.0, on.arrivals n y.0 y.1, y.2, y.3);
    ended = λ e. let y = x.ended e in (y.0, y.1, settled_still on y.0 y.2);
    clean = x.clean;
  };
  one_flight = h.one_flight;
  one_origin = h.one_origin;
  one_onward = h.one_onward;
}

-- as many stay open, if none was reported
pub open_same : (was : List Connection) (k : ℕ) (c d : Connection) (backend : ℕ)
    → slice_get was k ≡ Some c → d.backend ≡ c.backend → d.report ≡ c.report
    → open_for backend (set was k d) ≡ open_for backend was
open_same [] k c d backend there b r = refl
open_same (x ∷ xs) zero c d backend there b r =
    let same : x ≡ c = same_Some x c there in
    let one : is_open_for backend d ≡ is_open_for backend x =
    rw (b, r, same) refl in
    rw one refl
open_same (x ∷ xs) (suc k) c d backend there b r =
    rw (open_same xs k c d backend there b r) refl
