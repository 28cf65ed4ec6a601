-- There is a further server process, or a link has another client.
use Rattle.std.proofs.Common.{◌≡◌, ◌≢◌, ℕ, ◌<◌, ⊎_elim, false, List, [], ◌∷◌, ◌++◌, Option, Some, map, refl, ap, sym, subst, ◌∙◌, arith}
use Rattle.std.proofs.Math.ListN.{set}
use Rattle.std.specs.List.{slice_get}
use Rattle.lease.specs.declared.{link_record.LinkRecord.LinkRecord, link_place.LinkPlace.LinkPlace}
use Rattle.link_pool.specs.declared.place.{Place.Place, Link.Link, LinkState.LinkState}
use Rattle.link_pool.specs.Pool.{place_at}
use Rattle.ini_config.specs.Node.{NodeSettings}
use Rattle.node_core.specs.View.{NodeView}
use Rattle.world.specs.World.{World, Arrival, Backend, Connection, Hand, Issue, Session, IsNode}
use Rattle.world.specs.Changes.{and_then, with_backend}
use Rattle.world.specs.LinkEvents.{with_new}
use Rattle.world.specs.Facts.{Process, process_of, last_holder, Grip, grip_of, running_count, Face, face_of, processes_of, lasts_of, faces_of, IsOwnGrip, AreClients, AreProcesses, NumbersLeft, IsProcess, AllLinksStand, AreConnections, load_of, IsOwnLoad, Facts}
use Rattle.world.proofs.Lists.{set_there, kept_behind, added_cases, before_end, read_map, from_map, same_map, map_write, map_added, map_long}
use Rattle.world.proofs.Loads.{loads_same}
use Rattle.world.proofs.Holding.{grip_of_lease}

-- a grip is a client's still, with more processes
grip_behind : (processes more : List Process) (lasts further : List (Option ℕ)) (face : Face) (g : Grip)
    → IsOwnGrip processes lasts face g
    → IsOwnGrip (processes ++ more) (lasts ++ further) face g
grip_behind processes more lasts further face Grip.Nothing h = tt
grip_behind processes more lasts further face (Grip.Permit permit) h = h
grip_behind processes more lasts further face (Grip.Lease lease b) h = (
  h.0,
  h.1,
  (h.2.0, kept_behind processes more b h.2.0 h.2.1, h.2.2),
  kept_behind lasts further b (Some face.label) h.3,
)

-- what is known of clients, with more processes
clients_behind : (issues : List Issue) (processes more : List Process) (lasts further : List (Option ℕ)) (faces : List Face)
    → AreClients issues processes lasts faces
    → AreClients issues (processes ++ more) (lasts ++ further) faces
clients_behind issues processes more lasts further faces h = record {
  each = λ i face at. let x = h.each i face at in record {
    key = x.key;
    node = x.node;
    issued = x.issued;
    gone = x.gone;
    grip = grip_behind processes more lasts further face face.grip x.grip;
  };
  labels = h.labels;
  passes = h.passes;
}

-- a further process has a key and a link of its own
pub record IsOther (processes : List Process) (x : Process) : Type 0 where
  pub key : (i : ℕ) (a : Process) → slice_get processes i ≡ Some a → a.server ≡ x.server
      → a.key ≡ x.key → ⊥
  pub link : (i : ℕ) (a : Process) (l : LinkRecord) → slice_get processes i ≡ Some a
      → a.link ≡ Some l → x.link ≡ Some l → ⊥

processes_behind : (processes : List Process) (x : Process) → IsOther processes x
    → AreProcesses processes → AreProcesses (processes ++ x ∷ [])
processes_behind processes x other h = record {
  keys = λ i j a b at_i at_j server key. ⊎_elim
      (λ was_i. ⊎_elim (λ was_j. h.keys i j a b was_i was_j server key)
      (λ new_j. absurd (other.key i a was_i
      (server ∙ ap (λ (p : Process). p.server) new_j.1) (key ∙ ap (λ (p : Process). p.key) new_j.1)))
      (added_cases processes x j b at_j))
      (λ new_i. ⊎_elim
      (λ was_j. absurd (other.key j b was_j
      (sym server ∙ ap (λ (p : Process). p.server) new_i.1) (sym key ∙ ap (λ (p : Process). p.key) new_i.1)))
      (λ new_j. new_i.0 ∙ sym new_j.0)
      (added_cases processes x j b at_j))
      (added_cases processes x i a at_i);
  links = λ i j a b l at_i at_j of_a of_b. ⊎_elim
      (λ was_i. ⊎_elim (λ was_j. h.links i j a b l was_i was_j of_a of_b)
      (λ new_j. absurd (other.link i a l was_i of_a (ap (λ (p : Process). p.link) (sym new_j.1) ∙ of_b)))
      (added_cases processes x j b at_j))
      (λ new_i. ⊎_elim
      (λ was_j. absurd (other.link j b l was_j of_b (ap (λ (p : Process). p.link) (sym new_i.1) ∙ of_a)))
      (λ new_j. new_i.0 ∙ sym new_j.0)
      (added_cases processes x j b at_j))
      (added_cases processes x i a at_i);
}

connections_behind : (arrivals : List Arrival) (processes more : List Process) (lasts further : List (Option ℕ)) (connections : List Connection)
    → AreConnections arrivals processes lasts connections
    → AreConnections arrivals (processes ++ more) (lasts ++ further) connections
connections_behind arrivals processes more lasts further connections h = record {
  each = λ i c at. let x = h.each i c at in record {
    process = x.process;
    there = kept_behind processes more c.backend x.process x.there;
    server = x.server;
    key = x.key;
    link = x.link;
    waits = λ e. kept_behind lasts further c.backend c.holder (x.waits e);
    acted = x.acted;
    clean = x.clean;
    served = x.served;
  };
  tickets = h.tickets;
  apart = h.apart;
}

links_behind : (group : List NodeSettings) (nodes : List NodeView) (faces : List Face) (processes more : List Process) (lasts further : List (Option ℕ)) (connections : List Connection)
    → AllLinksStand group nodes faces processes lasts connections
    → AllLinksStand group nodes faces (processes ++ more) (lasts ++ further) connections
links_behind group nodes faces processes more lasts further connections h i view at_i k link at_k =
    let x = h i view at_i k link at_k in (
      x.0,
      record {
        process = x.1.process;
        there = kept_behind processes more x.0 x.1.process x.1.there;
        of = x.1.of;
        key = x.1.key;
        server = x.1.server;
      },
      record {
        tickets = x.2.tickets;
        hasty = x.2.hasty;
        giver = λ j slot face given at is key.
            kept_behind lasts further x.0 (Some face.label) (x.2.giver j slot face given at is key);
      },
    )

-- there is one more server process, which nobody has yet
pub added_kept : (w : World) (x : Backend) → IsOther (processes_of w) (process_of x)
    → ((l : LinkRecord) (place : ℕ) (view : NodeView) → x.link ≡ Some l
    → IsNode w.nodes l.peer place view → l.link < view.links.next_link)
    → IsOwnLoad x → load_of x ≡ 0 → Facts w → Facts (with_new x w)
added_kept w x other given own none f =
    let to_processes : map process_of (and_then w.backends x) ≡ processes_of w ++ process_of x ∷ [] =
    map_added process_of w.backends x in
    let to_lasts : map last_holder (and_then w.backends x) ≡ lasts_of w ++ last_holder x ∷ [] =
    map_added last_holder w.backends x in
    let ps = processes_of w ++ process_of x ∷ [] in
    let ls = lasts_of w ++ last_holder x ∷ [] in
    record {
      servers = f.servers;
      nodes = f.nodes;
      issues = f.issues;
      clients = subst (λ (q : List Process). AreClients w.issues q (map last_holder (and_then w.backends x)) (faces_of w)) (sym to_processes)
          (subst (λ (q : List (Option ℕ)). AreClients w.issues ps q (faces_of w)) (sym to_lasts)
          (clients_behind w.issues (processes_of w) (process_of x ∷ []) (lasts_of w) (last_holder x ∷ []) (faces_of w) f.clients));
      slots = f.slots;
      processes = subst AreProcesses (sym to_processes)
          (processes_behind (processes_of w) (process_of x) other f.processes);
      numbers = subst (λ (q : List Process). NumbersLeft w.nodes (faces_of w) q w.connections) (sym to_processes)
          (record {
            passes = f.numbers.passes;
            incarnations = f.numbers.incarnations;
            links = λ i place p l view at of is. ⊎_elim
                (λ was. f.numbers.links i place p l view was of is)
                (λ new. given l place view (ap (λ (q : Process). q.link) (sym new.1) ∙ of) is)
                (added_cases (processes_of w) (process_of x) i p at);
            tickets = f.numbers.tickets;
          });
      links = subst (λ (q : List Process). AllLinksStand w.group w.nodes (faces_of w) q (map last_holder (and_then w.backends x)) w.connections) (sym to_processes)
          (subst (λ (q : List (Option ℕ)). AllLinksStand w.group w.nodes (faces_of w) ps q w.connections) (sym to_lasts)
          (links_behind w.group w.nodes (faces_of w) (processes_of w) (process_of x ∷ []) (lasts_of w) (last_holder x ∷ []) w.connections f.links));
      connections = subst (λ (q : List Process). AreConnections w.arrivals q (map last_holder (and_then w.backends x)) w.connections) (sym to_processes)
          (subst (λ (q : List (Option ℕ)). AreConnections w.arrivals ps q w.connections) (sym to_lasts)
          (connections_behind w.arrivals (processes_of w) (process_of x ∷ []) (lasts_of w) (last_holder x ∷ []) w.connections f.connections));
      loads = record {
        own = λ i b at. ⊎_elim (λ was. f.loads.own i b was)
            (λ new. subst IsOwnLoad (sym new.1) own) (added_cases w.backends x i b at);
        outstanding = λ i place n s lease b at_s hand at_b. ⊎_elim
            (λ was. f.loads.outstanding i place n s lease b at_s hand was)
            (λ new. let mine : IsOwnGrip (processes_of w) (lasts_of w) (face_of s) (Grip.Lease lease place) =
            subst (IsOwnGrip (processes_of w) (lasts_of w) (face_of s)) (grip_of_lease s lease place n hand)
            (f.clients.each i (face_of s) (read_map face_of w.sessions i s at_s)).grip in
            let below = before_end (processes_of w) place mine.2.0 mine.2.1 in
            let long = map_long process_of w.backends in
            let end = new.0 in
            absurd (omega (arith, below, long, end)))
            (added_cases w.backends x place b at_b);
        rest = λ i view at_i k link j b at_k free at_j of. ⊎_elim
            (λ was. f.loads.rest i view at_i k link j b at_k free was of)
            (λ new. ap load_of new.1 ∙ none) (added_cases w.backends x j b at_j);
      };
      forwards = f.forwards;
      safe = record { struck = f.safe.struck; taken = f.safe.taken; earned = f.safe.earned };
    }

-- nobody has the link of a process, no cancel connection to it is still to act, and nobody may take
-- the link back
pub record IsUnclaimed (w : World) (b : ℕ) : Type 0 where
  pub clients : (i n : ℕ) (s : Session) (lease : LinkRecord) → slice_get w.sessions i ≡ Some s
      → s.hand ≡ Hand.Lease lease b n → ⊥
  pub connections : (i : ℕ) (c : Connection) → slice_get w.connections i ≡ Some c
      → c.backend ≡ b → c.acted ≡ false → ⊥
  pub givers : (i : ℕ) (view : NodeView) (k : LinkPlace) (link : Link) (slot : ℕ) → slice_get w.nodes i ≡ Some view
      → place_at view.links k ≡ Some (Place.Link link)
      → link.state ≡ LinkState.Quarantined (Some slot)
      → IsProcess w.group (processes_of w) view.me link b → ⊥

-- the client that has a link next
abbrev pub held_next : ℕ → Backend → Backend
held_next label x = record x { holder = Some label }

pub lease_of_hand : (h : Hand) (lease : LinkRecord) (b : ℕ) → grip_of h ≡ Grip.Lease lease b
    → (n : ℕ) × (h ≡ Hand.Lease lease b n)
lease_of_hand Hand.Empty lease b e = absurd (no_lease e)
  where
    no_lease : Grip.Nothing ≡ Grip.Lease lease b → ⊥
    no_lease h = cc
lease_of_hand (Hand.Permit permit) lease b e = absurd (no_lease e)
  where
    no_lease : Grip.Permit permit ≡ Grip.Lease lease b → ⊥
    no_lease h = cc
lease_of_hand (Hand.Lease l c n) lease b e = (n, cc)

-- a link at rest, of which nobody has anything, has another client
pub held_kept : (w : World) (b label : ℕ) (x : Backend) → slice_get w.backends b ≡ Some x
    → load_of x ≡ 0 → IsUnclaimed w b → Facts w → Facts (with_backend b (held_next label x) w)
held_kept w b label x there none free f =
    let y = held_next label x in
    let same_processes = same_map process_of w.backends b x y there refl in
    let to_lasts = map_write last_holder w.backends b y in
    let ls = set (lasts_of w) b (Some label) in
    let other : (i : ℕ) (o : Option ℕ) → i ≢ b → slice_get (lasts_of w) i ≡ Some o → slice_get ls i ≡ Some o =
    λ i o apart e. set_there (lasts_of w) b i (Some label) apart ∙ e in
    record {
      servers = f.servers;
      nodes = f.nodes;
      issues = f.issues;
      clients = subst (λ (q : List Process). AreClients w.issues q (map last_holder (set w.backends b y)) (faces_of w)) (sym same_processes)
          (subst (λ (q : List (Option ℕ)). AreClients w.issues (processes_of w) q (faces_of w)) (sym to_lasts) (record {
            each = λ i face at. let h = f.clients.each i face at in record {
              key = h.key;
              node = h.node;
              issued = h.issued;
              gone = h.gone;
              grip = grip_elsewhere w free ls other i face at face.grip refl h.grip;
            };
            labels = f.clients.labels;
            passes = f.clients.passes;
          }));
      slots = f.slots;
      processes = subst AreProcesses (sym same_processes) f.processes;
      numbers = subst (λ (q : List Process). NumbersLeft w.nodes (faces_of w) q w.connections) (sym same_processes) f.numbers;
      links = subst (λ (q : List Process). AllLinksStand w.group w.nodes (faces_of w) q (map last_holder (set w.backends b y)) w.connections) (sym same_processes)
          (subst (λ (q : List (Option ℕ)). AllLinksStand w.group w.nodes (faces_of w) (processes_of w) q w.connections) (sym to_lasts)
          (λ i view at_i k link at_k. let h = f.links i view at_i k link at_k in (
            h.0,
            h.1,
            record {
              tickets = h.2.tickets;
              hasty = h.2.hasty;
              giver = λ j slot face given at is key. other h.0 (Some face.label)
                  (λ e. free.givers i view k link slot at_i at_k given
                  (subst (IsProcess w.group (processes_of w) view.me link) e h.1))
                  (h.2.giver j slot face given at is key);
            },
          )));
      connections = subst (λ (q : List Process). AreConnections w.arrivals q (map last_holder (set w.backends b y)) w.connections) (sym same_processes)
          (subst (λ (q : List (Option ℕ)). AreConnections w.arrivals (processes_of w) q w.connections) (sym to_lasts) (record {
            each = λ i c at. let h = f.connections.each i c at in record {
              process = h.process;
              there = h.there;
              server = h.server;
              key = h.key;
              link = h.link;
              waits = λ e. other c.backend c.holder (λ d. free.connections i c at d e) (h.waits e);
              acted = h.acted;
              clean = h.clean;
              served = h.served;
            };
            tickets = f.connections.tickets;
            apart = f.connections.apart;
          }));
      loads = loads_same w.nodes w.sessions w.backends b x y f.loads there (record {
        link = refl;
        own = at_rest y none;
      }) refl;
      forwards = f.forwards;
      safe = record { struck = f.safe.struck; taken = f.safe.taken; earned = f.safe.earned };
    }
  where
    grip_elsewhere : (w : World) {b : ℕ} → IsUnclaimed w b → (ls : List (Option ℕ))
        → ((i : ℕ) (o : Option ℕ) → i ≢ b → slice_get (lasts_of w) i ≡ Some o → slice_get ls i ≡ Some o)
        → (i : ℕ) (face : Face) → slice_get (faces_of w) i ≡ Some face → (g : Grip) → face.grip ≡ g
        → IsOwnGrip (processes_of w) (lasts_of w) face g → IsOwnGrip (processes_of w) ls face g
    grip_elsewhere w free ls other i face at Grip.Nothing e h = tt
    grip_elsewhere w free ls other i face at (Grip.Permit permit) e h = h
    grip_elsewhere w {b} free ls other i face at (Grip.Lease lease k) e h = (
      h.0,
      h.1,
      h.2,
      other k (Some face.label)
          (λ d. let s = from_map face_of w.sessions i face at in
          let hand = lease_of_hand s.0.hand lease k (ap (λ (z : Face). z.grip) s.2 ∙ e) in
          free.clients i hand.0 s.0 lease s.1 (subst (λ (q : ℕ). s.0.hand ≡ Hand.Lease lease q hand.0) d hand.1))
          h.3,
    )

    at_rest : (y : Backend) → load_of y ≡ 0 → IsOwnLoad y
    at_rest y none = record {
      wire = λ i l e. let below = before_end y.wire i l e in absurd (omega (arith, below, none));
      running = λ l e. let one : running_count y.running ≡ 1 = ap running_count e in
          absurd (omega (arith, one, none));
    }
