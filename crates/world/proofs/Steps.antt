-- A client and its node make a step of the node's links: what is known of the world stays known.
use Rattle.std.proofs.Common.{◌≡◌, ℕ, ◌<◌, ◌≤◌, ⊎_elim, Bool, true, false, List, Option, Some, None, length, map, refl, ap, sym, subst, ◌∙◌, arith, length-set}
use Rattle.std.proofs.Math.ListN.{set}
use Rattle.std.specs.List.{slice_get}
use Rattle.std.proofs.lemmas.Option.{same_Some, slice_get_past}
use Rattle.pg_ids.specs.AnyKey.{slot_of}
use Rattle.lease.specs.declared.{link_record.LinkRecord.LinkRecord, link_place.LinkPlace.LinkPlace}
use Rattle.lease.specs.declared.pass.PassRecord.{PassRecord}
use Rattle.link_pool.specs.declared.place.{Place.Place, Link.Link}
use Rattle.link_pool.specs.Pool.{PoolView, DatabasePool, place_at, place_in}
use Rattle.node_core.specs.declared.client.Client.{Client}
use Rattle.node_core.specs.View.{NodeView}
use Rattle.world.specs.World.{World, Backend, Connection, Hand, Issue, Session}
use Rattle.world.specs.Changes.{holding}
use Rattle.world.specs.Facts.{AreServers, Process, Grip, grip_of, Face, face_of, processes_of, lasts_of, faces_of, IsOwnGrip, IsClientOf, AreClients, IsIn, GripFits, AllFitSlots, NumbersLeft, IsProcess, LinkStands, AllLinksStand, is_with_client, load_of, Facts}
use Rattle.world.proofs.Lists.{set_cases, read_map, map_write}
use Rattle.world.proofs.LinkSteps.{servers_regripped, one_grew, links_grew, nodes_grew, issues_grew, numbers_grew, with_links, Alters, moves_of, Belongs, SameBut, same_face, Regrips, one_regrips, was_in, is_in_still, link_stands_still, links_moved, other_grips, slots_moved, rest_moved}

-- what is known of next numbers, whatever clients have in hand
pub numbers_regripped : (nodes : List NodeView) (olds news : List Face) (processes : List Process) (connections : List Connection)
    → Regrips olds news → NumbersLeft nodes olds processes connections
    → NumbersLeft nodes news processes connections
numbers_regripped nodes olds news processes connections regrips h = record {
  passes = λ i place face view at is.
      let from = regrips.from i face at in
      let old = h.passes i place from.0 view from.1
      (record { there = is.there; named = is.named ∙ from.2.node }) in
      subst (λ (p : PassRecord). p.number < view.next_pass) (sym from.2.pass) old;
  incarnations = λ i place face view at is.
      let from = regrips.from i face at in
      let old = h.incarnations i place from.0 view from.1
      (record { there = is.there; named = is.named ∙ from.2.node }) in
      subst (λ (p : PassRecord). p.incarnation ≤ view.links.incarnation) (sym from.2.pass) old;
  links = h.links;
  tickets = h.tickets;
}

-- what is known of clients, one of which has something else in hand
pub clients_moved : (issues : List Issue) (processes : List Process) (lasts : List (Option ℕ)) (faces : List Face) (p : ℕ) (f g : Face)
    → slice_get faces p ≡ Some f → SameBut f g
    → (g.stays ≡ false → g.grip ≡ Grip.Nothing) → IsOwnGrip processes lasts g g.grip
    → AreClients issues processes lasts faces → AreClients issues processes lasts (set faces p g)
clients_moved issues processes lasts faces p f g there same gone own h =
    let regrips = one_regrips faces p f g there same in
    record {
      each = λ i x at. ⊎_elim (λ was. h.each i x was.1)
          (λ new. subst (IsClientOf issues processes lasts) (sym new.1)
          (let old = h.each p f there in record {
            key = rw same.pass old.key;
            node = rw (same.pass, same.node) old.node;
            issued = (
              old.issued.0,
              old.issued.1,
              old.issued.2,
              rw same.pass old.issued.3,
              old.issued.4 ∙ sym same.label,
            );
            gone = gone;
            grip = own;
          }))
          (set_cases faces p i x g at);
      labels = λ i j a b at_i at_j e.
          let x = regrips.from i a at_i in let y = regrips.from j b at_j in
          h.labels i j x.0 y.0 x.1 y.1 (sym x.2.label ∙ e ∙ y.2.label);
      passes = λ i j a b at_i at_j e d.
          let x = regrips.from i a at_i in let y = regrips.from j b at_j in
          h.passes i j x.0 y.0 x.1 y.1 (sym x.2.node ∙ e ∙ y.2.node)
          (ap (λ (p : PassRecord). p.number) (sym x.2.pass) ∙ d
          ∙ ap (λ (p : PassRecord). p.number) y.2.pass);
    }

-- two clients of a node in one slot are one
pub one_slot : (w : World) → Facts w → (q i j : ℕ) (v : NodeView) (x y : Face)
    → slice_get w.nodes q ≡ Some v → slice_get (faces_of w) i ≡ Some x
    → slice_get (faces_of w) j ≡ Some y → IsIn v x → IsIn v y
    → slot_of x.pass.key ≡ slot_of y.pass.key → i ≡ j
one_slot w f q i j v x y at_q at_i at_j in_x in_y same =
    let a = (f.slots q v at_q).fits i x at_i in_x in
    let b = (f.slots q v at_q).fits j y at_j in_y in
    let client : Client = record { database = x.database; pass = x.pass.number } in
    let other : Client = record { database = y.database; pass = y.pass.number } in
    let one : client ≡ other = same_Some client other (same_Some (Some client) (Some other)
    (sym a.client ∙ ap (slice_get v.clients) same ∙ b.client)) in
    f.clients.passes i j x y at_i at_j (in_x.node ∙ sym in_y.node)
    (ap (λ (c : Client). c.pass) one)

-- a step of a node's links for one client
pub record IsChange (w : World) (p q : ℕ) (s : Session) (v : NodeView) (u : PoolView) (at : LinkPlace) (hand : Hand) : Type 0 where
  pub session : slice_get w.sessions p ≡ Some s
  pub node : slice_get w.nodes q ≡ Some v
  pub live : IsIn v (face_of s)
  pub alters : Alters v.links u at (slot_of s.pass.key)
  pub belongs : Belongs v.links at (slot_of s.pass.key)
  pub own : IsOwnGrip (processes_of w) (lasts_of w) (face_of s) (grip_of hand)
  pub fits : GripFits u (slot_of s.pass.key) (grip_of hand)
  pub links : (link : Link) → place_at u at ≡ Some (Place.Link link)
      → (b : ℕ) × IsProcess w.group (processes_of w) v.me link b
      × LinkStands (faces_of w) (lasts_of w) w.connections v link b
  pub rest : (link : Link) (j : ℕ) (b : Backend) → place_at u at ≡ Some (Place.Link link)
      → is_with_client link.state ≡ false → slice_get w.backends j ≡ Some b
      → b.link ≡ Some link.details → load_of b ≡ 0
  pub outstanding : (place n : ℕ) (lease : LinkRecord) (b : Backend)
      → hand ≡ Hand.Lease lease place n → slice_get w.backends place ≡ Some b → n ≡ load_of b

-- the world after it
abbrev pub changed : World → ℕ → ℕ → Session → NodeView → PoolView → Hand → World
changed w p q s v u hand = record w {
  nodes = set w.nodes q (with_links v u);
  sessions = set w.sessions p (holding hand s);
}

true_not_false : (b : Bool) → b ≡ true → b ≡ false → ⊥
true_not_false b t f = differ (sym t ∙ f)
  where
    differ : true ≡ false → ⊥
    differ h = cc

-- the faces after it
after_faces : (w : World) (p : ℕ) (s t : Session) → map face_of (set w.sessions p t) ≡ set (faces_of w) p (face_of t)
after_faces w p s t = map_write face_of w.sessions p t

pub change_kept : (w : World) (p q : ℕ) (s : Session) (v : NodeView) (u : PoolView) (at : LinkPlace) (hand : Hand)
    → IsChange w p q s v u at hand → Facts w → Facts (changed w p q s v u hand)
change_kept w p q s v u at hand c f =
    let t : Session = holding hand s in
    let faces = faces_of w in
    let here = read_map face_of w.sessions p s c.session in
    let like : SameBut (face_of s) (face_of t) = record { label = refl; node = refl; database = refl; pass = refl; stays = refl } in
    let regrips : Regrips faces (set faces p (face_of t)) =
    one_regrips faces p (face_of s) (face_of t) here like in
    let grew = one_grew w.nodes q v (with_links v u) c.node (links_grew v u c.alters.incarnation c.alters.link c.alters.ticket) in
    let back = sym (after_faces w p s t) in
    let news = set w.nodes q (with_links v u) in
    record {
      servers = subst (λ (fs : List Face). AreServers w.group fs w.connections) back
          (servers_regripped w.group faces (set faces p (face_of t)) w.connections regrips f.servers);
      nodes = nodes_grew w.nodes news (length-set w.nodes q _) grew f.nodes;
      issues = issues_grew w.nodes news w.starts w.issues grew f.issues;
      clients = subst (AreClients w.issues (processes_of w) (lasts_of w)) back
          (clients_moved w.issues (processes_of w) (lasts_of w) faces p (face_of s) (face_of t) here like
          (λ e. absurd (true_not_false s.stays c.live.stays e)) c.own f.clients);
      slots = subst (AllFitSlots news) back
          (slots_moved w.nodes faces (set faces p (face_of t)) q v u c.node c.alters.incarnation regrips f.slots
          (λ i j view x apart at_i at_j is. ⊎_elim (λ was. was.1)
          (λ new. absurd (apart (f.nodes.once i q view v at_i c.node
          (sym is.node ∙ ap (λ (z : Face). z.node) new.1 ∙ c.live.node))))
          (set_cases faces p j x (face_of t) at_j))
          (λ j x at_j is. ⊎_elim
          (λ was. let in_v = was_in v (with_links v u) x x (same_face x) refl c.alters.incarnation is in
          other_grips v.links u at (slot_of s.pass.key) (slot_of x.pass.key) x.grip c.alters c.belongs
          (λ e. was.0 (one_slot w f q j p v x (face_of s) c.node was.1 here in_v c.live e))
          ((f.slots q v c.node).fits j x was.1 in_v).grip)
          (λ new. subst (λ (z : Face). GripFits u (slot_of z.pass.key) z.grip) (sym new.1) c.fits)
          (set_cases faces p j x (face_of t) at_j)));
      processes = f.processes;
      numbers = subst (λ (fs : List Face). NumbersLeft news fs (processes_of w) w.connections) back
          (numbers_regripped news faces (set faces p (face_of t)) (processes_of w) w.connections regrips
          (numbers_grew w.nodes news faces (processes_of w) w.connections grew f.numbers));
      links = subst (λ (fs : List Face). AllLinksStand w.group news fs (processes_of w) (lasts_of w) w.connections) back
          (links_moved w.group w.nodes faces (set faces p (face_of t)) (processes_of w) (lasts_of w) w.connections w.connections
          q v u at c.node (moves_of v.links u at (slot_of s.pass.key) c.alters) f.links
          (λ i view n k link b at_i me incarnation at_k other process stands.
          link_stands_still view n link b regrips me incarnation stands)
          (λ link at_k. let h = c.links link at_k in
          (h.0, h.1, link_stands_still v (with_links v u) link h.0 regrips refl c.alters.incarnation h.2)));
      connections = f.connections;
      loads = record {
        own = f.loads.own;
        outstanding = λ i place n z lease b at_i hand_is at_b. ⊎_elim
            (λ was. f.loads.outstanding i place n z lease b was.1 hand_is at_b)
            (λ new. c.outstanding place n lease b
            (ap (λ (y : Session). y.hand) (sym new.1) ∙ hand_is) at_b)
            (set_cases w.sessions p i z t at_i);
        rest = rest_moved w.nodes w.backends q v u at
            (moves_of v.links u at (slot_of s.pass.key) c.alters) c.node f.loads.rest c.rest;
      };
      forwards = f.forwards;
      safe = record { struck = f.safe.struck; taken = f.safe.taken; earned = f.safe.earned };
    }

-- a client of no node's present incarnation has nothing in hand any more
pub emptied_kept : (w : World) (p : ℕ) (s : Session) → slice_get w.sessions p ≡ Some s
    → ((i : ℕ) (v : NodeView) → slice_get w.nodes i ≡ Some v → IsIn v (face_of s) → ⊥)
    → Facts w → Facts (record w { sessions = set w.sessions p (holding Hand.Empty s) })
emptied_kept w p s there out f =
    let t : Session = holding Hand.Empty s in
    let faces = faces_of w in
    let here = read_map face_of w.sessions p s there in
    let like : SameBut (face_of s) (face_of t) = record { label = refl; node = refl; database = refl; pass = refl; stays = refl } in
    let regrips : Regrips faces (set faces p (face_of t)) =
    one_regrips faces p (face_of s) (face_of t) here like in
    let back = sym (after_faces w p s t) in
    record {
      servers = subst (λ (fs : List Face). AreServers w.group fs w.connections) back
          (servers_regripped w.group faces (set faces p (face_of t)) w.connections regrips f.servers);
      nodes = f.nodes;
      issues = f.issues;
      clients = subst (AreClients w.issues (processes_of w) (lasts_of w)) back
          (clients_moved w.issues (processes_of w) (lasts_of w) faces p (face_of s) (face_of t) here like
          (λ e. refl) tt f.clients);
      slots = subst (AllFitSlots w.nodes) back (λ i view at_i. let h = f.slots i view at_i in record {
        fits = λ j x at_j is. ⊎_elim (λ was. h.fits j x was.1 is)
            (λ new. absurd (out i view at_i (record {
              stays = ap (λ (z : Face). z.stays) (sym new.1) ∙ is.stays;
              node = ap (λ (z : Face). z.node) (sym new.1) ∙ is.node;
              incarnation = ap (λ (z : Face). z.pass.incarnation) (sym new.1) ∙ is.incarnation;
            })))
            (set_cases faces p j x (face_of t) at_j);
        filled = λ slot client live.
            let g = h.filled slot client live in
            let to = regrips.to g.0 g.1 g.2 in (
              g.0,
              to.0,
              to.1,
              is_in_still view view g.1 to.0 to.2 refl refl g.3,
              ap (λ (p : PassRecord). slot_of p.key) to.2.pass ∙ g.4,
            );
      });
      processes = f.processes;
      numbers = subst (λ (fs : List Face). NumbersLeft w.nodes fs (processes_of w) w.connections) back
          (numbers_regripped w.nodes faces (set faces p (face_of t)) (processes_of w) w.connections regrips f.numbers);
      links = subst (λ (fs : List Face). AllLinksStand w.group w.nodes fs (processes_of w) (lasts_of w) w.connections) back
          (λ i view at_i k link at_k. let h = f.links i view at_i k link at_k in
          (h.0, h.1, link_stands_still view view link h.0 regrips refl refl h.2));
      connections = f.connections;
      loads = record {
        own = f.loads.own;
        outstanding = λ i place n z lease b at_i hand_is at_b. ⊎_elim
            (λ was. f.loads.outstanding i place n z lease b was.1 hand_is at_b)
            (λ new. absurd (empty_lease lease place n
            (ap (λ (y : Session). y.hand) (sym new.1) ∙ hand_is)))
            (set_cases w.sessions p i z t at_i);
        rest = f.loads.rest;
      };
      forwards = f.forwards;
      safe = record { struck = f.safe.struck; taken = f.safe.taken; earned = f.safe.earned };
    }
  where
    empty_lease : (lease : LinkRecord) (place n : ℕ) → Hand.Empty ≡ Hand.Lease lease place n → ⊥
    empty_lease lease place n h = cc

-- a place past all pools, at which nothing is
abbrev pub nowhere : PoolView → LinkPlace
nowhere v = record { database = length v.pools; index = 0 }

pub nothing_there : (v : PoolView) → place_at v (nowhere v) ≡ None
nothing_there v = ap (λ (o : Option DatabasePool). place_in o 0)
    (slice_get_past v.pools (length v.pools) (omega arith))
