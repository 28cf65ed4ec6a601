-- A request is sent to a server: there is one more cancel connection.
use Rattle.std.proofs.Common.{◌≡◌, ◌≢◌, ℕ, ◌+◌, ◌<◌, ⊎_elim, true, false, List, [], ◌∷◌, ◌++◌, Option, Some, None, refl, ap, sym, subst, ◌∙◌, arith, length-set}
use Rattle.std.proofs.Math.ListN.{set}
use Rattle.std.specs.List.{slice_get}
use Rattle.std.proofs.lemmas.Option.{same_Some, none-some}
use Rattle.std.proofs.lemmas.Bool.{eq-eqb}
use Rattle.pg_ids.specs.AnyKey.{slot_of}
use Rattle.pg_ids.specs.declared.any_key.AnyKey.{AnyKey}
use Rattle.lease.specs.declared.{link_record.LinkRecord.LinkRecord, link_place.LinkPlace.LinkPlace}
use Rattle.link_pool.specs.declared.place.{Place.Place, Link.Link, Claim.Claim}
use Rattle.link_pool.specs.Pool.{PoolView, place_at, with_place}
use Rattle.link_pool.specs.OnePlace.{IsPool, has_link, has_permit, held_by, open_for as kept_for, is_with}
use Rattle.link_pool.specs.PoolStep.{is_holding, HasLink, link_of, with_hold, one_more}
use Rattle.link_pool.proofs.Changes.{place_there, same_places}
use Rattle.node_core.specs.View.{NodeView}
use Rattle.world.specs.World.{IsServer, Server, World, Arrival, Connection, Hand, Report, IsNode}
use Rattle.world.specs.Changes.{and_then}
use Rattle.world.specs.CancelEvents.{Holds, IsHolder}
use Rattle.world.specs.SafeCancellation.{IsEarned}
use Rattle.world.specs.Facts.{Process, Grip, face_of, processes_of, lasts_of, faces_of, GripFits, IsProcess, LinkStands, open_for, IsServed, ConnectionStands, is_with_client, Facts, AreWhole}
use Rattle.world.proofs.Lists.{set_here, kept_behind, added_cases, read_map}
use Rattle.world.proofs.Holding.{link_fits, link_place}
use Rattle.world.proofs.Connections.{forwards_kept}
use Rattle.world.proofs.LinkSteps.{one_grew, links_grew, was_node, all_kept, nodes_grew, issues_grew, numbers_grew, with_links, Moves, same_face, regrips_not, was_in, links_moved, slots_moved, rest_moved}
use Rattle.world.proofs.GivingBack.{own_lease, process_again, process_at, written_at}
use Rattle.world.proofs.Processes.{lease_of_hand}
use Rattle.world.proofs.GoingUp.{not_equal}
use Rattle.world.proofs.Reporting.{grips_held}
use Rattle.world.proofs.Arriving.{IsKeyOf}

-- a connection to another process is added, or one to this process
added_other : (was : List Connection) (c : Connection) (b : ℕ) → c.backend ≢ b
    → open_for b (was ++ c ∷ []) ≡ open_for b was
added_other [] c b apart = rw (not_equal c.backend b apart) refl
added_other (x ∷ xs) c b apart = rw (added_other xs c b apart) refl

added_here : (was : List Connection) (c : Connection) (b : ℕ) → c.backend ≡ b → c.report ≡ None
    → open_for b (was ++ c ∷ []) ≡ open_for b was + 1
added_here [] c b same none = rw (eq-eqb c.backend b same, none) refl
added_here (x ∷ xs) c b same none =
    let more = added_here xs c b same none in omega (arith, more)

-- a client whose claim is a link has its lease
pub claimed_lease : (v : PoolView) (slot : ℕ) (at : LinkPlace) (link : Link) (g : Grip) → IsPool v
    → slice_get v.claims slot ≡ Some (Claim.Link at) → place_at v at ≡ Some (Place.Link link)
    → GripFits v slot g → (lease : LinkRecord) × (b : ℕ) × (g ≡ Grip.Lease lease b) × (lease ≡ link.details)
claimed_lease v slot at link Grip.Nothing whole claim there fits =
    absurd (differ (sym (ap is_holding claim) ∙ fits))
  where
    differ : true ≡ false → ⊥
    differ h = cc
claimed_lease v slot at link (Grip.Permit permit) whole claim there fits =
    absurd (differ (sym (ap (has_permit permit.at) claim) ∙ whole.permits slot permit.at
    ∙ ap (kept_for slot) fits ∙ eq-eqb slot slot refl))
  where
    differ : false ≡ true → ⊥
    differ h = cc
claimed_lease v slot at link (Grip.Lease lease b) whole claim there fits =
    let has : has_link lease.at (Some (Claim.Link at)) ≡ true =
    ap (has_link lease.at) (sym claim) ∙ whole.links slot lease.at
    ∙ ap (held_by slot) fits.1.at ∙ ap (is_with slot) fits.1.held ∙ eq-eqb slot slot refl in
    let place : at ≡ lease.at = same_places at lease.at has in
    let one : fits.0 ≡ link = same_link fits.0 link (sym fits.1.at ∙ ap (place_at v) (sym place) ∙ there) in
    (lease, b, refl, sym fits.1.says ∙ ap (λ (l : Link). l.details) one)
  where
    same_link : (a b : Link) → Some (Place.Link a) ≡ Some (Place.Link b) → a ≡ b
    same_link a b h = cc

-- the grip fits still, once a number was given
grips_numbered : (v : PoolView) (t s : ℕ) (g : Grip) → GripFits v s g
    → GripFits (record v { next_ticket = t }) s g
grips_numbered v t s Grip.Nothing fits = fits
grips_numbered v t s (Grip.Permit permit) fits = fits
grips_numbered v t s (Grip.Lease lease b) fits =
    (fits.0, record { at = fits.1.at; says = fits.1.says; held = fits.1.held })

-- what is known of a new connection
pub record IsNewConnection (w : World) (q b : ℕ) (v : NodeView) (at : LinkPlace) (link : Link) (c : Connection) : Type 0 where
  pub node : slice_get w.nodes q ≡ Some v
  pub there : place_at v.links at ≡ Some (Place.Link link)
  pub process : IsProcess w.group (processes_of w) v.me link b
  pub backend : c.backend ≡ b
  pub server : process.process.server ≡ c.server
  pub key : process.process.key ≡ c.key
  pub link_is : link.details ≡ link_of c.ticket
  pub peer : c.ticket.peer ≡ v.me
  pub number : c.ticket.number ≡ v.links.next_ticket
  pub acted : c.acted ≡ false
  pub ended : c.ended ≡ false
  pub report : c.report ≡ None
  pub holder : slice_get (lasts_of w) b ≡ Some c.holder
  pub served : (came : Arrival) × (slice_get w.arrivals c.arrival ≡ Some came)
      × IsServed c.ticket c.key came.order
  pub apart : (i : ℕ) (x : Connection) → slice_get w.connections i ≡ Some x → x.arrival ≢ c.arrival
  pub earned : IsEarned w.issues w.arrivals c

-- the world with it
pub served_kept : (w : World) (q b : ℕ) (v : NodeView) (at : LinkPlace) (link : Link) (c : Connection)
    → AreWhole w.nodes → IsNewConnection w q b v at link c → Facts w
    → Facts (record w {
      nodes = set w.nodes q (with_links v (record (with_place v.links at (Place.Link (with_hold link (one_more link.hold))))
          { next_ticket = v.links.next_ticket + 1 }));
      connections = and_then w.connections c;
    })
served_kept w q b v at link c whole is f =
    let new : Link = with_hold link (one_more link.hold) in
    let x = with_place v.links at (Place.Link new) in
    let u : PoolView = record x { next_ticket = v.links.next_ticket + 1 } in
    let n = with_links v u in
    let news = set w.nodes q n in
    let faces = faces_of w in
    let more = and_then w.connections c in
    let moves : Moves v.links u at = record {
      incarnation = refl;
      places = λ k apart. place_there v.links at k (Place.Link new) _ apart;
    } in
    let grew = one_grew w.nodes q v n is.node (links_grew v u refl (omega arith) (omega arith)) in
    let numbers = numbers_grew w.nodes news faces (processes_of w) w.connections grew f.numbers in
    let is_link : (l : Link) → place_at u at ≡ Some (Place.Link l) → new ≡ l =
    λ l e. same_link new l (written_at v.links at (Place.Link link) (Place.Link new) (Place.Link l) _ is.there e) in
    let at_b = f.links q v is.node at link is.there in
    let same_b : at_b.0 ≡ b = process_at w f at_b.0 b at_b.1.process is.process.process link.details link.details
    at_b.1.there is.process.there at_b.1.of is.process.of refl in
    let old_number : (i : ℕ) (y : Connection) → slice_get w.connections i ≡ Some y → y.ticket.peer ≡ c.ticket.peer
    → y.ticket.number < v.links.next_ticket =
    λ i y at_i same. f.numbers.tickets i q y v at_i (record { there = is.node; named = sym is.peer ∙ sym same }) in
    record {
      servers = record {
        one = f.servers.one;
        clients = f.servers.clients;
        asked = λ i y at_i. ⊎_elim (λ was. f.servers.asked i y was)
            (λ new_c. subst (λ (z : Connection). (d : ℕ) × IsServer w.group z.ticket.peer d z.server) (sym new_c.1) (
              link.details.at.database,
              subst (λ (m : ℕ). IsServer w.group m link.details.at.database c.server) (sym is.peer)
                  (subst (λ (z : Server). IsServer w.group v.me link.details.at.database z) is.server is.process.server),
            ))
            (added_cases w.connections c i y at_i);
      };
      nodes = nodes_grew w.nodes news (length-set w.nodes q _) grew f.nodes;
      issues = issues_grew w.nodes news w.starts w.issues grew f.issues;
      clients = f.clients;
      slots = slots_moved w.nodes faces faces q v u is.node refl (regrips_not faces) f.slots
          (λ i j view y apart at_i at_j is_in. at_j)
          (λ j y at_j is_in. grips_numbered x (v.links.next_ticket + 1) (slot_of y.pass.key) y.grip
          (grips_held v.links at link (one_more link.hold) is.there (slot_of y.pass.key) y.grip
          ((f.slots q v is.node).fits j y at_j
          (was_in v n y y (same_face y) refl refl is_in)).grip));
      processes = f.processes;
      numbers = record {
        passes = numbers.passes;
        incarnations = numbers.incarnations;
        links = numbers.links;
        tickets = λ i place y view at_i is_node. ⊎_elim
            (λ was. numbers.tickets i place y view was is_node)
            (λ new_c.
            let from = was_node w.nodes news (all_kept w.nodes news grew) y.ticket.peer place view is_node in
            let its : y.ticket.number ≡ v.links.next_ticket =
            ap (λ (z : Connection). z.ticket.number) new_c.1 ∙ is.number in
            let where_it_is : place ≡ q = f.nodes.once place q from.0 v from.1.there is.node
            (from.1.named ∙ ap (λ (z : Connection). z.ticket.peer) new_c.1 ∙ is.peer) in
            let one : view ≡ n = same_Some view n
            (sym is_node.there ∙ ap (slice_get news) where_it_is ∙ set_here w.nodes q v n is.node) in
            let next : view.links.next_ticket ≡ v.links.next_ticket + 1 =
            ap (λ (z : NodeView). z.links.next_ticket) one in
            omega (arith, its, next))
            (added_cases w.connections c i y at_i);
      };
      links = links_moved w.group w.nodes faces faces (processes_of w) (lasts_of w) w.connections more
          q v u at is.node moves f.links
          (λ i view z k l d at_i me incarnation at_k other process stands.
          let apart : c.backend ≢ d = λ e.
          let one : is.process.process ≡ process.process = same_Some is.process.process process.process
          (sym is.process.there ∙ ap (slice_get (processes_of w)) (sym is.backend ∙ e) ∙ process.there) in
          let same : link.details ≡ l.details = same_Some link.details l.details
          (sym is.process.of ∙ ap (λ (p : Process). p.link) one ∙ process.of) in
          let fits_v = link_fits v.links at link (whole q v is.node).places is.there in
          let fits_k = link_fits view.links k l (whole i view at_i).places at_k in
          let number : view.me ≡ v.me = sym (whole i view at_i).node.own.1
          ∙ ap (λ (r : LinkRecord). r.peer) (sym fits_k.says ∙ sym same ∙ fits_v.says) ∙ (whole q v is.node).node.own.1 in
          other (f.nodes.once i q view v at_i is.node number)
          (sym (link_place view.links k l (whole i view at_i).places at_k)
          ∙ ap (λ (r : LinkRecord). r.at) (sym same) ∙ link_place v.links at link (whole q v is.node).places is.there) in
          record {
            tickets = stands.tickets ∙ sym (added_other w.connections c d apart);
            hasty = λ j y how at_j of acted reported. ⊎_elim
                (λ was. stands.hasty j y how was of acted reported)
                (λ new_c. absurd (apart (ap (λ (r : Connection). r.backend) (sym new_c.1) ∙ of)))
                (added_cases w.connections c j y at_j);
            giver = λ j slot face given at_j is_in key. stands.giver j slot face given at_j
                (was_in view z face face (same_face face) me incarnation is_in) key;
          })
          (λ l e. subst (λ (r : Link). (d : ℕ) × IsProcess w.group (processes_of w) v.me r d
          × LinkStands faces (lasts_of w) more n r d) (is_link l e) (
            b,
            process_again link new b refl refl is.process,
            record {
              tickets =
                  let was = at_b.2.tickets in
                  let count : open_for at_b.0 w.connections ≡ open_for b w.connections =
                  ap (λ (d : ℕ). open_for d w.connections) same_b in
                  let one = added_here w.connections c b is.backend is.report in
                  omega (arith, was, count, one);
              hasty = λ j y how at_j of acted reported. ⊎_elim
                  (λ was. at_b.2.hasty j y how was (of ∙ sym same_b) acted reported)
                  (λ new_c. absurd (none-some how (sym is.report ∙ ap (λ (r : Connection). r.report) (sym new_c.1) ∙ reported)))
                  (added_cases w.connections c j y at_j);
              giver = λ j slot face given at_j is_in key. ap (slice_get (lasts_of w)) (sym same_b)
                  ∙ at_b.2.giver j slot face given at_j
                  (was_in v n face face (same_face face) refl refl is_in) key;
            },
          ));
      connections = record {
        each = λ i y at_i. ⊎_elim (λ was. f.connections.each i y was)
            (λ new_c. subst (ConnectionStands w.arrivals (processes_of w) (lasts_of w)) (sym new_c.1) (record {
              process = is.process.process;
              there = ap (slice_get (processes_of w)) is.backend ∙ is.process.there;
              server = is.server;
              key = is.key;
              link = is.process.of ∙ ap Some is.link_is;
              waits = λ e. ap (slice_get (lasts_of w)) is.backend ∙ is.holder;
              acted = λ e. absurd (differ (sym is.ended ∙ e));
              clean = λ e. absurd (none-some Report.Clean (sym is.report ∙ e));
              served = is.served;
            }))
            (added_cases w.connections c i y at_i);
        tickets = λ i j y z at_i at_j peer number. ⊎_elim
            (λ was_i. ⊎_elim (λ was_j. f.connections.tickets i j y z was_i was_j peer number)
            (λ new_j.
            let below = old_number i y was_i (peer ∙ ap (λ (r : Connection). r.ticket.peer) new_j.1) in
            let its : z.ticket.number ≡ v.links.next_ticket = ap (λ (r : Connection). r.ticket.number) new_j.1 ∙ is.number in
            absurd (omega (arith, below, its, number)))
            (added_cases w.connections c j z at_j))
            (λ new_i. ⊎_elim
            (λ was_j.
            let below = old_number j z was_j (sym peer ∙ ap (λ (r : Connection). r.ticket.peer) new_i.1) in
            let its : y.ticket.number ≡ v.links.next_ticket = ap (λ (r : Connection). r.ticket.number) new_i.1 ∙ is.number in
            absurd (omega (arith, below, its, number)))
            (λ new_j. new_i.0 ∙ sym new_j.0)
            (added_cases w.connections c j z at_j))
            (added_cases w.connections c i y at_i);
        apart = λ i j y z at_i at_j same. ⊎_elim
            (λ was_i. ⊎_elim (λ was_j. f.connections.apart i j y z was_i was_j same)
            (λ new_j. absurd (is.apart i y was_i (same ∙ ap (λ (r : Connection). r.arrival) new_j.1)))
            (added_cases w.connections c j z at_j))
            (λ new_i. ⊎_elim
            (λ was_j. absurd (is.apart j z was_j (sym same ∙ ap (λ (r : Connection). r.arrival) new_i.1)))
            (λ new_j. new_i.0 ∙ sym new_j.0)
            (added_cases w.connections c j z at_j))
            (added_cases w.connections c i y at_i);
      };
      loads = record {
        own = f.loads.own;
        outstanding = f.loads.outstanding;
        rest = rest_moved w.nodes w.backends q v u at moves is.node f.loads.rest
            (λ l j d e free at_j of. f.loads.rest q v is.node at link j d is.there
            (ap (λ (z : Link). is_with_client z.state) (is_link l e) ∙ free) at_j
            (of ∙ ap (λ (z : Link). Some z.details) (sym (is_link l e))));
      };
      forwards = forwards_kept w.forwards (omega arith) (record {
        arrivals = λ i a h. h;
        connections = λ i y h. (y, kept_behind w.connections (c ∷ []) i y h, refl, λ e. e);
        forwards = λ i g h. (g, h, refl, λ m e. e);
      }) f.forwards;
      safe = record {
        struck = f.safe.struck;
        taken = f.safe.taken;
        earned = λ i y at_i. ⊎_elim (λ was. f.safe.earned i y was)
            (λ new_c. subst (IsEarned w.issues w.arrivals) (sym new_c.1) is.earned)
            (added_cases w.connections c i y at_i);
      };
    }
  where
    same_link : (a b : Link) → Place.Link a ≡ Place.Link b → a ≡ b
    same_link a b h = cc

    differ : false ≡ true → ⊥
    differ h = cc

-- who has the link of a process is the client whose claim it is
pub record HasClient (w : World) (node incarnation b label : ℕ) : Type 0 where
  pub holds : Holds w node incarnation b label
  pub last : slice_get (lasts_of w) b ≡ Some (Some label)

pub claim_holder : (w : World) → Facts w → AreWhole w.nodes → (q label node b : ℕ) (v : NodeView) (key : AnyKey) (at : LinkPlace) (link : Link)
    → IsNode w.nodes node q v → IsKeyOf w v key label → HasLink (slot_of key) at link v.links
    → IsProcess w.group (processes_of w) v.me link b
    → HasClient w node v.links.incarnation b label
claim_holder w f whole q label node b v key at link is of has process =
    let s = of.session in
    let here = read_map face_of w.sessions of.place s of.there in
    let fits = (f.slots q v is.there).fits of.place (face_of s) here of.in_node in
    let lease = claimed_lease v.links (slot_of key) at link (face_of s).grip (whole q v is.there).places has.0 has.1
    (subst (λ (k : ℕ). GripFits v.links k (face_of s).grip) of.slot fits.grip) in
    let hand = lease_of_hand s.hand lease.0 lease.1 lease.2 in
    let own = own_lease w f of.place lease.1 hand.0 s lease.0 of.there hand.1 in
    let same : lease.1 ≡ b = process_at w f lease.1 b own.2.0 process.process lease.0 link.details
    own.2.1 process.there own.2.2 process.of lease.3 in
    record {
      holds = record {
        place = of.place;
        outstanding = hand.0;
        session = s;
        lease = lease.0;
        is = record { there = of.there; named = of.named };
        stays = of.in_node.stays;
        here = (of.in_node.node ∙ is.named, of.in_node.incarnation);
        hand = subst (λ (k : ℕ). s.hand ≡ Hand.Lease lease.0 k hand.0) same hand.1;
      };
      last = ap (slice_get (lasts_of w)) (sym same) ∙ own.3 ∙ ap (λ (l : ℕ). Some (Some l)) of.named;
    }

-- so it is the holder that a new connection knows
pub holder_is : (w : World) → Facts w → (node incarnation b label : ℕ) (holder : Option ℕ)
    → HasClient w node incarnation b label → IsHolder w node incarnation b holder → holder ≡ Some label
holder_is w f node incarnation b label None has none = absurd (none label has.holds)
holder_is w f node incarnation b label (Some other) has held =
    let own = own_lease w f held.place b held.outstanding held.session held.lease held.is.there held.hand in
    let same : held.session.label ≡ label = same_Some held.session.label label
    (same_Some (Some held.session.label) (Some label) (sym own.3 ∙ has.last)) in
    ap Some (sym held.is.named ∙ same)
