-- The end of a cancel connection is reported to the node that sent it.
use Rattle.std.proofs.Common.{◌≡◌, ◌≢◌, ℕ, zero, suc, ◌+◌, ◌≤◌, ⊎_elim, Bool, true, false, List, [], ◌∷◌, Option, Some, None, refl, ap, sym, subst, ◌∙◌, arith, ◌==◌, ◌&&◌, length-set}
use Rattle.std.proofs.Math.ListN.{set}
use Rattle.std.specs.List.{slice_get}
use Rattle.std.proofs.lemmas.Option.{same_Some, none-some}
use Rattle.std.proofs.lemmas.Bool.{eq-eqb}
use Rattle.pg_ids.specs.AnyKey.{slot_of}
use Rattle.lease.specs.declared.{link_record.LinkRecord.LinkRecord, link_place.LinkPlace.LinkPlace}
use Rattle.lease.specs.declared.permit.PermitRecord.{PermitRecord}
use Rattle.quarantine.specs.OpenTickets.{OpenTickets}
use Rattle.link_pool.specs.declared.place.{Place.Place, Link.Link, LinkState.LinkState, Claim.Claim}
use Rattle.link_pool.specs.Pool.{PoolView, place_at, with_place, claims_without, nothing_for}
use Rattle.link_pool.specs.PoolStep.{is_holding, link_of, with_hold}
use Rattle.link_pool.proofs.Changes.{place_here, place_there}
use Rattle.node_core.specs.View.{NodeView}
use Rattle.world.specs.World.{World, Backend, Connection, Report, IsNode}
use Rattle.world.specs.Facts.{Process, Grip, processes_of, lasts_of, faces_of, GripFits, IsProcess, LinkStands, is_open_for, open_for, is_with_client, load_of, Facts, AreWhole}
use Rattle.world.proofs.Lists.{set_cases}
use Rattle.world.proofs.Holding.{link_fits, link_place}
use Rattle.world.proofs.Connections.{servers_kept, Advances, OneAdvances, goes_on, connections_kept, numbers_kept, earned_kept, forwards_kept}
use Rattle.world.proofs.LinkSteps.{one_grew, links_grew, nodes_grew, issues_grew, numbers_grew, with_links, Moves, same_face, regrips_not, was_in, links_moved, slots_moved, rest_moved, which_place}
use Rattle.world.proofs.GoingUp.{not_equal}

-- a connection to another process is reported
open_other : (was : List Connection) (k : ℕ) (c d : Connection) (b : ℕ)
    → slice_get was k ≡ Some c → d.backend ≡ c.backend → c.backend ≢ b
    → open_for b (set was k d) ≡ open_for b was
open_other [] k c d b there same apart = refl
open_other (x ∷ xs) zero c d b there same apart =
    let one : x ≡ c = same_Some x c there in
    let before : (x.backend == b) ≡ false =
    not_equal x.backend b (λ e. apart (ap (λ (z : Connection). z.backend) (sym one) ∙ e)) in
    let after : (d.backend == b) ≡ false = not_equal d.backend b (λ e. apart (sym same ∙ e)) in
    rw (before, after) refl
open_other (x ∷ xs) (suc k) c d b there same apart =
    rw (open_other xs k c d b there same apart) refl

-- a connection to this process is reported
pub open_less : (was : List Connection) (k : ℕ) (c d : Connection) (b : ℕ) (how : Report)
    → slice_get was k ≡ Some c → c.backend ≡ b → c.report ≡ None → d.report ≡ Some how
    → open_for b was ≡ open_for b (set was k d) + 1
open_less [] k c d b how there of none some = absurd (none-some c there)
open_less (x ∷ xs) zero c d b how there of none some =
    let one : x ≡ c = same_Some x c there in
    let first : (x.backend == b) ≡ true = eq-eqb x.backend b (ap (λ (z : Connection). z.backend) one ∙ of) in
    let second : x.report ≡ None = ap (λ (z : Connection). z.report) one ∙ none in
    rw (first, second, no_more d b how some) (omega arith)
  where
    no_more : (d : Connection) (b : ℕ) (how : Report) → d.report ≡ Some how → is_open_for b d ≡ false
    no_more d b how some = rw some (neither (d.backend == b))
      where
        neither : (t : Bool) → t && false ≡ false
        neither true = refl
        neither false = refl
open_less (x ∷ xs) (suc k) c d b how there of none some =
    let more = open_less xs k c d b how there of none some in omega (arith, more)

-- what is known of an end's report, and of what it leaves
pub record IsReport (w : World) (k q : ℕ) (c d : Connection) (v : NodeView) (u : PoolView) : Type 0 where
  pub there : slice_get w.connections k ≡ Some c
  pub step : Advances c d
  pub node : IsNode w.nodes c.ticket.peer q v
  pub moves : Moves v.links u c.ticket.at
  pub link : v.links.next_link ≤ u.next_link
  pub ticket : v.links.next_ticket ≤ u.next_ticket
  pub grips : (s : ℕ) (g : Grip) → GripFits v.links s g → GripFits u s g
  pub here : (l : Link) → place_at u c.ticket.at ≡ Some (Place.Link l)
      → (b : ℕ) × IsProcess w.group (processes_of w) v.me l b
      × LinkStands (faces_of w) (lasts_of w) (set w.connections k d) v l b
  pub rest : (l : Link) (j : ℕ) (b : Backend) → place_at u c.ticket.at ≡ Some (Place.Link l)
      → is_with_client l.state ≡ false → slice_get w.backends j ≡ Some b
      → b.link ≡ Some l.details → load_of b ≡ 0

-- a link of another process stands as it stood
pub other_stands : (w : World) (k : ℕ) (c d : Connection) (view n : NodeView) (link : Link) (b : ℕ)
    → slice_get w.connections k ≡ Some c → Advances c d → c.backend ≢ b
    → n.me ≡ view.me → n.links.incarnation ≡ view.links.incarnation
    → LinkStands (faces_of w) (lasts_of w) w.connections view link b
    → LinkStands (faces_of w) (lasts_of w) (set w.connections k d) n link b
other_stands w k c d view n link b there step apart me incarnation h = record {
  tickets = h.tickets ∙ sym (open_other w.connections k c d b there step.backend apart);
  hasty = λ i x how at of acted reported. ⊎_elim
      (λ was. h.hasty i x how was.1 of acted reported)
      (λ new. absurd (apart (sym step.backend ∙ ap (λ (z : Connection). z.backend) (sym new.1) ∙ of)))
      (set_cases w.connections k i x d at);
  giver = λ i slot face given at is key. h.giver i slot face given at
      (was_in view n face face (same_face face) me incarnation is) key;
}

-- the process of a connection is that of its ticket's link alone
pub ticket_link : (w : World) (k q i : ℕ) (c : Connection) (v view : NodeView) (at : LinkPlace) (link : Link)
    → Facts w → AreWhole w.nodes → slice_get w.connections k ≡ Some c
    → IsNode w.nodes c.ticket.peer q v → slice_get w.nodes i ≡ Some view
    → place_at view.links at ≡ Some (Place.Link link)
    → IsProcess w.group (processes_of w) view.me link c.backend
    → (i ≡ q) × (at ≡ c.ticket.at) × (link.details ≡ link_of c.ticket)
ticket_link w k q i c v view at link f whole there is at_i at_place process =
    let h = f.connections.each k c there in
    let one : process.process ≡ h.process = same_Some process.process h.process (sym process.there ∙ h.there) in
    let same : link.details ≡ link_of c.ticket = same_Some link.details (link_of c.ticket)
    (sym process.of ∙ ap (λ (p : Process). p.link) one ∙ h.link) in
    let fits = link_fits view.links at link (whole i view at_i).places at_place in
    let number : view.me ≡ c.ticket.peer = sym (whole i view at_i).node.own.1
    ∙ ap (λ (l : LinkRecord). l.peer) (sym fits.says ∙ same) in (
      f.nodes.once i q view v at_i is.there (number ∙ sym is.named),
      sym (link_place view.links at link (whole i view at_i).places at_place) ∙ ap (λ (l : LinkRecord). l.at) same,
      same,
    )

pub report_kept : (w : World) (k q : ℕ) (c d : Connection) (v : NodeView) (u : PoolView)
    → AreWhole w.nodes → IsReport w k q c d v u → Facts w
    → Facts (record w { nodes = set w.nodes q (with_links v u); connections = set w.connections k d })
report_kept w k q c d v u whole r f =
    let one : OneAdvances w.connections k c d = record { there = r.there; step = r.step } in
    let news = set w.nodes q (with_links v u) in
    let faces = faces_of w in
    let at_q = r.node.there in
    let grew = one_grew w.nodes q v (with_links v u) at_q (links_grew v u r.moves.incarnation r.link r.ticket) in
    record {
      servers = servers_kept w.arrivals (processes_of w) (lasts_of w) w.connections k c d f.connections one
          w.group faces f.servers;
      nodes = nodes_grew w.nodes news (length-set w.nodes q _) grew f.nodes;
      issues = issues_grew w.nodes news w.starts w.issues grew f.issues;
      clients = f.clients;
      slots = slots_moved w.nodes faces faces q v u at_q r.moves.incarnation (regrips_not faces) f.slots
          (λ i j view x apart at_i at_j is. at_j)
          (λ j x at_j is. r.grips (slot_of x.pass.key) x.grip
          ((f.slots q v at_q).fits j x at_j
          (was_in v (with_links v u) x x (same_face x) refl r.moves.incarnation is)).grip);
      processes = f.processes;
      numbers = numbers_kept w.arrivals (processes_of w) (lasts_of w) w.connections k c d f.connections one
          news faces (numbers_grew w.nodes news faces (processes_of w) w.connections grew f.numbers);
      links = links_moved w.group w.nodes faces faces (processes_of w) (lasts_of w) w.connections (set w.connections k d)
          q v u c.ticket.at at_q r.moves f.links
          (λ i view n at link b at_i me incarnation at_place other process stands.
          other_stands w k c d view n link b r.there r.step
          (λ e. let mine = ticket_link w k q i c v view at link f whole r.there r.node at_i at_place
          (subst (IsProcess w.group (processes_of w) view.me link) (sym e) process) in
          other mine.0 mine.1) me incarnation stands)
          (λ l at_l. let h = r.here l at_l in (
            h.0,
            h.1,
            record {
              tickets = h.2.tickets;
              hasty = h.2.hasty;
              giver = λ i slot face given at is key. h.2.giver i slot face given at
                  (was_in v (with_links v u) face face (same_face face) refl r.moves.incarnation is) key;
            },
          ));
      connections = connections_kept w.arrivals (processes_of w) (lasts_of w) w.connections k c d f.connections one;
      loads = record {
        own = f.loads.own;
        outstanding = f.loads.outstanding;
        rest = rest_moved w.nodes w.backends q v u c.ticket.at r.moves at_q f.loads.rest r.rest;
      };
      forwards = forwards_kept w.forwards (omega arith)
          (goes_on w.arrivals (processes_of w) (lasts_of w) w.connections k c d f.connections one w.forwards)
          f.forwards;
      safe = record {
        struck = f.safe.struck;
        taken = f.safe.taken;
        earned = earned_kept w.arrivals (processes_of w) (lasts_of w) w.connections k c d f.connections one
            w.issues f.safe.earned;
      };
    }

-- who has neither a link nor a permit has neither, once a client has nothing
free_without : (o : Option ℕ) (claims : List Claim) (s : ℕ) → is_holding (slice_get claims s) ≡ false
    → is_holding (slice_get (claims_without o claims) s) ≡ false
free_without None claims s free = free
free_without (Some slot) claims s free = once claims slot s free
  where
    once : (claims : List Claim) (slot s : ℕ) → is_holding (slice_get claims s) ≡ false
        → is_holding (slice_get (set claims slot Claim.Nothing) s) ≡ false
    once [] slot s free = free
    once (x ∷ xs) zero zero free = refl
    once (x ∷ xs) zero (suc s) free = free
    once (x ∷ xs) (suc slot) zero free = free
    once (x ∷ xs) (suc slot) (suc s) free = once xs slot s free

-- what clients have fits, where a place has changed that no client has
pub grips_apart : (v : PoolView) (at : LinkPlace) (link : Link) (p : Place) (g : Option ℕ)
    → place_at v at ≡ Some (Place.Link link) → is_with_client link.state ≡ false
    → (s : ℕ) (grip : Grip) → GripFits v s grip → GripFits (nothing_for g (with_place v at p)) s grip
grips_apart v at link p g there free s Grip.Nothing fits = free_without g v.claims s fits
grips_apart v at link p g there free s (Grip.Permit permit) fits =
    place_there v at permit.at p _ (λ e. link_or_open permit (sym there ∙ ap (place_at v) (sym e) ∙ fits)) ∙ fits
  where
    link_or_open : (permit : PermitRecord) → Some (Place.Link link) ≡ Some (Place.Open permit s) → ⊥
    link_or_open permit h = cc
grips_apart v at link p g there free s (Grip.Lease lease b) fits = (
  fits.0,
  record {
    at = place_there v at lease.at p _ (λ e. not_held fits.0 (sym there ∙ ap (place_at v) (sym e) ∙ fits.1.at) fits.1.held) ∙ fits.1.at;
    says = fits.1.says;
    held = fits.1.held;
  },
)
  where
    same_link : (l : Link) → Some (Place.Link link) ≡ Some (Place.Link l) → link ≡ l
    same_link l h = cc

    differ : true ≡ false → ⊥
    differ h = cc

    not_held : (l : Link) → Some (Place.Link link) ≡ Some (Place.Link l) → l.state ≡ LinkState.Held s → ⊥
    not_held l e h = differ (sym (ap (λ (z : Link). is_with_client z.state) (same_link l e) ∙ ap is_with_client h) ∙ free)

-- what clients have fits, where a link has other tickets
pub grips_held : (v : PoolView) (at : LinkPlace) (link : Link) (hold : OpenTickets)
    → place_at v at ≡ Some (Place.Link link)
    → (s : ℕ) (grip : Grip) → GripFits v s grip → GripFits (with_place v at (Place.Link (with_hold link hold))) s grip
grips_held v at link hold there s Grip.Nothing fits = fits
grips_held v at link hold there s (Grip.Permit permit) fits =
    place_there v at permit.at (Place.Link (with_hold link hold)) _ (λ e. link_or_open permit (sym there ∙ ap (place_at v) (sym e) ∙ fits)) ∙ fits
  where
    link_or_open : (permit : PermitRecord) → Some (Place.Link link) ≡ Some (Place.Open permit s) → ⊥
    link_or_open permit h = cc
grips_held v at link hold there s (Grip.Lease lease b) fits = ⊎_elim
    (λ same. let one : link ≡ fits.0 = same_link fits.0 (sym there ∙ ap (place_at v) (sym same) ∙ fits.1.at) in (
      with_hold link hold,
      record {
        at = ap (place_at (with_place v at (Place.Link (with_hold link hold)))) same
            ∙ place_here v at (Place.Link link) (Place.Link (with_hold link hold)) _ there;
        says = ap (λ (z : Link). z.details) one ∙ fits.1.says;
        held = ap (λ (z : Link). z.state) one ∙ fits.1.held;
      },
    ))
    (λ apart. (
      fits.0,
      record {
        at = place_there v at lease.at (Place.Link (with_hold link hold)) _ apart ∙ fits.1.at;
        says = fits.1.says;
        held = fits.1.held;
      },
    ))
    (which_place lease.at at)
  where
    same_link : (l : Link) → Some (Place.Link link) ≡ Some (Place.Link l) → link ≡ l
    same_link l h = cc
