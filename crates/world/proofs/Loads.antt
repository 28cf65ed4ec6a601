-- Requests go to their server processes, and answers come back.
use Rattle.std.proofs.Common.{◌≡◌, ℕ, suc, ◌+◌, ◌-◌, ◌<◌, ⊎_elim, true, false, List, [], ◌∷◌, Option, Some, None, map, refl, ap, sym, subst, ◌∙◌, arith, length-append}
use Rattle.std.proofs.Math.ListN.{set}
use Rattle.std.specs.List.{slice_get}
use Rattle.std.proofs.lemmas.Option.{same_Some, none-some}
use Rattle.lease.specs.declared.{link_record.LinkRecord.LinkRecord, link_place.LinkPlace.LinkPlace}
use Rattle.link_pool.specs.declared.place.{Place.Place, Link.Link, LinkState.LinkState}
use Rattle.link_pool.specs.Pool.{place_at}
use Rattle.node_core.specs.View.{NodeView}
use Rattle.world.specs.World.{World, Backend, Hand, Session}
use Rattle.world.specs.Changes.{and_then, holding, with_backend}
use Rattle.world.specs.Admissible.{MayTake, IsRunning, MayGetReady}
use Rattle.world.specs.LinkEvents.{Sends, GetsReady, Takes, Finishes, rests}
use Rattle.world.specs.Facts.{AreServers, Process, process_of, last_holder, Grip, Face, face_of, IsOwnGrip, load_of, IsOwnLoad, is_with_client, AreAtRest, AreLoads, AreClients, AllFitSlots, AreProcesses, NumbersLeft, AllLinksStand, AreConnections, Facts, processes_of, lasts_of, faces_of, AreWhole}
use Rattle.world.proofs.Lists.{set_here, set_cases, added_cases, read_map, same_map}
use Rattle.world.proofs.Holding.{one_session, link_with_client, grip_of_lease}

-- only what is outstanding, and what is on its way, has changed
pub carried : (w : World) (sessions : List Session) (backends : List Backend)
    → map face_of sessions ≡ faces_of w → map process_of backends ≡ processes_of w
    → map last_holder backends ≡ lasts_of w → AreLoads w.nodes sessions backends → Facts w
    → Facts (record w { sessions = sessions; backends = backends })
carried w sessions backends same_faces same_processes same_lasts loads f = record {
  servers = subst (λ (fs : List Face). AreServers w.group fs w.connections) (sym same_faces) f.servers;
  nodes = f.nodes;
  issues = f.issues;
  clients = subst (λ (fs : List Face). AreClients w.issues (map process_of backends) (map last_holder backends) fs)
      (sym same_faces) (subst (λ (ps : List Process). AreClients w.issues ps (map last_holder backends) (faces_of w))
      (sym same_processes) (subst (λ (ls : List (Option ℕ)). AreClients w.issues (processes_of w) ls (faces_of w))
      (sym same_lasts) f.clients));
  slots = subst (AllFitSlots w.nodes) (sym same_faces) f.slots;
  processes = subst AreProcesses (sym same_processes) f.processes;
  numbers = subst (λ (fs : List Face). NumbersLeft w.nodes fs (map process_of backends) w.connections)
      (sym same_faces) (subst (λ (ps : List Process). NumbersLeft w.nodes (faces_of w) ps w.connections)
      (sym same_processes) f.numbers);
  links = subst (λ (fs : List Face). AllLinksStand w.group w.nodes fs (map process_of backends) (map last_holder backends) w.connections)
      (sym same_faces) (subst (λ (ps : List Process). AllLinksStand w.group w.nodes (faces_of w) ps (map last_holder backends) w.connections)
      (sym same_processes) (subst (λ (ls : List (Option ℕ)). AllLinksStand w.group w.nodes (faces_of w) (processes_of w) ls w.connections)
      (sym same_lasts) f.links));
  connections = subst (λ (ps : List Process). AreConnections w.arrivals ps (map last_holder backends) w.connections)
      (sym same_processes) (subst (λ (ls : List (Option ℕ)). AreConnections w.arrivals (processes_of w) ls w.connections)
      (sym same_lasts) f.connections);
  loads = loads;
  forwards = f.forwards;
  safe = record { struck = f.safe.struck; taken = f.safe.taken; earned = f.safe.earned };
}

-- a server process has another load of the same client
pub record Reloads (x y : Backend) : Type 0 where
  pub link : y.link ≡ x.link
  pub own : IsOwnLoad y

module _ (nodes : List NodeView) (sessions : List Session) (backends : List Backend) (at : ℕ) (x y : Backend)
    (old : AreLoads nodes sessions backends) (there : slice_get backends at ≡ Some x) (step : Reloads x y) where
  own_kept : (i : ℕ) (b : Backend) → slice_get (set backends at y) i ≡ Some b → IsOwnLoad b
  own_kept i b here = ⊎_elim (λ same. old.own i b same.1)
      (λ new. subst IsOwnLoad (sym new.1) step.own) (set_cases backends at i b y here)

  -- links that no client has are at rest, if this one is where no client has it
  rest_kept : ((i : ℕ) (view : NodeView) (k : LinkPlace) (link : Link) → slice_get nodes i ≡ Some view
      → place_at view.links k ≡ Some (Place.Link link) → is_with_client link.state ≡ false
      → x.link ≡ Some link.details → load_of y ≡ 0)
      → (i : ℕ) (view : NodeView) → slice_get nodes i ≡ Some view
      → AreAtRest (set backends at y) view
  rest_kept rests i view at_node k link j b at_place free here of = ⊎_elim
      (λ same. old.rest i view at_node k link j b at_place free same.1 of)
      (λ new. ap load_of new.1 ∙ rests i view k link at_node at_place free
      (sym step.link ∙ ap (λ (z : Backend). z.link) (sym new.1) ∙ of))
      (set_cases backends at j b y here)

  -- as much is on its way as before
  pub loads_same : load_of y ≡ load_of x → AreLoads nodes sessions (set backends at y)
  loads_same same = record {
    own = own_kept;
    outstanding = λ i place n s lease b at_s hand here. ⊎_elim
        (λ other. old.outstanding i place n s lease b at_s hand other.1)
        (λ new. old.outstanding i place n s lease x at_s hand (ap (slice_get backends) new.0 ∙ there)
        ∙ sym same ∙ ap load_of (sym new.1))
        (set_cases backends at place b y here);
    rest = rest_kept (λ i view k link at_node at_place free of.
        same ∙ old.rest i view at_node k link at x at_place free there of);
  }

-- one more, or one less, is outstanding
pub loads_moved : (nodes : List NodeView) (sessions : List Session) (backends : List Backend)
    (p at n m : ℕ) (s t : Session) (x y : Backend) (lease : LinkRecord)
    → AreLoads nodes sessions backends → slice_get sessions p ≡ Some s
    → slice_get backends at ≡ Some x → Reloads x y
    → t.hand ≡ Hand.Lease lease at m → m ≡ load_of y
    → ((i k : ℕ) (z : Session) (l : LinkRecord) → slice_get sessions i ≡ Some z
    → z.hand ≡ Hand.Lease l at k → i ≡ p)
    → ((i : ℕ) (view : NodeView) (k : LinkPlace) (link : Link) → slice_get nodes i ≡ Some view
    → place_at view.links k ≡ Some (Place.Link link) → is_with_client link.state ≡ false
    → x.link ≡ Some link.details → load_of y ≡ 0)
    → AreLoads nodes (set sessions p t) (set backends at y)
loads_moved nodes sessions backends p at n m s t x y lease old at_p there step now load only rests = record {
  own = own_kept nodes sessions backends at x y old there step;
  outstanding = λ i place k z l b at_z hand here. ⊎_elim
      (λ other. ⊎_elim
      (λ apart. old.outstanding i place k z l b other.1 hand apart.1)
      (λ new. absurd (other.0 (only i k z l other.1
      (subst (λ (q : ℕ). z.hand ≡ Hand.Lease l q k) new.0 hand))))
      (set_cases backends at place b y here))
      (λ mine. let both : Hand.Lease lease at m ≡ Hand.Lease l place k =
      sym now ∙ ap (λ (q : Session). q.hand) (sym mine.1) ∙ hand in
      let same = same_lease lease l at place m k both in
      let is : b ≡ y = same_Some b y (sym here ∙ ap (slice_get (set backends at y)) (sym same.0)
      ∙ set_here backends at x y there) in
      sym same.1 ∙ load ∙ ap load_of (sym is))
      (set_cases sessions p i z t at_z);
  rest = rest_kept nodes sessions backends at x y old there step rests;
}
  where
    same_lease : (l k : LinkRecord) (a b c d : ℕ) → Hand.Lease l a c ≡ Hand.Lease k b d
        → (a ≡ b) × (c ≡ d)
    same_lease l k a b c d h = (cc, cc)

-- a server process takes its next request
pub take_kept : (old new : World) (at : ℕ) → MayTake old at → Takes at old new → Facts old
    → Facts new
take_kept old new at may does f =
    let x = does.backend in
    let y : Backend = record x { wire = does.rest; running = Some does.label } in
    let one : may.backend ≡ x = same_Some may.backend x (sym may.there ∙ does.there) in
    let idle : x.running ≡ None = ap (λ (b : Backend). b.running) (sym one) ∙ may.free in
    let own = f.loads.own at x does.there in
    let step : Reloads x y = record {
      link = refl;
      own = record {
        wire = λ i l h. own.wire (suc i) l
            (ap (λ (w : List ℕ). slice_get w (suc i)) does.first ∙ h);
        running = λ l e. own.wire 0 l (ap (λ (w : List ℕ). slice_get w 0) does.first ∙ e);
      };
    } in
    let same : load_of y ≡ load_of x = rw (does.first, idle) (omega arith) in
    subst Facts (sym does.after) (carried old old.sessions (set old.backends at y) refl
    (same_map process_of old.backends at x y does.there refl)
    (same_map last_holder old.backends at x y does.there refl)
    (loads_same old.nodes old.sessions old.backends at x y f.loads does.there step same) f)

-- a server process that runs a request rests
pub rests_kept : (w : World) (at label : ℕ) (x : Backend) → slice_get w.backends at ≡ Some x
    → x.running ≡ Some label → Facts w → Facts (with_backend at (rests x) w)
rests_kept w at label x there runs f =
    let own = f.loads.own at x there in
    let step : Reloads x (rests x) = record {
      link = refl;
      own = record { wire = own.wire; running = λ l e. absurd (none-some l e) };
    } in
    let same : load_of (rests x) ≡ load_of x = rw runs (omega arith) in
    carried w w.sessions (set w.backends at (rests x)) refl
    (same_map process_of w.backends at x (rests x) there refl)
    (same_map last_holder w.backends at x (rests x) there refl)
    (loads_same w.nodes w.sessions w.backends at x (rests x) f.loads there step same) f

pub finish_kept : (old new : World) (at : ℕ) → IsRunning old at → Finishes at old new → Facts old
    → Facts new
finish_kept old new at may does f =
    let one : may.backend ≡ does.backend =
    same_Some may.backend does.backend (sym may.there ∙ does.there) in
    subst Facts (sym does.after) (rests_kept old at may.label does.backend does.there
    (ap (λ (b : Backend). b.running) (sym one) ∙ may.runs) f)

-- a client has the only lease of its server process
only_lease : (w : World) → Facts w → (p at n : ℕ) (s : Session) (lease : LinkRecord)
    → slice_get w.sessions p ≡ Some s → s.hand ≡ Hand.Lease lease at n
    → (i k : ℕ) (z : Session) (l : LinkRecord) → slice_get w.sessions i ≡ Some z
    → z.hand ≡ Hand.Lease l at k → i ≡ p
only_lease w f p at n s lease at_p hand i k z l at_i has =
    let mine = last_of w f p at n s lease at_p hand in
    let its = last_of w f i at k z l at_i has in
    let same : z.label ≡ s.label =
    same_Some z.label s.label (same_Some (Some z.label) (Some s.label) (sym its ∙ mine)) in
    f.clients.labels i p (face_of z) (face_of s) (read_map face_of w.sessions i z at_i)
    (read_map face_of w.sessions p s at_p) same
  where
    last_of : (w : World) → Facts w → (p at n : ℕ) (s : Session) (lease : LinkRecord)
        → slice_get w.sessions p ≡ Some s → s.hand ≡ Hand.Lease lease at n
        → slice_get (lasts_of w) at ≡ Some (Some s.label)
    last_of w f p at n s lease at_p hand =
        let client = f.clients.each p (face_of s) (read_map face_of w.sessions p s at_p) in
        let own : IsOwnGrip (processes_of w) (lasts_of w) (face_of s) (Grip.Lease lease at) =
        subst (IsOwnGrip (processes_of w) (lasts_of w) (face_of s)) (grip_of_lease s lease at n hand) client.grip in
        own.3

-- what a client's lease is of
lease_process : (w : World) → Facts w → (p at n : ℕ) (s : Session) (lease : LinkRecord) (x : Backend)
    → slice_get w.sessions p ≡ Some s → s.hand ≡ Hand.Lease lease at n
    → slice_get w.backends at ≡ Some x
    → (x.link ≡ Some lease) × (last_holder x ≡ Some s.label)
lease_process w f p at n s lease x at_p hand there =
    let client = f.clients.each p (face_of s) (read_map face_of w.sessions p s at_p) in
    let own : IsOwnGrip (processes_of w) (lasts_of w) (face_of s) (Grip.Lease lease at) =
    subst (IsOwnGrip (processes_of w) (lasts_of w) (face_of s)) (grip_of_lease s lease at n hand) client.grip in
    let one : own.2.0 ≡ process_of x = same_Some own.2.0 (process_of x)
    (sym own.2.1 ∙ read_map process_of w.backends at x there) in (
      ap (λ (q : Process). q.link) (sym one) ∙ own.2.2,
      same_Some (last_holder x) (Some s.label)
          (sym (read_map last_holder w.backends at x there) ∙ own.3),
    )

-- the requests of a wire, and one more
on_wire : (wire : List ℕ) (label : ℕ) (last : Option ℕ)
    → ((i l : ℕ) → slice_get wire i ≡ Some l → last ≡ Some l) → last ≡ Some label
    → (i l : ℕ) → slice_get (and_then wire label) i ≡ Some l → last ≡ Some l
on_wire wire label last all is i l h = ⊎_elim (λ was. all i l was)
    (λ new. is ∙ ap Some (sym new.1)) (added_cases wire label i l h)

-- a client sends a request
pub send_kept : (old new : World) (label : ℕ) → AreWhole old.nodes → Sends label old new
    → Facts old → Facts new
send_kept old new label whole does f =
    let x = does.backend in
    let s = does.session in
    let at_p = does.is.is.there in
    let y : Backend = record x { wire = and_then x.wire label } in
    let t : Session = holding (Hand.Lease does.lease does.at (does.outstanding + 1)) s in
    let of = lease_process old f does.place does.at does.outstanding s does.lease x at_p
    does.is.hand does.is.there in
    let own = f.loads.own does.at x does.is.there in
    let is_last : last_holder x ≡ Some label = of.1 ∙ ap Some does.is.is.named in
    let step : Reloads x y = record {
      link = refl;
      own = record {
        wire = on_wire x.wire label (last_holder x) own.wire is_last;
        running = own.running;
      };
    } in
    let was = f.loads.outstanding does.place does.at does.outstanding s does.lease x at_p
    does.is.hand does.is.there in
    let long = length-append x.wire (label ∷ []) in
    let load : does.outstanding + 1 ≡ load_of y = omega (arith, was, long) in
    let same : face_of t ≡ face_of s =
    ap (λ (g : Grip). record (face_of s) { grip = g })
    (sym (grip_of_lease s does.lease does.at does.outstanding does.is.hand)) in
    subst Facts (sym does.after) (carried old (set old.sessions does.place t)
    (set old.backends does.at y)
    (same_map face_of old.sessions does.place s t at_p same)
    (same_map process_of old.backends does.at x y does.is.there refl)
    (same_map last_holder old.backends does.at x y does.is.there refl)
    (loads_moved old.nodes old.sessions old.backends does.place does.at does.outstanding
    (does.outstanding + 1) s t x y does.lease f.loads at_p does.is.there step refl load
    (only_lease old f does.place does.at does.outstanding s does.lease at_p does.is.hand)
    (λ i view k link at_node at_place free link_is.
    let details : link.details ≡ does.lease =
    same_Some link.details does.lease (sym link_is ∙ of.0) in
    let held = link_with_client old f whole does.place i does.at does.outstanding s does.lease view k link
    at_p does.is.hand at_node at_place details in
    absurd (with_and_without link.state _ held free))) f)
  where
    with_and_without : (x : LinkState) (slot : ℕ) → x ≡ LinkState.Held slot
        → is_with_client x ≡ false → ⊥
    with_and_without x slot e h = absurd (true_false (sym (ap is_with_client e) ∙ h))
      where
        true_false : true ≡ false → ⊥
        true_false h = cc

-- a client gets a ReadyForQuery
pub ready_kept : (old new : World) (label : ℕ) → MayGetReady old label → GetsReady label old new
    → Facts old → Facts new
ready_kept old new label may does f =
    let x = does.backend in
    let s = does.session in
    let at_p = does.is.is.there in
    let y : Backend = record x { readies = x.readies - 1 } in
    let t : Session = holding (Hand.Lease does.lease does.at (does.outstanding - 1)) s in
    let has = may.has in
    let same_s = one_session old f label has.1.place does.place has.1.session s has.1.is does.is.is in
    let hands : Hand.Lease has.0 may.place may.outstanding ≡ Hand.Lease does.lease does.at does.outstanding =
    sym has.1.holds ∙ ap (λ (z : Session). z.hand) same_s.1 ∙ does.is.hand in
    let place : may.place ≡ does.at = same_process has.0 does.lease may.place does.at may.outstanding does.outstanding hands in
    let one : may.backend ≡ x = same_Some may.backend x
    (sym may.there ∙ ap (slice_get old.backends) place ∙ does.is.there) in
    let some : 0 < x.readies = subst (λ (b : Backend). 0 < b.readies) one may.readies in
    let own = f.loads.own does.at x does.is.there in
    let step : Reloads x y = record {
      link = refl;
      own = record { wire = own.wire; running = own.running };
    } in
    let was = f.loads.outstanding does.place does.at does.outstanding s does.lease x at_p
    does.is.hand does.is.there in
    let load : does.outstanding - 1 ≡ load_of y = omega (arith, was, some) in
    let same : face_of t ≡ face_of s =
    ap (λ (g : Grip). record (face_of s) { grip = g })
    (sym (grip_of_lease s does.lease does.at does.outstanding does.is.hand)) in
    subst Facts (sym does.after) (carried old (set old.sessions does.place t)
    (set old.backends does.at y)
    (same_map face_of old.sessions does.place s t at_p same)
    (same_map process_of old.backends does.at x y does.is.there refl)
    (same_map last_holder old.backends does.at x y does.is.there refl)
    (loads_moved old.nodes old.sessions old.backends does.place does.at does.outstanding
    (does.outstanding - 1) s t x y does.lease f.loads at_p does.is.there step refl load
    (only_lease old f does.place does.at does.outstanding s does.lease at_p does.is.hand)
    (λ i view k link at_node at_place free link_is.
    let none = f.loads.rest i view at_node k link does.at x at_place free does.is.there link_is in
    absurd (omega (arith, none, some)))) f)
  where
    same_process : (l k : LinkRecord) (a b c d : ℕ) → Hand.Lease l a c ≡ Hand.Lease k b d → a ≡ b
    same_process l k a b c d h = cc
