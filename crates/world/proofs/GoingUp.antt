-- A client has opened a link.
use Rattle.std.proofs.Common.{◌≡◌, ◌≢◌, ℕ, zero, suc, ◌+◌, true, false, List, [], ◌∷◌, Option, Some, None, length, refl, ap, sym, subst, ◌∙◌, arith, ◌==◌}
use Rattle.std.proofs.Math.ListN.{set}
use Rattle.std.specs.List.{slice_get}
use Rattle.std.proofs.lemmas.Option.{same_Some, none-some}
use Rattle.std.proofs.lemmas.Bool.{eq-eqb}
use Rattle.std.proofs.lemmas.Bool.Decides.{eqb_tells}
use Rattle.pg_ids.specs.AnyKey.{slot_of}
use Rattle.lease.specs.declared.{link_record.LinkRecord.LinkRecord, link_place.LinkPlace.LinkPlace}
use Rattle.lease.specs.declared.permit.PermitRecord.{PermitRecord}
use Rattle.link_pool.specs.declared.place.{Place.Place, Link.Link, LinkState.LinkState, Claim.Claim}
use Rattle.link_pool.specs.declared.replies.UpReply.{UpReply}
use Rattle.link_pool.specs.Pool.{PoolView, place_at, in_state, lend}
use Rattle.link_pool.specs.OnePlace.{has_permit, open_for as kept_for}
use Rattle.link_pool.specs.PoolStep.{IsOpen, new_link, UpStep}
use Rattle.link_pool.proofs.Changes.{place_here, place_there, same_places}
use Rattle.node_core.specs.declared.client.Client.{Client}
use Rattle.node_core.specs.View.{NodeView, IsView}
use Rattle.node_core.specs.NodeStep.{LinksStep}
use Rattle.world.specs.declared.reply.Reply.{Reply}
use Rattle.world.specs.World.{World, Backend, Connection, Hand, Server, Session, IsBackend, IsNode, IsServer}
use Rattle.world.specs.Changes.{holding, with_nodes, with_session}
use Rattle.world.specs.Admissible.{MayGoUp}
use Rattle.world.specs.LinkEvents.{Opened, new_backend, with_new, GoesUp, Opens}
use Rattle.world.specs.Facts.{Process, process_of, last_holder, face_of, processes_of, lasts_of, faces_of, IsIn, IsProcess, LinkStands, open_for, is_with_client, load_of, IsOwnLoad, Facts, AreWhole}
use Rattle.world.proofs.Lists.{set_here, set_there, added_last, before_end, read_map, from_map, map_long}
use Rattle.world.proofs.Holding.{one_session}
use Rattle.world.proofs.LinkSteps.{with_links}
use Rattle.world.proofs.Steps.{change_kept, emptied_kept}
use Rattle.world.proofs.GivingBack.{open_belongs, written_at, same_nodes}
use Rattle.world.proofs.Opening.{permit_live, permit_fits, stale_permit, permit_slot}
use Rattle.world.proofs.Processes.{added_kept}
use Rattle.world.proofs.Waiting.{numbers_wait, wait_kept}

-- a place is written again
pub set_twice : {X : Type 0} (xs : List X) (i : ℕ) (x y : X) → set (set xs i x) i y ≡ set xs i y
set_twice [] i x y = refl
set_twice (z ∷ zs) zero x y = refl
set_twice (z ∷ zs) (suc i) x y = ap (λ ks. z ∷ ks) (set_twice zs i x y)

-- who has a permit claims it
permit_claimed : (o : Option Claim) (at : LinkPlace) → has_permit at o ≡ true
    → o ≡ Some (Claim.Open at)
permit_claimed (Some (Claim.Open other)) at h =
    ap (λ (k : LinkPlace). Some (Claim.Open k)) (same_places other at h)
permit_claimed o at h = absurd (cc)

-- a permit is for the database of its client
permit_database : (v : NodeView) (slot : ℕ) (client : Client) (permit : PermitRecord) → IsView v
    → slice_get v.clients slot ≡ Some (Some client) → IsOpen permit slot v.links
    → permit.at.database ≡ client.database
permit_database v slot client permit whole live kept =
    let has : has_permit permit.at (slice_get v.links.claims slot) ≡ true =
    whole.places.permits slot permit.at ∙ ap (kept_for slot) kept ∙ eq-eqb slot slot refl in
    let claim = permit_claimed (slice_get v.links.claims slot) permit.at has in
    rw (live, claim) at (whole.node.has slot)

-- no server process has this server and this key
abbrev NewKey : World → Server → List ℕ → Type 0
NewKey w server key = (i : ℕ) (b : Backend) → IsBackend w.backends server key i b → ⊥

new_key : (w : World) (server : Server) (key : List ℕ) → NewKey w server key → (i : ℕ) (a : Process)
    → slice_get (processes_of w) i ≡ Some a → a.server ≡ server → a.key ≡ key → ⊥
new_key w server key fresh i a at of by =
    let b = from_map process_of w.backends i a at in
    fresh i b.0 (record {
      there = b.1;
      of = ap (λ (p : Process). p.server) b.2 ∙ of;
      by = ap (λ (p : Process). p.key) b.2 ∙ by;
    })

-- a new server process has nothing to do
nothing_own : (server : Server) (key : List ℕ) (link : Option LinkRecord) (holder : Option ℕ)
    → IsOwnLoad (new_backend server key link holder)
nothing_own server key link holder = record {
  wire = λ i l e. absurd (none-some l e);
  running = λ l e. absurd (none-some l e);
}

-- a server process that no node took
untaken_kept : (w : World) (server : Server) (key : List ℕ) → NewKey w server key → Facts w
    → Facts (with_new (new_backend server key None None) w)
untaken_kept w server key fresh f = added_kept w (new_backend server key None None) (record {
  key = new_key w server key fresh;
  link = λ i a l at of e. none-some l e;
}) (λ l place view e is. absurd (none-some l e)) (nothing_own server key None None) refl f

-- the test of two numbers that differ
pub not_equal : (n m : ℕ) → n ≢ m → (n == m) ≡ false
not_equal n m apart = grind (arith, eqb_tells n m)

-- no connection is for a process that is still to come
none_open : (connections : List Connection) (b : ℕ)
    → ((i : ℕ) (c : Connection) → slice_get connections i ≡ Some c → c.backend ≢ b)
    → open_for b connections ≡ 0
none_open [] b none = refl
none_open (x ∷ xs) b none =
    rw (not_equal x.backend b (none 0 x refl), none_open xs b (λ i c at. none (suc i) c at)) refl

-- a link is open
lease_up : (w : World) (p q : ℕ) (s : Session) (permit : PermitRecord) (server : Server) (key : List ℕ) (v : NodeView) (lease : LinkRecord)
    → Facts w → AreWhole w.nodes → slice_get w.sessions p ≡ Some s → s.hand ≡ Hand.Permit permit
    → IsServer w.group s.node s.database server → NewKey w server key
    → IsNode w.nodes s.node q v → IsIn v (face_of s) → IsOpen permit (slot_of s.pass.key) v.links
    → lease ≡ record { peer = v.links.peer; incarnation = v.links.incarnation; link = v.links.next_link; at = permit.at }
    → Facts (with_session p (holding (Hand.Lease lease (length w.backends) 0) s)
    (with_new (new_backend server key (Some lease) (Some s.label))
    (with_nodes (set w.nodes q (with_links v (record (lend v.links permit.at (slot_of s.pass.key) (new_link lease key))
    { next_link = v.links.next_link + 1 }))) w)))
lease_up w p q s permit server key v lease f whole there hand at_server fresh is live kept says =
    let slot = slot_of s.pass.key in
    let hand2 : Hand = Hand.Lease lease (length w.backends) 0 in
    let u1 : PoolView = record v.links { next_link = v.links.next_link + 1 } in
    let v1 = with_links v u1 in
    let w1 : World = record w { nodes = set w.nodes q v1 } in
    let x = new_backend server key (Some lease) (Some s.label) in
    let peer : lease.peer ≡ v.me = ap (λ (l : LinkRecord). l.peer) says ∙ (whole q v is.there).node.own.1 in
    let number : lease.link ≡ v.links.next_link = ap (λ (l : LinkRecord). l.link) says in
    let place : lease.at ≡ permit.at = ap (λ (l : LinkRecord). l.at) says in
    let f1 : Facts w1 = wait_kept w q v u1 is.there
    (numbers_wait v.links (v.links.next_link + 1) v.links.next_permit v.links.next_ticket (omega arith) (omega arith)) f in
    let here1 : slice_get w1.nodes q ≡ Some v1 = set_here w.nodes q v v1 is.there in
    let f2 : Facts (with_new x w1) = added_kept w1 x (record {
      key = new_key w1 server key fresh;
      link = λ i a l at of e.
          let same : lease ≡ l = same_Some lease l e in
          let below = f.numbers.links i q a l v at of
          (record { there = is.there; named = sym peer ∙ ap (λ (k : LinkRecord). k.peer) same }) in
          let its : l.link ≡ lease.link = ap (λ (k : LinkRecord). k.link) (sym same) in
          omega (arith, below, its, number);
    }) (λ l k view e is_l.
    let same : lease ≡ l = same_Some lease l e in
    let its : l.link ≡ lease.link = ap (λ (z : LinkRecord). z.link) (sym same) in
    let where_it_is : k ≡ q = f1.nodes.once k q view v1 is_l.there here1
    (is_l.named ∙ ap (λ (z : LinkRecord). z.peer) (sym same) ∙ peer) in
    let one : view ≡ v1 = same_Some view v1 (sym is_l.there ∙ ap (slice_get w1.nodes) where_it_is ∙ here1) in
    let next : view.links.next_link ≡ v.links.next_link + 1 = ap (λ (z : NodeView). z.links.next_link) one in
    omega (arith, its, number, next)) (nothing_own server key (Some lease) (Some s.label)) refl f1 in
    let w2 = with_new x w1 in
    let link : Link = in_state (LinkState.Held slot) (new_link lease key) in
    let u : PoolView = record (lend v.links permit.at slot (new_link lease key)) { next_link = v.links.next_link + 1 } in
    let at_last : slice_get w2.backends (length w.backends) ≡ Some x = added_last w.backends x in
    let is_link : (l : Link) → place_at u permit.at ≡ Some (Place.Link l) → link ≡ l =
    λ l e. same_link link l (written_at v.links permit.at (Place.Open permit slot) (Place.Link link) (Place.Link l) _ kept e) in
    let written : place_at u permit.at ≡ Some (Place.Link link) =
    place_here v.links permit.at (Place.Open permit slot) (Place.Link link) _ kept in
    let face = read_map face_of w.sessions p s there in
    let fits = (f.slots q v is.there).fits p (face_of s) face live in
    let database : lease.at.database ≡ s.database = ap (λ (k : LinkPlace). k.database) place
    ∙ permit_database v slot (record { database = s.database; pass = s.pass.number }) permit (whole q v is.there) fits.client kept in
    let f3 = change_kept w2 p q s v1 u permit.at hand2 (record {
      session = there;
      node = here1;
      live = record { stays = live.stays; node = live.node; incarnation = live.incarnation };
      alters = record {
        incarnation = refl;
        link = omega arith;
        ticket = omega arith;
        places = λ k n. place_there v.links permit.at k (Place.Link link) _ n;
        claims = λ c n. set_there v.links.claims slot c (Claim.Link permit.at) n;
      };
      belongs = open_belongs u1 permit.at permit slot kept;
      own = (
        peer ∙ is.named,
        ap (λ (l : LinkRecord). l.incarnation) says ∙ sym live.incarnation,
        (process_of x, read_map process_of w2.backends (length w.backends) x at_last, refl),
        read_map last_holder w2.backends (length w.backends) x at_last,
      );
      fits = (
        link,
        record {
          at = ap (place_at u) place ∙ written;
          says = refl;
          held = refl;
        },
      );
      links = λ l e. subst (λ (z : Link). (b : ℕ) × IsProcess w.group (processes_of w2) v.me z b
          × LinkStands (faces_of w2) (lasts_of w2) w.connections v1 z b) (is_link l e) (
            length w.backends,
            record {
              process = process_of x;
              there = read_map process_of w2.backends (length w.backends) x at_last;
              of = refl;
              key = refl;
              server = subst (λ (n : ℕ). IsServer w.group n lease.at.database server) (sym is.named)
                  (subst (λ (d : ℕ). IsServer w.group s.node d server) (sym database) at_server);
            },
            record {
              tickets = sym (none_open w.connections (length w.backends) (λ i c at. not_last i c at));
              hasty = λ i c how at of acted reported. absurd (not_last i c at of);
              giver = λ i k z given at_i is_in of. absurd (held_or_given slot k given);
            },
          );
      rest = λ l j b e without at_j of. absurd (differ
          (ap (λ (z : Link). is_with_client z.state) (is_link l e) ∙ without));
      outstanding = λ k m l b e at_b.
          let same = same_lease lease l (length w.backends) k 0 m e in
          let one : b ≡ x = same_Some b x (sym at_b ∙ ap (slice_get w2.backends) (sym same.0) ∙ at_last) in
          sym same.1 ∙ ap load_of (sym one);
    }) f2 in
    subst (λ (ns : List NodeView). Facts (with_session p (holding hand2 s) (with_new x (with_nodes ns w))))
    (set_twice w.nodes q v1 (with_links v u)) f3
  where
    same_link : (a b : Link) → Place.Link a ≡ Place.Link b → a ≡ b
    same_link a b h = cc

    held_or_given : (a b : ℕ) → LinkState.Held a ≡ LinkState.Quarantined (Some b) → ⊥
    held_or_given a b h = cc

    differ : true ≡ false → ⊥
    differ h = cc

    same_lease : (l k : LinkRecord) (a b c d : ℕ) → Hand.Lease l a c ≡ Hand.Lease k b d
        → (a ≡ b) × (c ≡ d)
    same_lease l k a b c d h = (cc, cc)

    not_last : (i : ℕ) (c : Connection) → slice_get w.connections i ≡ Some c
        → c.backend ≢ length w.backends
    not_last i c at of =
        let h = f.connections.each i c at in
        let below = before_end (processes_of w) c.backend h.process h.there in
        let long = map_long process_of w.backends in
        absurd (omega (arith, below, long, of))

-- a client has opened a link
up_by : (w new : World) (nodes : List NodeView) (p q : ℕ) (s : Session) (permit : PermitRecord) (server : Server) (key : List ℕ) (v n : NodeView)
    (given : Opened) (said : Reply) → Facts w → AreWhole w.nodes
    → slice_get w.sessions p ≡ Some s → s.hand ≡ Hand.Permit permit
    → IsServer w.group s.node s.database server → NewKey w server key
    → IsNode w.nodes s.node q v → LinksStep (UpStep permit key given) v n
    → nodes ≡ set w.nodes q n → GoesUp p s server key given said (with_nodes nodes w) new
    → Facts new
up_by w new nodes p q s permit server key v n (UpReply.Up lease) said f whole there hand at_server fresh is step all after =
    let slot = slot_of s.pass.key in
    let live = permit_live w f whole p q step.0.slot s permit v there hand is.there step.0.kept in
    let kept = permit_fits w f p q s permit v there hand is.there live in
    let mine : step.0.slot ≡ slot = permit_slot step.0.slot slot permit (place_at v.links permit.at) step.0.kept kept in
    let u : PoolView = record (lend v.links permit.at slot (new_link lease key)) { next_link = v.links.next_link + 1 } in
    let links : n.links ≡ u = step.0.after ∙ ap (λ (k : ℕ).
    let z : PoolView = record (lend v.links permit.at k (new_link lease key)) { next_link = v.links.next_link + 1 } in z) mine in
    subst Facts (sym (after.1 ∙ ap (λ (ns : List NodeView).
    with_session p (holding (Hand.Lease lease (length w.backends) 0) s)
    (with_new (new_backend server key (Some lease) (Some s.label)) (with_nodes ns w)))
    (all ∙ ap (set w.nodes q) (step.1 ∙ ap (with_links v) links))))
    (lease_up w p q s permit server key v lease f whole there hand at_server fresh is live kept step.0.says)
up_by w new nodes p q s permit server key v n (UpReply.Exhausted again stream) said f whole there hand at_server fresh is step all after =
    subst Facts (sym (after.1 ∙ ap (λ (ns : List NodeView). with_new (new_backend server key None None) (with_nodes ns w))
    (all ∙ ap (set w.nodes q) (step.1 ∙ ap (with_links v) step.0.3) ∙ same_nodes w.nodes q v is.there)))
    (untaken_kept w server key fresh f)
up_by w new nodes p q s permit server key v n (UpReply.Stale stream) said f whole there hand at_server fresh is step all after =
    subst Facts (sym (after.1 ∙ ap (λ (ns : List NodeView). with_session p (holding Hand.Empty s) (with_new (new_backend server key None None) (with_nodes ns w)))
    (all ∙ ap (set w.nodes q) (step.1 ∙ ap (with_links v) step.0.1) ∙ same_nodes w.nodes q v is.there)))
    (emptied_kept (with_new (new_backend server key None None) w) p s there
    (stale_permit w f p q s permit v there hand is step.0.0) (untaken_kept w server key fresh f))
up_by w new nodes p q s permit server key v n (UpReply.AtEnd stream) said f whole there hand at_server fresh is step all after =
    absurd after

pub up_kept : (old new : World) (label : ℕ) (key : List ℕ) (said : Reply) → AreWhole old.nodes
    → MayGoUp old label key → Opens label key said old new → Facts old → Facts new
up_kept old new label key said whole may does f =
    let s = does.session in
    let same = one_session old f label may.place does.place may.session s may.is does.step.is in
    let to = subst (λ (z : Session). IsServer old.group z.node z.database may.server) same.1 may.at in
    let one : may.server ≡ does.server = f.servers.one s.node s.database may.server does.server to does.at in
    up_by old new does.nodes does.place does.step.step.place s does.permit does.server key does.step.step.view
    does.step.step.next does.given said f whole does.step.is.there does.hand does.at
    (subst (λ (z : Server). NewKey old z key) one may.new)
    does.step.step.is does.step.step.step does.step.step.after does.after
