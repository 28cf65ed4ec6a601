-- A client asks for a link of its database.
use Rattle.std.proofs.Common.{◌≡◌, ℕ, zero, suc, ◌+◌, ◌<◌, ⊎_elim, true, false, List, [], ◌∷◌, Option, Some, None, refl, ap, sym, subst, ◌∙◌, arith, ◌==◌}
use Rattle.std.proofs.Math.ListN.{set}
use Rattle.std.specs.List.{slice_get}
use Rattle.std.proofs.lemmas.Option.{same_Some, none-some}
use Rattle.std.proofs.lemmas.Bool.{eq-eqb}
use Rattle.pg_ids.specs.AnyKey.{slot_of}
use Rattle.lease.specs.declared.{link_record.LinkRecord.LinkRecord, link_place.LinkPlace.LinkPlace}
use Rattle.lease.specs.declared.permit.PermitRecord.{PermitRecord}
use Rattle.link_pool.specs.declared.place.{Place.Place, Link.Link, LinkState.LinkState, Claim.Claim}
use Rattle.link_pool.specs.declared.replies.AcquireReply.{AcquireReply}
use Rattle.link_pool.specs.Pool.{PoolView, place_at, in_state, unqueued, keep, lend}
use Rattle.link_pool.specs.Stacks.{under_top}
use Rattle.link_pool.specs.OnePlace.{StateFits}
use Rattle.link_pool.specs.PoolStep.{is_holding}
use Rattle.link_pool.proofs.Changes.{place_here, place_there}
use Rattle.node_core.specs.View.{NodeView}
use Rattle.node_core.specs.NodeStep.{Asked, AcquireStep}
use Rattle.world.specs.declared.reply.Reply.{Reply}
use Rattle.world.specs.World.{World, Backend, Connection, Hand, Report, Session, IsNode}
use Rattle.world.specs.Changes.{with_nodes, with_backend}
use Rattle.world.specs.Admissible.{HasInHand}
use Rattle.world.specs.LinkEvents.{Acquires, Asks}
use Rattle.world.specs.Facts.{Process, process_of, last_holder, face_of, processes_of, lasts_of, faces_of, IsIn, IsProcess, LinkStands, open_for, is_with_client, load_of, Facts, AreWhole}
use Rattle.world.proofs.Lists.{set_here, set_there, read_map, same_map}
use Rattle.world.proofs.Holding.{link_fits, one_link, link_with_client, one_session}
use Rattle.world.proofs.Loads.{Reloads, loads_same, carried}
use Rattle.world.proofs.LinkSteps.{with_links, Alters, alters_not, alters_twice, alters_unqueued, alters_written, Belongs, unqueued_places}
use Rattle.world.proofs.Steps.{changed, change_kept}
use Rattle.world.proofs.GivingBack.{written_at, own_lease, process_at, process_again, same_nodes, new_is}
use Rattle.world.proofs.Processes.{held_next, held_kept, IsUnclaimed}
use Rattle.world.proofs.Waiting.{waits_not, claim_waits, queued_waits, wait_kept}

-- the world that a node's step leaves
pub nodes_is : (w new : World) (nodes : List NodeView) (q : ℕ) (v n : NodeView) (u : PoolView)
    → new ≡ with_nodes nodes w → nodes ≡ set w.nodes q n → n ≡ with_links v n.links → n.links ≡ u
    → new ≡ record w { nodes = set w.nodes q (with_links v u) }
nodes_is w new nodes q v n u after all node links =
    after ∙ ap (λ (ns : List NodeView). with_nodes ns w)
    (all ∙ ap (set w.nodes q) (node ∙ ap (with_links v) links))

-- what is at a free place is of no slot
free_belongs : (v : PoolView) (at : LinkPlace) (slot : ℕ) → place_at v at ≡ Some Place.Free
    → Belongs v at slot
free_belongs v at slot there = record {
  open_for = λ permit s e. absurd (free_or_open permit s (sym there ∙ e));
  held_by = λ l s e h. absurd (free_or_link l (sym there ∙ e));
}
  where
    free_or_open : (permit : PermitRecord) (s : ℕ) → Some Place.Free ≡ Some (Place.Open permit s) → ⊥
    free_or_open permit s h = cc

    free_or_link : (l : Link) → Some Place.Free ≡ Some (Place.Link l) → ⊥
    free_or_link l h = cc

-- a link that no client has is of no slot
pub apart_belongs : (v : PoolView) (at : LinkPlace) (link : Link) (slot : ℕ)
    → place_at v at ≡ Some (Place.Link link) → is_with_client link.state ≡ false
    → Belongs v at slot
apart_belongs v at link slot there free = record {
  open_for = λ permit s e. absurd (link_or_open permit s (sym there ∙ e));
  held_by = λ l s e h. absurd (not_held l s (sym there ∙ e) h);
}
  where
    link_or_open : (permit : PermitRecord) (s : ℕ) → Some (Place.Link link) ≡ Some (Place.Open permit s) → ⊥
    link_or_open permit s h = cc

    not_held : (l : Link) (s : ℕ) → Some (Place.Link link) ≡ Some (Place.Link l)
        → l.state ≡ LinkState.Held s → ⊥
    not_held l s e h =
        let one : link ≡ l = same_link l e in
        let yes : is_with_client link.state ≡ true =
        ap (λ (z : Link). is_with_client z.state) one ∙ ap is_with_client h in
        differ (sym yes ∙ free)
      where
        same_link : (l : Link) → Some (Place.Link link) ≡ Some (Place.Link l) → link ≡ l
        same_link l h = cc

        differ : true ≡ false → ⊥
        differ h = cc

-- a client may open a link
open_by : (w : World) (p q : ℕ) (s : Session) (v : NodeView) (permit : PermitRecord)
    → Facts w → AreWhole w.nodes → slice_get w.sessions p ≡ Some s → IsNode w.nodes s.node q v
    → IsIn v (face_of s) → place_at v.links permit.at ≡ Some Place.Free
    → permit ≡ record { peer = v.links.peer; incarnation = v.links.incarnation; number = v.links.next_permit; at = permit.at }
    → Facts (changed w p q s v (record (keep (unqueued v.links (slot_of s.pass.key)) (slot_of s.pass.key) permit)
    { next_permit = v.links.next_permit + 1 }) (Hand.Permit permit))
open_by w p q s v permit f whole there is live free says =
    let slot = slot_of s.pass.key in
    let x = unqueued v.links slot in
    let u : PoolView = record (keep x slot permit) { next_permit = v.links.next_permit + 1 } in
    let free_there : place_at x permit.at ≡ Some Place.Free = unqueued_places v.links slot permit.at ∙ free in
    let once : Alters x u permit.at slot = record {
      incarnation = refl;
      link = omega arith;
      ticket = omega arith;
      places = λ k n. place_there x permit.at k (Place.Open permit slot) under_top n;
      claims = λ c n. set_there x.claims slot c (Claim.Open permit.at) n;
    } in
    let no_link : (l : Link) → place_at u permit.at ≡ Some (Place.Link l) → ⊥ =
    λ l e. open_or_link slot l (written_at x permit.at Place.Free (Place.Open permit slot) (Place.Link l) under_top free_there e) in
    change_kept w p q s v u permit.at (Hand.Permit permit) (record {
      session = there;
      node = is.there;
      live = live;
      alters = alters_twice v.links x u permit.at slot (alters_unqueued v.links permit.at slot) once;
      belongs = free_belongs v.links permit.at slot free;
      own = (
        ap (λ (z : PermitRecord). z.peer) says ∙ (whole q v is.there).node.own.1 ∙ is.named,
        ap (λ (z : PermitRecord). z.incarnation) says ∙ sym live.incarnation,
      );
      fits = place_here x permit.at Place.Free (Place.Open permit slot) under_top free_there;
      links = λ l e. absurd (no_link l e);
      rest = λ l j b e without at_j of. absurd (no_link l e);
      outstanding = λ k m l b e at_b. absurd (permit_or_lease l k m e);
    }) f
  where
    open_or_link : (slot : ℕ) (l : Link) → Place.Open permit slot ≡ Place.Link l → ⊥
    open_or_link slot l h = cc

    permit_or_lease : (l : LinkRecord) (k m : ℕ) → Hand.Permit permit ≡ Hand.Lease l k m → ⊥
    permit_or_lease l k m h = cc

-- a client has a link that nobody had
lent_by : (w : World) (p q at : ℕ) (s : Session) (v : NodeView) (lease : LinkRecord) (link : Link) (x : PoolView) (y : Backend)
    → Facts w → AreWhole w.nodes → slice_get w.sessions p ≡ Some s → IsNode w.nodes s.node q v
    → IsIn v (face_of s) → place_at v.links lease.at ≡ Some (Place.Link link)
    → is_with_client link.state ≡ false → link.details ≡ lease
    → slice_get w.backends at ≡ Some y → y.link ≡ Some lease
    → last_holder y ≡ Some s.label → load_of y ≡ 0
    → Alters v.links x lease.at (slot_of s.pass.key)
    → place_at x lease.at ≡ Some (Place.Link link)
    → Facts (changed w p q s v (lend x lease.at (slot_of s.pass.key) link) (Hand.Lease lease at 0))
lent_by w p q at s v lease link x y f whole there is live was free says here of last none alters was_x =
    let slot = slot_of s.pass.key in
    let held : Link = in_state (LinkState.Held slot) link in
    let u = lend x lease.at slot link in
    let fits_v = link_fits v.links lease.at link (whole q v is.there).places was in
    let is_link : (l : Link) → place_at u lease.at ≡ Some (Place.Link l) → held ≡ l =
    λ l e. same_link held l (written_at x lease.at (Place.Link link) (Place.Link held) (Place.Link l) _ was_x e) in
    change_kept w p q s v u lease.at (Hand.Lease lease at 0) (record {
      session = there;
      node = is.there;
      live = live;
      alters = alters_twice v.links x u lease.at slot alters
          (alters_written x lease.at slot (Place.Link held) _ (Claim.Link lease.at));
      belongs = apart_belongs v.links lease.at link slot was free;
      own = (
        ap (λ (z : LinkRecord). z.peer) (sym says ∙ fits_v.says) ∙ (whole q v is.there).node.own.1 ∙ is.named,
        ap (λ (z : LinkRecord). z.incarnation) (sym says ∙ fits_v.says) ∙ sym live.incarnation,
        (process_of y, read_map process_of w.backends at y here, of),
        read_map last_holder w.backends at y here ∙ ap Some last,
      );
      fits = (
        held,
        record {
          at = place_here x lease.at (Place.Link link) (Place.Link held) _ was_x;
          says = says;
          held = refl;
        },
      );
      links = λ l e.
          let one = is_link l e in
          let h = f.links q v is.there lease.at link was in
          subst (λ (z : Link). (b : ℕ) × IsProcess w.group (processes_of w) v.me z b
          × LinkStands (faces_of w) (lasts_of w) w.connections v z b) one (
            h.0,
            process_again link held h.0 refl refl h.1,
            record {
              tickets = h.2.tickets;
              hasty = h.2.hasty;
              giver = λ i k face given at_i is_in key. absurd (held_or_given slot k given);
            },
          );
      rest = λ l j b e without at_j of_b. absurd (differ
          (ap (λ (z : Link). is_with_client z.state) (is_link l e) ∙ without));
      outstanding = λ k m l b e at_b.
          let same = same_lease lease l at k 0 m e in
          let one : b ≡ y = same_Some b y (sym at_b ∙ ap (slice_get w.backends) (sym same.0) ∙ here) in
          sym same.1 ∙ sym none ∙ ap load_of (sym one);
    }) f
  where
    same_link : (a b : Link) → Place.Link a ≡ Place.Link b → a ≡ b
    same_link a b h = cc

    held_or_given : (a b : ℕ) → LinkState.Held a ≡ LinkState.Quarantined (Some b) → ⊥
    held_or_given a b h = cc

    differ : true ≡ false → ⊥
    differ h = cc

    same_lease : (l k : LinkRecord) (a b c d : ℕ) → Hand.Lease l a c ≡ Hand.Lease k b d
        → (a ≡ b) × (c ≡ d)
    same_lease l k a b c d h = (cc, cc)

-- a connection that wasn't reported is counted
pub one_open : (connections : List Connection) (i b : ℕ) (c : Connection)
    → slice_get connections i ≡ Some c → c.backend ≡ b → c.report ≡ None
    → 0 < open_for b connections
one_open [] i b c there of none = absurd (none-some c there)
one_open (x ∷ xs) zero b c there of none =
    let same : x ≡ c = same_Some x c there in
    let first : (x.backend == b) ≡ true = eq-eqb x.backend b (ap (λ (z : Connection). z.backend) same ∙ of) in
    let second : x.report ≡ None = ap (λ (z : Connection). z.report) same ∙ none in
    rw (first, second) (omega arith)
one_open (x ∷ xs) (suc i) b c there of none =
    let more = one_open xs i b c there of none in omega (arith, more)

-- nobody has an idle link, nor is anything to come for it
idle_unclaimed : (w : World) (q at : ℕ) (v : NodeView) (lease : LinkRecord) (link : Link) (x : Backend)
    → Facts w → AreWhole w.nodes → slice_get w.nodes q ≡ Some v
    → place_at v.links lease.at ≡ Some (Place.Link link) → link.state ≡ LinkState.Idle
    → link.details ≡ lease → slice_get w.backends at ≡ Some x → x.link ≡ Some lease
    → IsUnclaimed w at
idle_unclaimed w q at v lease link x f whole at_q was idle says here of =
    let h = f.links q v at_q lease.at link was in
    let at_x = read_map process_of w.backends at x here in
    let b : h.0 ≡ at = process_at w f h.0 at h.1.process (process_of x) link.details lease
    h.1.there at_x h.1.of of says in
    let fits = link_fits v.links lease.at link (whole q v at_q).places was in
    let state : (link.hold.tickets ≡ 0) × (link.hold.condemned ≡ false) =
    subst (λ (z : LinkState). StateFits z link.hold) idle fits.state in
    record {
      clients = λ i n s l at_i hand.
          let own = own_lease w f i at n s l at_i hand in
          let same : l ≡ lease = same_Some l lease
          (sym own.2.2 ∙ ap (λ (z : Process). z.link) (same_Some own.2.0 (process_of x) (sym own.2.1 ∙ at_x)) ∙ of) in
          idle_or_held _ (sym idle ∙ link_with_client w f whole i q at n s l v lease.at link at_i hand at_q was
          (says ∙ sym same));
      connections = λ i c at_i of_c acted. by_report i h.0 c at_i (of_c ∙ sym b) acted h.2 state c.report refl;
      givers = λ i view k other slot at_i at_k given process.
          let same : other.details ≡ link.details = same_Some other.details link.details
          (sym process.of ∙ ap (λ (z : Process). z.link) (same_Some process.process (process_of x) (sym process.there ∙ at_x))
          ∙ of ∙ ap Some (sym says)) in
          let fits_k = link_fits view.links k other (whole i view at_i).places at_k in
          let number : view.me ≡ v.me = sym (ap (λ (z : LinkRecord). z.peer) fits_k.says ∙ (whole i view at_i).node.own.1)
          ∙ ap (λ (z : LinkRecord). z.peer) same
          ∙ ap (λ (z : LinkRecord). z.peer) fits.says ∙ (whole q v at_q).node.own.1 in
          let place : i ≡ q = f.nodes.once i q view v at_i at_q number in
          let node : view ≡ v = same_Some view v (sym at_i ∙ ap (slice_get w.nodes) place ∙ at_q) in
          let one : other ≡ link = one_link v.links k lease.at other link (whole q v at_q).places
          (subst (λ (z : NodeView). place_at z.links k ≡ Some (Place.Link other)) node at_k) was same in
          idle_or_given slot (sym idle ∙ ap (λ (z : Link). z.state) (sym one) ∙ given);
    }
  where
    idle_or_held : (slot : ℕ) → LinkState.Idle ≡ LinkState.Held slot → ⊥
    idle_or_held slot h = cc

    idle_or_given : (slot : ℕ) → LinkState.Idle ≡ LinkState.Quarantined (Some slot) → ⊥
    idle_or_given slot h = cc

    differ : true ≡ false → ⊥
    differ h = cc

    by_report : (i k : ℕ) (c : Connection) → slice_get w.connections i ≡ Some c → c.backend ≡ k
        → c.acted ≡ false → LinkStands (faces_of w) (lasts_of w) w.connections v link k
        → (link.hold.tickets ≡ 0) × (link.hold.condemned ≡ false) → (r : Option Report) → c.report ≡ r → ⊥
    by_report i k c at_i of_c acted stands state None e =
        let some = one_open w.connections i k c at_i of_c e in
        let tickets = stands.tickets in
        let no_ticket = state.0 in
        omega (arith, some, tickets, no_ticket)
    by_report i k c at_i of_c acted stands state (Some how) e =
        differ (sym (stands.hasty i c how at_i of_c acted e) ∙ state.1)

-- the link of a client's lease has its process
same_backend : (w : World) (q at : ℕ) (v : NodeView) (lease : LinkRecord) (link : Link) (x : Backend)
    → Facts w → AreWhole w.nodes → slice_get w.nodes q ≡ Some v
    → place_at v.links lease.at ≡ Some (Place.Link link) → link.details ≡ lease
    → slice_get w.backends at ≡ Some x → x.link ≡ Some lease
    → (b : ℕ) × (b ≡ at) × LinkStands (faces_of w) (lasts_of w) w.connections v link b
same_backend w q at v lease link x f whole at_q was says here of =
    let h = f.links q v at_q lease.at link was in (
      h.0,
      process_at w f h.0 at h.1.process (process_of x) link.details lease h.1.there
          (read_map process_of w.backends at x here) h.1.of of says,
      h.2,
    )

-- a link that no client has is at rest
pub at_rest : (w : World) (q at : ℕ) (v : NodeView) (lease : LinkRecord) (link : Link) (x : Backend)
    → Facts w → slice_get w.nodes q ≡ Some v
    → place_at v.links lease.at ≡ Some (Place.Link link) → is_with_client link.state ≡ false
    → link.details ≡ lease → slice_get w.backends at ≡ Some x → x.link ≡ Some lease
    → load_of x ≡ 0
at_rest w q at v lease link x f at_q was free says here of =
    f.loads.rest q v at_q lease.at link at x was free here (of ∙ ap Some (sym says))

-- a client has a link, and the process of its link knows it
got_by : (w : World) (p q at : ℕ) (s : Session) (v : NodeView) (lease : LinkRecord) (link : Link) (x : PoolView) (b : Backend)
    → AreWhole w.nodes → slice_get w.sessions p ≡ Some s → IsNode w.nodes s.node q v
    → IsIn v (face_of s) → place_at v.links lease.at ≡ Some (Place.Link link)
    → is_with_client link.state ≡ false → link.details ≡ lease
    → slice_get w.backends at ≡ Some b → b.link ≡ Some lease → load_of b ≡ 0
    → Alters v.links x lease.at (slot_of s.pass.key)
    → place_at x lease.at ≡ Some (Place.Link link)
    → Facts (with_backend at (held_next s.label b) w)
    → Facts (changed (with_backend at (held_next s.label b) w) p q s v (lend x lease.at (slot_of s.pass.key) link) (Hand.Lease lease at 0))
got_by w p q at s v lease link x b whole there is live was free says here of none alters was_x f =
    lent_by (with_backend at (held_next s.label b) w) p q at s v lease link x (held_next s.label b)
    f whole there is live was free says (set_here w.backends at b (held_next s.label b) here) of refl none alters was_x

-- a client asks for a link
acquire_by : (w new : World) (nodes : List NodeView) (p q : ℕ) (s : Session) (v n : NodeView) (given : Asked) (said : Reply)
    → Facts w → AreWhole w.nodes → slice_get w.sessions p ≡ Some s → s.stays ≡ true
    → s.hand ≡ Hand.Empty → IsNode w.nodes s.node q v → AcquireStep s.pass given v n
    → nodes ≡ set w.nodes q n → Acquires p s given said (with_nodes nodes w) new → Facts new
acquire_by w new nodes p q s v n AcquireReply.Stale said f whole there stays empty is step all after =
    subst Facts (sym (after.1 ∙ ap (λ (ns : List NodeView). with_nodes ns w)
    (all ∙ ap (set w.nodes q) step.1 ∙ same_nodes w.nodes q v is.there))) f
acquire_by w new nodes p q s v n AcquireReply.Holding said f whole there stays empty is step all after =
    absurd after
acquire_by w new nodes p q s v n AcquireReply.Waiting said f whole there stays empty is step all after =
    subst Facts (sym (nodes_is w new nodes q v n _ after.1 all step.step.1 step.step.0.2))
    (wait_kept w q v _ is.there (queued_waits v.links (slot_of s.pass.key) step.client.database) f)
acquire_by w new nodes p q s v n AcquireReply.Cancelled said f whole there stays empty is step all after =
    subst Facts (sym (nodes_is w new nodes q v n _ after.1 all step.step.1 step.step.0.1))
    (wait_kept w q v _ is.there (claim_waits v.links (slot_of s.pass.key) Claim.Nothing
    (ap is_holding step.step.0.0) refl) f)
acquire_by w new nodes p q s v n AcquireReply.Exhausted said f whole there stays empty is step all after =
    subst Facts (sym (nodes_is w new nodes q v n v.links after.1 all step.step.1 step.step.0.4))
    (wait_kept w q v v.links is.there (waits_not v.links) f)
acquire_by w new nodes p q s v n (AcquireReply.Open permit) said f whole there stays empty is step all after =
    let live : IsIn v (face_of s) = record { stays = stays; node = sym is.named; incarnation = step.is.own.1 } in
    let opens = step.step.0.2 in
    subst Facts (sym (new_is w new nodes p q s v n _ (Hand.Permit permit) after.1 all step.step.1 opens.after))
    (open_by w p q s v permit f whole there is live opens.at.free opens.says)
acquire_by w new nodes p q s v n (AcquireReply.Got lease) said f whole there stays empty is step all after =
    let live : IsIn v (face_of s) = record { stays = stays; node = sym is.named; incarnation = step.is.own.1 } in
    let at = after.0 in let b = after.1 in
    let here = after.2.there in let of = after.2.link in
    let slot = slot_of s.pass.key in
    let w1 = with_backend at (held_next s.label b) w in
    let to : (u : PoolView) → n.links ≡ u
    → new ≡ changed w1 p q s v u (Hand.Lease lease at 0) =
    λ u e. new_is w1 new nodes p q s v n u (Hand.Lease lease at 0) after.4 all step.step.1 e in
    ⊎_elim
    (λ back.
    let link = back.link in
    let free : is_with_client link.state ≡ false = ap is_with_client back.quarantined in
    let none = at_rest w q at v lease link b f is.there back.was free back.says here of in
    let same = same_backend w q at v lease link b f whole is.there back.was back.says here of in
    let mine = same.2.giver p slot (face_of s) back.quarantined (read_map face_of w.sessions p s there) live refl in
    let last : last_holder b ≡ Some s.label = same_Some (last_holder b) (Some s.label)
    (sym (read_map last_holder w.backends at b here) ∙ ap (slice_get (lasts_of w)) (sym same.1) ∙ mine) in
    let own = f.loads.own at b here in
    let step1 : Reloads b (held_next s.label b) = record {
      link = refl;
      own = record {
        wire = λ i l e. sym last ∙ own.wire i l e;
        running = λ l e. sym last ∙ own.running l e;
      };
    } in
    let f1 : Facts w1 = carried w w.sessions (set w.backends at (held_next s.label b)) refl
    (same_map process_of w.backends at b (held_next s.label b) here refl)
    (same_map last_holder w.backends at b (held_next s.label b) here (sym last))
    (loads_same w.nodes w.sessions w.backends at b (held_next s.label b) f.loads here step1 refl) f in
    subst Facts (sym (to _ back.after))
    (got_by w p q at s v lease link v.links b whole there is live back.was free back.says here of none
    (alters_not v.links lease.at slot) back.was f1))
    (λ idle.
    let link = idle.1.link in
    let free : is_with_client link.state ≡ false = ap is_with_client idle.1.idle in
    let none = at_rest w q at v lease link b f is.there idle.1.was free idle.1.says here of in
    let f1 : Facts w1 = held_kept w at s.label b here none
    (idle_unclaimed w q at v lease link b f whole is.there idle.1.was idle.1.idle idle.1.says here of) f in
    subst Facts (sym (to _ idle.1.after))
    (got_by w p q at s v lease link (unqueued v.links slot) b whole there is live idle.1.was free idle.1.says here of none
    (alters_unqueued v.links lease.at slot) (unqueued_places v.links slot lease.at ∙ idle.1.was) f1))
    step.step.0

pub acquire_kept : (old new : World) (label : ℕ) (said : Reply) → AreWhole old.nodes
    → HasInHand old label Hand.Empty → Asks label said old new → Facts old → Facts new
acquire_kept old new label said whole may does f =
    let same = one_session old f label may.place does.place may.session does.session may.is does.step.is in
    acquire_by old new does.nodes does.place does.step.step.place does.session does.step.step.view
    does.step.step.next does.given said f whole does.step.is.there
    (ap (λ (s : Session). s.stays) (sym same.1) ∙ may.stays)
    (ap (λ (s : Session). s.hand) (sym same.1) ∙ may.holds)
    does.step.step.is does.step.step.step does.step.step.after does.after
