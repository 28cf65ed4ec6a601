-- A client gives its link back, or closes it, or can't open one.
use Rattle.std.proofs.Common.{◌≡◌, ℕ, zero, suc, false, List, [], ◌∷◌, Some, refl, ap, sym, subst, ◌∙◌}
use Rattle.std.proofs.Math.ListN.{set}
use Rattle.std.specs.List.{slice_get}
use Rattle.std.proofs.lemmas.Option.{same_Some}
use Rattle.pg_ids.specs.AnyKey.{slot_of}
use Rattle.lease.specs.declared.{link_record.LinkRecord.LinkRecord, link_place.LinkPlace.LinkPlace}
use Rattle.lease.specs.declared.permit.PermitRecord.{PermitRecord}
use Rattle.quarantine.specs.OpenTickets.{OpenTickets}
use Rattle.link_pool.specs.declared.place.{Place.Place, Link.Link, LinkState.LinkState, Claim.Claim}
use Rattle.link_pool.specs.declared.replies.{ReleaseReply.ReleaseReply, CloseReply.CloseReply}
use Rattle.link_pool.specs.Pool.{PoolView, place_at, placed, with_claim, in_state, give_back, quarantine}
use Rattle.link_pool.specs.PoolStep.{is_holding, IsHeld, ReleaseStep, CloseStep}
use Rattle.link_pool.proofs.Changes.{place_here}
use Rattle.ini_config.specs.Node.{NodeSettings}
use Rattle.node_core.specs.View.{NodeView}
use Rattle.node_core.specs.NodeStep.{LinksStep}
use Rattle.world.specs.declared.reply.Reply.{Reply}
use Rattle.world.specs.World.{World, Hand, Session, IsNode, IsServer}
use Rattle.world.specs.Changes.{holding, with_nodes, with_session}
use Rattle.world.specs.LinkEvents.{GivesBack, Closes}
use Rattle.world.specs.Facts.{Process, process_of, Grip, Face, face_of, processes_of, lasts_of, faces_of, IsOwnGrip, IsIn, GripFits, IsProcess, Facts, AreWhole}
use Rattle.world.proofs.Lists.{read_map}
use Rattle.world.proofs.Holding.{has_live_lease, lease_is_held, grip_of_lease}
use Rattle.world.proofs.LinkSteps.{with_links, Belongs, alters_written}
use Rattle.world.proofs.Steps.{one_slot, changed, change_kept, emptied_kept}

-- what stands at a place is of one slot
pub held_belongs : (v : PoolView) (at : LinkPlace) (link : Link) (slot : ℕ)
    → place_at v at ≡ Some (Place.Link link) → link.state ≡ LinkState.Held slot
    → Belongs v at slot
held_belongs v at link slot there held = record {
  open_for = λ permit s e. absurd (link_or_open permit s (sym there ∙ e));
  held_by = λ l s e h. one_slot_of l s (sym there ∙ e) h;
}
  where
    link_or_open : (permit : PermitRecord) (s : ℕ)
        → Some (Place.Link link) ≡ Some (Place.Open permit s) → ⊥
    link_or_open permit s h = cc

    one_slot_of : (l : Link) (s : ℕ) → Some (Place.Link link) ≡ Some (Place.Link l)
        → l.state ≡ LinkState.Held s → s ≡ slot
    one_slot_of l s h e = cc

pub open_belongs : (v : PoolView) (at : LinkPlace) (permit : PermitRecord) (slot : ℕ)
    → place_at v at ≡ Some (Place.Open permit slot) → Belongs v at slot
open_belongs v at permit slot there = record {
  open_for = λ other s e. same_open other s (sym there ∙ e);
  held_by = λ l s e h. absurd (link_or_open l (sym there ∙ e));
}
  where
    same_open : (other : PermitRecord) (s : ℕ)
        → Some (Place.Open permit slot) ≡ Some (Place.Open other s) → s ≡ slot
    same_open other s h = cc

    link_or_open : (l : Link) → Some (Place.Open permit slot) ≡ Some (Place.Link l) → ⊥
    link_or_open l h = cc

-- who is given something that is no link and no permit has neither
pub free_after : (claims : List Claim) (slot : ℕ) (c : Claim) → is_holding (Some c) ≡ false
    → is_holding (slice_get (set claims slot c) slot) ≡ false
free_after [] slot c free = refl
free_after (x ∷ xs) zero c free = free
free_after (x ∷ xs) (suc slot) c free = free_after xs slot c free

-- a place was written
pub written_at : (v : PoolView) (at : LinkPlace) (was p q : Place) (f : List ℕ → List ℕ)
    → place_at v at ≡ Some was → place_at (placed v at p f) at ≡ Some q → p ≡ q
written_at v at was p q f there now = same_Some p q (sym (place_here v at was p f there) ∙ now)

-- what a client's lease is of
pub own_lease : (w : World) → Facts w → (p at n : ℕ) (s : Session) (lease : LinkRecord)
    → slice_get w.sessions p ≡ Some s → s.hand ≡ Hand.Lease lease at n
    → IsOwnGrip (processes_of w) (lasts_of w) (face_of s) (Grip.Lease lease at)
own_lease w f p at n s lease there hand =
    subst (IsOwnGrip (processes_of w) (lasts_of w) (face_of s)) (grip_of_lease s lease at n hand)
    (f.clients.each p (face_of s) (read_map face_of w.sessions p s there)).grip

-- a client that has the lease of a link that stands is there
pub lease_live : (w : World) → Facts w → AreWhole w.nodes → (p q at n : ℕ) (s : Session) (lease : LinkRecord)
    (v : NodeView) (k : LinkPlace) (link : Link)
    → slice_get w.sessions p ≡ Some s → s.hand ≡ Hand.Lease lease at n
    → slice_get w.nodes q ≡ Some v → place_at v.links k ≡ Some (Place.Link link)
    → link.details ≡ lease → IsIn v (face_of s)
lease_live w f whole p q at n s lease v k link there hand at_q at_k same =
    let own = own_lease w f p at n s lease there hand in
    has_live_lease v (face_of s) lease at k link (whole q v at_q)
    (f.clients.each p (face_of s) (read_map face_of w.sessions p s there)).gone
    (grip_of_lease s lease at n hand) own.0 own.1 at_k same

-- a process is that of a lease
pub process_at : (w : World) → Facts w → (i j : ℕ) (a b : Process) (l k : LinkRecord)
    → slice_get (processes_of w) i ≡ Some a → slice_get (processes_of w) j ≡ Some b
    → a.link ≡ Some l → b.link ≡ Some k → l ≡ k → i ≡ j
process_at w f i j a b l k at_i at_j of_a of_b same =
    f.processes.links i j a b l at_i at_j of_a (of_b ∙ ap Some (sym same))

-- what comes to the place of a link that a client had, of which so much was outstanding
pub record Keeps (p : Place) (link : Link) (slot n : ℕ) : Type 0 where
  pub details : (l : Link) → p ≡ Place.Link l → l.details ≡ link.details
  pub key : (l : Link) → p ≡ Place.Link l → l.key ≡ link.key
  pub hold : (l : Link) → p ≡ Place.Link l → l.hold ≡ link.hold
  pub giver : (l : Link) (s : ℕ) → p ≡ Place.Link l
      → l.state ≡ LinkState.Quarantined (Some s) → s ≡ slot
  pub none : (l : Link) → p ≡ Place.Link l → n ≡ 0

-- the process of a link that says the same
pub process_again : {group : List NodeSettings} {processes : List Process} {node : ℕ} (a b : Link) (i : ℕ)
    → b.details ≡ a.details → b.key ≡ a.key → IsProcess group processes node a i
    → IsProcess group processes node b i
process_again {group} {processes} {node} a b i same key h = record {
  process = h.process;
  there = h.there;
  of = h.of ∙ ap Some (sym same);
  key = h.key ∙ sym key;
  server = subst (λ (l : LinkRecord). IsServer group node l.at.database h.process.server) (sym same) h.server;
}

-- a client no longer has its link
gives_up : (w : World) → Facts w → AreWhole w.nodes → (p q at n : ℕ) (s : Session) (lease : LinkRecord)
    (v : NodeView) (link : Link) (place : Place) (restack : List ℕ → List ℕ) (c : Claim)
    → slice_get w.sessions p ≡ Some s → s.hand ≡ Hand.Lease lease at n
    → slice_get w.nodes q ≡ Some v → place_at v.links lease.at ≡ Some (Place.Link link)
    → link.details ≡ lease → is_holding (Some c) ≡ false
    → Keeps place link (slot_of s.pass.key) n
    → Facts (changed w p q s v (with_claim (placed v.links lease.at place restack) (slot_of s.pass.key) c) Hand.Empty)
gives_up w f whole p q at n s lease v link place restack c there hand at_q at_place same free keeps =
    let slot = slot_of s.pass.key in
    let u = with_claim (placed v.links lease.at place restack) slot c in
    let live = lease_live w f whole p q at n s lease v lease.at link there hand at_q at_place same in
    let here = read_map face_of w.sessions p s there in
    let fits = (f.slots q v at_q).fits p (face_of s) here live in
    let held = lease_is_held v (face_of s) lease at lease.at link (whole q v at_q) fits
    (grip_of_lease s lease at n hand) at_place same in
    let own = own_lease w f p at n s lease there hand in
    let is_link : (l : Link) → place_at u lease.at ≡ Some (Place.Link l) → place ≡ Place.Link l =
    λ l e. written_at v.links lease.at (Place.Link link) place (Place.Link l) restack at_place e in
    change_kept w p q s v u lease.at Hand.Empty (record {
      session = there;
      node = at_q;
      live = live;
      alters = alters_written v.links lease.at slot place restack c;
      belongs = held_belongs v.links lease.at link slot at_place held;
      own = tt;
      fits = free_after v.links.claims slot c free;
      links = λ l e.
          let is = is_link l e in
          let h = f.links q v at_q lease.at link at_place in
          let b = h.0 in
          let at_b : b ≡ at = process_at w f b at h.1.process own.2.0 link.details lease
          h.1.there own.2.1 h.1.of own.2.2 same in (
            b,
            process_again link l b (keeps.details l is) (keeps.key l is) h.1,
            record {
              tickets = ap (λ (o : OpenTickets). o.tickets) (keeps.hold l is) ∙ h.2.tickets;
              hasty = λ i x how at_i of acted reported.
                  ap (λ (o : OpenTickets). o.condemned) (keeps.hold l is)
                  ∙ h.2.hasty i x how at_i of acted reported;
              giver = λ i k face given at_i is_in key.
                  let mine : i ≡ p = one_slot w f q i p v face (face_of s) at_q at_i here is_in live
                  (key ∙ keeps.giver l k is given) in
                  let one : face ≡ face_of s = same_Some face (face_of s)
                  (sym at_i ∙ ap (slice_get (faces_of w)) mine ∙ here) in
                  ap (slice_get (lasts_of w)) at_b ∙ own.3
                  ∙ ap (λ (z : Face). Some (Some z.label)) (sym one);
            },
          );
      rest = λ l j b e without at_j of.
          let is = is_link l e in
          let where_it_is : j ≡ at = process_at w f j at (process_of b) own.2.0 l.details lease
          (read_map process_of w.backends j b at_j) own.2.1 of own.2.2 (keeps.details l is ∙ same) in
          sym (f.loads.outstanding p at n s lease b there hand
          (ap (slice_get w.backends) (sym where_it_is) ∙ at_j)) ∙ keeps.none l is;
      outstanding = λ k m l b e at_b. absurd (empty_lease l k m e);
    }) f
  where
    empty_lease : (l : LinkRecord) (k m : ℕ) → Hand.Empty ≡ Hand.Lease l k m → ⊥
    empty_lease l k m h = cc

-- no link comes to a place that is free
free_keeps : (link : Link) (slot n : ℕ) → Keeps Place.Free link slot n
free_keeps link slot n = record {
  details = λ l e. absurd (no_link l e);
  key = λ l e. absurd (no_link l e);
  hold = λ l e. absurd (no_link l e);
  giver = λ l s e g. absurd (no_link l e);
  none = λ l e. absurd (no_link l e);
}
  where
    no_link : (l : Link) → Place.Free ≡ Place.Link l → ⊥
    no_link l h = cc

-- the link comes to its place again, in this state
state_keeps : (link : Link) (slot : ℕ) (x : LinkState)
    → ((s : ℕ) → x ≡ LinkState.Quarantined (Some s) → s ≡ slot)
    → Keeps (Place.Link (in_state x link)) link slot 0
state_keeps link slot x giver = record {
  details = λ l e. ap (λ (z : Link). z.details) (sym (same_link l e));
  key = λ l e. ap (λ (z : Link). z.key) (sym (same_link l e));
  hold = λ l e. ap (λ (z : Link). z.hold) (sym (same_link l e));
  giver = λ l s e g. giver s (ap (λ (z : Link). z.state) (same_link l e) ∙ g);
  none = λ l e. refl;
}
  where
    same_link : (l : Link) → Place.Link (in_state x link) ≡ Place.Link l → in_state x link ≡ l
    same_link l h = cc

-- the world that a client's step leaves
pub new_is : (w new : World) (nodes : List NodeView) (p q : ℕ) (s : Session) (v n : NodeView) (u : PoolView) (hand : Hand)
    → new ≡ with_session p (holding hand s) (with_nodes nodes w) → nodes ≡ set w.nodes q n
    → n ≡ with_links v n.links → n.links ≡ u → new ≡ changed w p q s v u hand
new_is w new nodes p q s v n u hand after all node links =
    after ∙ ap (λ (ns : List NodeView). with_session p (holding hand s) (with_nodes ns w))
    (all ∙ ap (set w.nodes q) (node ∙ ap (with_links v) links))

-- the same node is written again
pub same_nodes : (nodes : List NodeView) (q : ℕ) (v : NodeView) → slice_get nodes q ≡ Some v
    → set nodes q v ≡ nodes
same_nodes [] q v h = refl
same_nodes (x ∷ xs) zero v h = ap (λ (y : NodeView). y ∷ xs) (sym (same_Some x v h))
same_nodes (x ∷ xs) (suc q) v h = ap (λ (ys : List NodeView). x ∷ ys) (same_nodes xs q v h)

-- the world that a stale value leaves
pub stale_is : (w new : World) (nodes : List NodeView) (p q : ℕ) (s : Session) (v n : NodeView)
    → new ≡ with_session p (holding Hand.Empty s) (with_nodes nodes w) → nodes ≡ set w.nodes q n
    → n ≡ with_links v n.links → n.links ≡ v.links → slice_get w.nodes q ≡ Some v
    → new ≡ record w { sessions = set w.sessions p (holding Hand.Empty s) }
stale_is w new nodes p q s v n after all node links there =
    after ∙ ap (λ (ns : List NodeView). with_session p (holding Hand.Empty s) (with_nodes ns w))
    (all ∙ ap (set w.nodes q) (node ∙ ap (with_links v) links) ∙ same_nodes w.nodes q v there)

-- the slot of a held link is its client's
slot_is : (a b : ℕ) (x : LinkState) → x ≡ LinkState.Held a → x ≡ LinkState.Held b → a ≡ b
slot_is a b x h k = cc

-- whoever has a lease of a node's present incarnation has its link
stale_lease : (w : World) → Facts w → (p q at n : ℕ) (s : Session) (lease : LinkRecord) (v : NodeView)
    → slice_get w.sessions p ≡ Some s → s.hand ≡ Hand.Lease lease at n
    → IsNode w.nodes s.node q v → ((link : Link) (slot : ℕ) → IsHeld lease link slot v.links → ⊥)
    → (i : ℕ) (x : NodeView) → slice_get w.nodes i ≡ Some x → IsIn x (face_of s) → ⊥
stale_lease w f p q at n s lease v there hand is stale i x at_i is_in =
    let place : i ≡ q = f.nodes.once i q x v at_i is.there (sym is_in.node ∙ sym is.named) in
    let one : x ≡ v = same_Some x v (sym at_i ∙ ap (slice_get w.nodes) place ∙ is.there) in
    let in_v : IsIn v (face_of s) = subst (λ (z : NodeView). IsIn z (face_of s)) one is_in in
    let fits = (f.slots q v is.there).fits p (face_of s) (read_map face_of w.sessions p s there) in_v in
    let held : GripFits v.links (slot_of s.pass.key) (Grip.Lease lease at) =
    subst (GripFits v.links (slot_of s.pass.key)) (grip_of_lease s lease at n hand) fits.grip in
    stale held.0 (slot_of s.pass.key) held.1

-- the slot of a link that is a session's
lease_slot : (w : World) → Facts w → AreWhole w.nodes → (p q at n : ℕ) (s : Session) (lease : LinkRecord)
    (v : NodeView) (link : Link) (slot : ℕ)
    → slice_get w.sessions p ≡ Some s → s.hand ≡ Hand.Lease lease at n
    → slice_get w.nodes q ≡ Some v → IsHeld lease link slot v.links → slot ≡ slot_of s.pass.key
lease_slot w f whole p q at n s lease v link slot there hand at_q held =
    let live = lease_live w f whole p q at n s lease v lease.at link there hand at_q held.at held.says in
    let fits = (f.slots q v at_q).fits p (face_of s) (read_map face_of w.sessions p s there) live in
    slot_is slot (slot_of s.pass.key) link.state held.held
    (lease_is_held v (face_of s) lease at lease.at link (whole q v at_q) fits
    (grip_of_lease s lease at n hand) held.at held.says)

-- a client gives its link back
release_by : (w new : World) (nodes : List NodeView) (p q at : ℕ) (s : Session) (lease : LinkRecord) (v n : NodeView)
    (given : ReleaseReply (Unit {0})) → Facts w → AreWhole w.nodes
    → slice_get w.sessions p ≡ Some s → s.hand ≡ Hand.Lease lease at 0
    → IsNode w.nodes s.node q v → LinksStep (ReleaseStep lease given) v n
    → nodes ≡ set w.nodes q n
    → new ≡ with_session p (holding Hand.Empty s) (with_nodes nodes w) → Facts new
release_by w new nodes p q at s lease v n ReleaseReply.Idle f whole there hand is step all after =
    let link = step.0.0 in let held = step.0.2 in
    let mine = lease_slot w f whole p q at 0 s lease v link step.0.1 there hand is.there held in
    subst Facts (sym (new_is w new nodes p q s v n _ Hand.Empty after all step.1
    (step.0.5 ∙ ap (λ (k : ℕ). give_back v.links lease.at k (Place.Link (in_state LinkState.Idle link))) mine)))
    (gives_up w f whole p q at 0 s lease v link (Place.Link (in_state LinkState.Idle link)) _ Claim.Nothing
    there hand is.there held.at held.says refl
    (state_keeps link (slot_of s.pass.key) LinkState.Idle (λ k e. absurd (cc))))
release_by w new nodes p q at s lease v n ReleaseReply.Quarantined f whole there hand is step all after =
    let link = step.0.0 in let held = step.0.2 in
    let mine = lease_slot w f whole p q at 0 s lease v link step.0.1 there hand is.there held in
    subst Facts (sym (new_is w new nodes p q s v n _ Hand.Empty after all step.1
    (step.0.5 ∙ ap (λ (k : ℕ). quarantine v.links lease.at k link) mine)))
    (gives_up w f whole p q at 0 s lease v link
    (Place.Link (in_state (LinkState.Quarantined (Some (slot_of s.pass.key))) link)) _ (Claim.Gave lease.at)
    there hand is.there held.at held.says refl
    (state_keeps link (slot_of s.pass.key) (LinkState.Quarantined (Some (slot_of s.pass.key)))
    (λ k e. same_giver (slot_of s.pass.key) k e)))
  where
    same_giver : (a b : ℕ) → LinkState.Quarantined (Some a) ≡ LinkState.Quarantined (Some b) → b ≡ a
    same_giver a b h = cc
release_by w new nodes p q at s lease v n (ReleaseReply.Closed stream) f whole there hand is step all after =
    let link = step.0.0 in let held = step.0.2 in
    let mine = lease_slot w f whole p q at 0 s lease v link step.0.1 there hand is.there held in
    subst Facts (sym (new_is w new nodes p q s v n _ Hand.Empty after all step.1
    (step.0.4 ∙ ap (λ (k : ℕ). give_back v.links lease.at k Place.Free) mine)))
    (gives_up w f whole p q at 0 s lease v link Place.Free _ Claim.Nothing there hand is.there
    held.at held.says refl (free_keeps link (slot_of s.pass.key) 0))
release_by w new nodes p q at s lease v n (ReleaseReply.Stale stream) f whole there hand is step all after =
    subst Facts (sym (stale_is w new nodes p q s v n after all step.1 step.0.1 is.there))
    (emptied_kept w p s there (stale_lease w f p q at 0 s lease v there hand is step.0.0) f)
release_by w new nodes p q at s lease v n (ReleaseReply.Exhausted stream) f whole there hand is step all after =
    absurd step.0

pub release_kept : (old new : World) (label : ℕ) (said : Reply) → AreWhole old.nodes
    → GivesBack label said old new → Facts old → Facts new
release_kept old new label said whole g f =
    release_by old new g.nodes g.place g.step.step.place g.at g.session g.lease g.step.step.view
    g.step.step.next g.given f whole g.step.is.there g.hand g.step.step.is g.step.step.step
    g.step.step.after g.after

-- a client closes its link
close_by : (w new : World) (nodes : List NodeView) (p q at m : ℕ) (s : Session) (lease : LinkRecord) (v n : NodeView)
    (given : CloseReply (Unit {0})) → Facts w → AreWhole w.nodes
    → slice_get w.sessions p ≡ Some s → s.hand ≡ Hand.Lease lease at m
    → IsNode w.nodes s.node q v → LinksStep (CloseStep lease given) v n
    → nodes ≡ set w.nodes q n
    → new ≡ with_session p (holding Hand.Empty s) (with_nodes nodes w) → Facts new
close_by w new nodes p q at m s lease v n (CloseReply.Closed stream) f whole there hand is step all after =
    let link = step.0.0 in let held = step.0.2 in
    let mine = lease_slot w f whole p q at m s lease v link step.0.1 there hand is.there held in
    subst Facts (sym (new_is w new nodes p q s v n _ Hand.Empty after all step.1
    (step.0.3 ∙ ap (λ (k : ℕ). give_back v.links lease.at k Place.Free) mine)))
    (gives_up w f whole p q at m s lease v link Place.Free _ Claim.Nothing there hand is.there
    held.at held.says refl (free_keeps link (slot_of s.pass.key) m))
close_by w new nodes p q at m s lease v n (CloseReply.Stale stream) f whole there hand is step all after =
    subst Facts (sym (stale_is w new nodes p q s v n after all step.1 step.0.1 is.there))
    (emptied_kept w p s there (stale_lease w f p q at m s lease v there hand is step.0.0) f)
close_by w new nodes p q at m s lease v n (CloseReply.Exhausted stream) f whole there hand is step all after =
    absurd step.0

pub close_kept : (old new : World) (label : ℕ) (said : Reply) → AreWhole old.nodes
    → Closes label said old new → Facts old → Facts new
close_kept old new label said whole g f =
    close_by old new g.nodes g.place g.step.step.place g.at g.outstanding g.session g.lease g.step.step.view
    g.step.step.next g.given f whole g.step.is.there g.hand g.step.step.is g.step.step.step
    g.step.step.after g.after
