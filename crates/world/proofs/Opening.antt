-- A client can't open a link.
use Rattle.std.proofs.Common.{◌≡◌, ◌≢◌, ℕ, Bool, true, false, List, Option, Some, refl, ap, sym, subst, ◌∙◌}
use Rattle.std.proofs.Math.ListN.{set}
use Rattle.std.specs.List.{slice_get}
use Rattle.std.proofs.lemmas.Option.{same_Some}
use Rattle.pg_ids.specs.AnyKey.{slot_of}
use Rattle.lease.specs.declared.{link_record.LinkRecord.LinkRecord, permit.PermitRecord.PermitRecord}
use Rattle.link_pool.specs.declared.place.{Place.Place, Link.Link, Claim.Claim}
use Rattle.link_pool.specs.declared.replies.UpFailedReply.{UpFailedReply}
use Rattle.link_pool.specs.Pool.{place_at, give_back}
use Rattle.link_pool.specs.OnePlace.{Fits, PermitFits}
use Rattle.link_pool.specs.PoolStep.{IsOpen, UpFailedStep}
use Rattle.node_core.specs.View.{NodeView}
use Rattle.node_core.specs.NodeStep.{LinksStep}
use Rattle.world.specs.declared.reply.Reply.{Reply}
use Rattle.world.specs.World.{World, Hand, Session, IsNode}
use Rattle.world.specs.Changes.{holding, with_nodes, with_session}
use Rattle.world.specs.LinkEvents.{Fails}
use Rattle.world.specs.Facts.{Grip, grip_of, Face, face_of, processes_of, lasts_of, IsOwnGrip, IsIn, GripFits, Facts, AreWhole}
use Rattle.world.proofs.Lists.{read_map}
use Rattle.world.proofs.LinkSteps.{alters_written}
use Rattle.world.proofs.Steps.{change_kept, emptied_kept}
use Rattle.world.proofs.GivingBack.{open_belongs, free_after, written_at, new_is, stale_is}

-- the grip of a session that has a permit
pub grip_of_permit : (s : Session) (permit : PermitRecord) → s.hand ≡ Hand.Permit permit
    → (face_of s).grip ≡ Grip.Permit permit
grip_of_permit s permit e = ap grip_of e

-- a client that has a permit is there
stays_with_permit : (face : Face) (permit : PermitRecord)
    → (face.stays ≡ false → face.grip ≡ Grip.Nothing) → face.grip ≡ Grip.Permit permit
    → face.stays ≡ true
stays_with_permit face permit gone has = by_cases face.stays refl
  where
    differ : Grip.Nothing ≡ Grip.Permit permit → ⊥
    differ h = cc

    by_cases : (x : Bool) → face.stays ≡ x → face.stays ≡ true
    by_cases true e = e
    by_cases false e = absurd (differ (sym (gone e) ∙ has))

-- what a client's permit is of
own_permit : (w : World) → Facts w → (p : ℕ) (s : Session) (permit : PermitRecord)
    → slice_get w.sessions p ≡ Some s → s.hand ≡ Hand.Permit permit
    → IsOwnGrip (processes_of w) (lasts_of w) (face_of s) (Grip.Permit permit)
own_permit w f p s permit there hand =
    subst (IsOwnGrip (processes_of w) (lasts_of w) (face_of s)) (grip_of_permit s permit hand)
    (f.clients.each p (face_of s) (read_map face_of w.sessions p s there)).grip

-- a client that has a permit whose place is kept is there
pub permit_live : (w : World) → Facts w → AreWhole w.nodes → (p q slot : ℕ) (s : Session) (permit : PermitRecord) (v : NodeView)
    → slice_get w.sessions p ≡ Some s → s.hand ≡ Hand.Permit permit
    → slice_get w.nodes q ≡ Some v → IsOpen permit slot v.links → IsIn v (face_of s)
permit_live w f whole p q slot s permit v there hand at_q kept =
    let own = own_permit w f p s permit there hand in
    let fits : PermitFits v.links permit.at permit =
    subst (Fits v.links permit.at) kept ((whole q v at_q).places.fits permit.at) in
    record {
      stays = stays_with_permit (face_of s) permit
          (f.clients.each p (face_of s) (read_map face_of w.sessions p s there)).gone
          (grip_of_permit s permit hand);
      node = sym own.0 ∙ ap (λ (x : PermitRecord). x.peer) fits.says ∙ (whole q v at_q).node.own.1;
      incarnation = sym own.1 ∙ ap (λ (x : PermitRecord). x.incarnation) fits.says;
    }

-- what the client of a slot has of its permit
pub permit_fits : (w : World) → Facts w → (p q : ℕ) (s : Session) (permit : PermitRecord) (v : NodeView)
    → slice_get w.sessions p ≡ Some s → s.hand ≡ Hand.Permit permit
    → slice_get w.nodes q ≡ Some v → IsIn v (face_of s)
    → IsOpen permit (slot_of s.pass.key) v.links
permit_fits w f p q s permit v there hand at_q live =
    subst (GripFits v.links (slot_of s.pass.key)) (grip_of_permit s permit hand)
    ((f.slots q v at_q).fits p (face_of s) (read_map face_of w.sessions p s there) live).grip

-- whoever has a permit of a node's present incarnation has its place
pub stale_permit : (w : World) → Facts w → (p q : ℕ) (s : Session) (permit : PermitRecord) (v : NodeView)
    → slice_get w.sessions p ≡ Some s → s.hand ≡ Hand.Permit permit
    → IsNode w.nodes s.node q v
    → ((slot : ℕ) → place_at v.links permit.at ≢ Some (Place.Open permit slot))
    → (i : ℕ) (x : NodeView) → slice_get w.nodes i ≡ Some x → IsIn x (face_of s) → ⊥
stale_permit w f p q s permit v there hand is stale i x at_i is_in =
    let place : i ≡ q = f.nodes.once i q x v at_i is.there (sym is_in.node ∙ sym is.named) in
    let one : x ≡ v = same_Some x v (sym at_i ∙ ap (slice_get w.nodes) place ∙ is.there) in
    let in_v : IsIn v (face_of s) = subst (λ (z : NodeView). IsIn z (face_of s)) one is_in in
    stale (slot_of s.pass.key) (permit_fits w f p q s permit v there hand is.there in_v)

-- the slot of a kept place is its client's
pub permit_slot : (a b : ℕ) (permit : PermitRecord) (o : Option Place)
    → o ≡ Some (Place.Open permit a) → o ≡ Some (Place.Open permit b) → a ≡ b
permit_slot a b permit o h k = cc

-- a client couldn't open a link
fail_by : (w new : World) (nodes : List NodeView) (p q : ℕ) (s : Session) (permit : PermitRecord) (v n : NodeView)
    (given : UpFailedReply) → Facts w → AreWhole w.nodes
    → slice_get w.sessions p ≡ Some s → s.hand ≡ Hand.Permit permit
    → IsNode w.nodes s.node q v → LinksStep (UpFailedStep permit given) v n
    → nodes ≡ set w.nodes q n
    → new ≡ with_session p (holding Hand.Empty s) (with_nodes nodes w) → Facts new
fail_by w new nodes p q s permit v n UpFailedReply.Freed f whole there hand is step all after =
    let slot = slot_of s.pass.key in
    let kept = step.0.1 in
    let live = permit_live w f whole p q step.0.0 s permit v there hand is.there kept in
    let mine_is = permit_fits w f p q s permit v there hand is.there live in
    let mine : step.0.0 ≡ slot = permit_slot step.0.0 slot permit (place_at v.links permit.at) kept mine_is in
    let u = give_back v.links permit.at slot Place.Free in
    subst Facts (sym (new_is w new nodes p q s v n u Hand.Empty after all step.1
    (step.0.2 ∙ ap (λ (k : ℕ). give_back v.links permit.at k Place.Free) mine)))
    (change_kept w p q s v u permit.at Hand.Empty (record {
      session = there;
      node = is.there;
      live = live;
      alters = alters_written v.links permit.at slot Place.Free _ Claim.Nothing;
      belongs = open_belongs v.links permit.at permit slot mine_is;
      own = tt;
      fits = free_after v.links.claims slot Claim.Nothing refl;
      links = λ l e. absurd (no_link l (written_at v.links permit.at (Place.Open permit slot) Place.Free (Place.Link l) _ mine_is e));
      rest = λ l j b e without at_j of. absurd (no_link l (written_at v.links permit.at (Place.Open permit slot) Place.Free (Place.Link l) _ mine_is e));
      outstanding = λ k m l b e at_b. absurd (empty_lease l k m e);
    }) f)
  where
    no_link : (l : Link) → Place.Free ≡ Place.Link l → ⊥
    no_link l h = cc

    empty_lease : (l : LinkRecord) (k m : ℕ) → Hand.Empty ≡ Hand.Lease l k m → ⊥
    empty_lease l k m h = cc
fail_by w new nodes p q s permit v n UpFailedReply.Stale f whole there hand is step all after =
    subst Facts (sym (stale_is w new nodes p q s v n after all step.1 step.0.1 is.there))
    (emptied_kept w p s there (stale_permit w f p q s permit v there hand is step.0.0) f)
fail_by w new nodes p q s permit v n UpFailedReply.Exhausted f whole there hand is step all after =
    absurd step.0

pub up_failed_kept : (old new : World) (label : ℕ) (said : Reply) → AreWhole old.nodes
    → Fails label said old new → Facts old → Facts new
up_failed_kept old new label said whole g f =
    fail_by old new g.nodes g.place g.step.step.place g.session g.permit g.step.step.view
    g.step.step.next g.given f whole g.step.is.there g.hand g.step.step.is g.step.step.step
    g.step.step.after g.after
