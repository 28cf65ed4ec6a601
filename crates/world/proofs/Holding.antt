-- Who has a link: what a session has in hand is what its node takes it to have.
use Rattle.std.proofs.Common.{◌≡◌, ℕ, Bool, true, false, Some, refl, ap, sym, subst, ◌∙◌}
use Rattle.std.specs.List.{slice_get}
use Rattle.std.proofs.lemmas.Option.{same_Some}
use Rattle.pg_ids.specs.AnyKey.{slot_of}
use Rattle.lease.specs.declared.{link_record.LinkRecord.LinkRecord, link_place.LinkPlace.LinkPlace}
use Rattle.link_pool.specs.declared.place.{Place.Place, Link.Link, LinkState.LinkState}
use Rattle.link_pool.specs.Pool.{PoolView, place_at}
use Rattle.link_pool.specs.OnePlace.{IsPool, LinkFits, Fits}
use Rattle.node_core.specs.View.{NodeView, IsView}
use Rattle.world.specs.World.{World, Hand, Session, IsSession}
use Rattle.world.specs.Facts.{Grip, grip_of, Face, face_of, processes_of, lasts_of, IsOwnGrip, IsIn, GripFits, FitsSlot, Facts, is_with_client, AreWhole}
use Rattle.world.proofs.Lists.{read_map}

-- what is at a link's place fits
pub link_fits : (v : PoolView) (at : LinkPlace) (link : Link) → IsPool v
    → place_at v at ≡ Some (Place.Link link) → LinkFits v at link
link_fits v at link whole there = subst (Fits v at) there (whole.fits at)

-- a link is at the place that it says
pub link_place : (v : PoolView) (at : LinkPlace) (link : Link) → IsPool v
    → place_at v at ≡ Some (Place.Link link) → link.details.at ≡ at
link_place v at link whole there =
    ap (λ (l : LinkRecord). l.at) (link_fits v at link whole there).says

-- two links that say the same are one
pub one_link : (v : PoolView) (at other : LinkPlace) (a b : Link) → IsPool v
    → place_at v at ≡ Some (Place.Link a) → place_at v other ≡ Some (Place.Link b)
    → a.details ≡ b.details → a ≡ b
one_link v at other a b whole here there same =
    let place : at ≡ other = sym (link_place v at a whole here)
    ∙ ap (λ (l : LinkRecord). l.at) same ∙ link_place v other b whole there in
    let both : Some (Place.Link a) ≡ Some (Place.Link b) =
    sym here ∙ ap (place_at v) place ∙ there in
    link_of_some a b both
  where
    link_of_some : (a b : Link) → Some (Place.Link a) ≡ Some (Place.Link b) → a ≡ b
    link_of_some a b h = cc

-- a client that has a lease is there
stays_with_lease : (face : Face) (lease : LinkRecord) (b : ℕ)
    → (face.stays ≡ false → face.grip ≡ Grip.Nothing) → face.grip ≡ Grip.Lease lease b
    → face.stays ≡ true
stays_with_lease face lease b gone has = by_cases face.stays refl
  where
    by_cases : (x : Bool) → face.stays ≡ x → face.stays ≡ true
    by_cases true e = e
    by_cases false e = absurd (differ (sym (gone e) ∙ has))
      where
        differ : Grip.Nothing ≡ Grip.Lease lease b → ⊥
        differ h = cc

-- who has the lease of a link that stands in a node's pool is there, in that incarnation
pub has_live_lease : (view : NodeView) (face : Face) (lease : LinkRecord) (b : ℕ)
    (at : LinkPlace) (link : Link) → IsView view
    → (face.stays ≡ false → face.grip ≡ Grip.Nothing) → face.grip ≡ Grip.Lease lease b
    → lease.peer ≡ face.node → lease.incarnation ≡ face.pass.incarnation
    → place_at view.links at ≡ Some (Place.Link link) → link.details ≡ lease
    → IsIn view face
has_live_lease view face lease b at link whole gone has node incarnation there same =
    let says = (link_fits view.links at link whole.places there).says in
    record {
      stays = stays_with_lease face lease b gone has;
      node = sym node ∙ ap (λ (l : LinkRecord). l.peer) (sym same ∙ says) ∙ whole.node.own.1;
      incarnation = sym incarnation ∙ ap (λ (l : LinkRecord). l.incarnation) (sym same ∙ says);
    }

-- a link is held by the client that has its lease
pub lease_is_held : (view : NodeView) (face : Face) (lease : LinkRecord) (b : ℕ)
    (at : LinkPlace) (link : Link) → IsView view → FitsSlot view face
    → face.grip ≡ Grip.Lease lease b
    → place_at view.links at ≡ Some (Place.Link link) → link.details ≡ lease
    → link.state ≡ LinkState.Held (slot_of face.pass.key)
lease_is_held view face lease b at link whole fits has there same =
    let slot = slot_of face.pass.key in
    let held : GripFits view.links slot (Grip.Lease lease b) =
    subst (GripFits view.links slot) has fits.grip in
    let one : held.0 ≡ link = one_link view.links lease.at at held.0 link whole.places
    held.1.at there (held.1.says ∙ sym same) in
    ap (λ (l : Link). l.state) (sym one) ∙ held.1.held

held_with_client : (s : LinkState) (slot : ℕ) → s ≡ LinkState.Held slot → is_with_client s ≡ true
held_with_client s slot e = ap is_with_client e

-- the grip of a session that has a lease
pub grip_of_lease : (s : Session) (lease : LinkRecord) (b n : ℕ)
    → s.hand ≡ Hand.Lease lease b n → (face_of s).grip ≡ Grip.Lease lease b
grip_of_lease s lease b n e = ap grip_of e

-- a label has one session
pub one_session : (w : World) → Facts w → (label i j : ℕ) (x y : Session)
    → IsSession w.sessions label i x → IsSession w.sessions label j y → (i ≡ j) × (x ≡ y)
one_session w f label i j x y a b =
    let place : i ≡ j = f.clients.labels i j (face_of x) (face_of y)
    (read_map face_of w.sessions i x a.there) (read_map face_of w.sessions j y b.there)
    (a.named ∙ sym b.named) in
    (place, same_Some x y (sym a.there ∙ ap (slice_get w.sessions) place ∙ b.there))

-- where a session of the world has the lease of a link that is in a pool, a client has that link
pub link_with_client : (w : World) → Facts w → AreWhole w.nodes → (p i b n : ℕ) (s : Session)
    (lease : LinkRecord) (view : NodeView) (at : LinkPlace) (link : Link)
    → slice_get w.sessions p ≡ Some s → s.hand ≡ Hand.Lease lease b n
    → slice_get w.nodes i ≡ Some view → place_at view.links at ≡ Some (Place.Link link)
    → link.details ≡ lease → link.state ≡ LinkState.Held (slot_of s.pass.key)
link_with_client w f whole p i b n s lease view at link there hand at_node at_place same =
    let face = face_of s in
    let here = read_map face_of w.sessions p s there in
    let client = f.clients.each p face here in
    let has : face.grip ≡ Grip.Lease lease b = grip_of_lease s lease b n hand in
    let own : IsOwnGrip (processes_of w) (lasts_of w) face (Grip.Lease lease b) =
    subst (IsOwnGrip (processes_of w) (lasts_of w) face) has client.grip in
    let is_in = has_live_lease view face lease b at link (whole i view at_node) client.gone has
    own.0 own.1 at_place same in
    lease_is_held view face lease b at link (whole i view at_node)
    ((f.slots i view at_node).fits p face here is_in) has at_place same
