-- What holds safe cancellation up, from what is true of every world.
use Rattle.std.proofs.Common.{◌≡◌, ◌≢◌, ℕ, ◌<◌, ⊎_elim, Bool, true, false, Option, Some, None, refl, ap, sym, subst, ◌∙◌, arith}
use Rattle.std.specs.List.{slice_get}
use Rattle.std.proofs.lemmas.Option.{same_Some, none-some}
use Rattle.std.proofs.lemmas.Bool.{eq-eqb, cases_eq}
use Rattle.pg_ids.specs.AnyKey.{slot_of}
use Rattle.lease.specs.declared.{link_record.LinkRecord.LinkRecord, link_place.LinkPlace.LinkPlace}
use Rattle.link_pool.specs.declared.place.{Place.Place, Link.Link, LinkState.LinkState, Claim.Claim}
use Rattle.link_pool.specs.Pool.{PoolView, place_at}
use Rattle.link_pool.specs.OnePlace.{IsPool, has_link, held_by, is_with, StateFits}
use Rattle.link_pool.specs.PoolStep.{link_of}
use Rattle.link_pool.proofs.Changes.{same_places}
use Rattle.node_core.specs.View.{NodeView, IsView, IsClient, Has}
use Rattle.node_core.specs.declared.client.Client.{Client}
use Rattle.world.specs.World.{World, Backend, Connection, Hand, Report, Session, IsNode}
use Rattle.world.specs.Admissible.{HasLease}
use Rattle.world.specs.Facts.{Process, process_of, Face, face_of, processes_of, lasts_of, faces_of, last_holder, GripFits, IsProcess, LinkStands, open_for, Facts, AreWhole}
use Rattle.world.specs.HoldsUp.{IsPooled, OwnerHasLink, Stands, IsTicketed, IsLast, HoldsUp}
use Rattle.world.proofs.Lists.{read_map, from_map}
use Rattle.world.proofs.Holding.{link_fits}
use Rattle.world.proofs.Processes.{lease_of_hand}
use Rattle.world.proofs.GivingBack.{own_lease, process_at}
use Rattle.world.proofs.Asking.{one_open}
use Rattle.world.proofs.Serving.{claimed_lease}
use Rattle.world.proofs.Possible.{ticket_node}
use Rattle.world.proofs.Requesting.{held_backend}

-- what is known of a link that stands in a pool, of this server process
record IsKnown (w : World) (b : ℕ) (link : Link) (view : NodeView) : Type 0 where
  process : IsProcess w.group (processes_of w) view.me link b
  stands : LinkStands (faces_of w) (lasts_of w) w.connections view link b

known : (w : World) → Facts w → (b : ℕ) (link : Link) (p : IsPooled w b link) → IsKnown w b link p.view
known w f b link p =
    let h = f.links p.place p.view p.node p.at link p.stands in
    let same : h.0 ≡ b = process_at w f h.0 b h.1.process (process_of p.process) link.details link.details
    h.1.there (read_map process_of w.backends b p.process p.there) h.1.of p.made refl in
    subst (λ (n : ℕ). IsKnown w n link p.view) same (record { process = h.1; stands = h.2 })

-- the process of a connection
made_for : (w : World) → Facts w → (k : ℕ) (c : Connection) → slice_get w.connections k ≡ Some c → IsTicketed w c
made_for w f k c at =
    let h = f.connections.each k c at in
    let b = from_map process_of w.backends c.backend h.process h.there in
    record { process = b.0; there = b.1; made = ap (λ (p : Process). p.link) b.2 ∙ h.link }

-- the claim of a slot that has a link
claim_of_link : (c : Option Claim) (at : LinkPlace) → has_link at c ≡ true → c ≡ Some (Claim.Link at)
claim_of_link None at h = absurd (cc)
claim_of_link (Some Claim.Nothing) at h = absurd (cc)
claim_of_link (Some Claim.Cancelled) at h = absurd (cc)
claim_of_link (Some (Claim.Waiting database)) at h = absurd (cc)
claim_of_link (Some (Claim.Open other)) at h = absurd (cc)
claim_of_link (Some (Claim.Link other)) at h = ap (λ (k : LinkPlace). Some (Claim.Link k)) (same_places other at h)
claim_of_link (Some (Claim.Gave other)) at h = absurd (cc)

-- a slot with a link is live
live : (c : Option (Option Client)) (at : LinkPlace) → Has c (Some (Claim.Link at)) → (client : Client) × (c ≡ Some (Some client))
live None at h = absurd h
live (Some None) at h = absurd (differ h)
  where
    differ : Claim.Link at ≡ Claim.Nothing → ⊥
    differ e = cc
live (Some (Some client)) at h = (client, refl)

-- the client that has the link of a server process
record HasIt (w : World) (b label : ℕ) : Type 0 where
  outstanding : ℕ
  has : HasLease w label b outstanding
  last : slice_get (lasts_of w) b ≡ Some (Some label)

holder_of : (w : World) → Facts w → AreWhole w.nodes → (b slot : ℕ) (link : Link) (p : IsPooled w b link) → link.state ≡ LinkState.Held slot
    → (label : ℕ) × HasIt w b label
holder_of w f whole b slot link p held =
    let v = p.view in
    let view = whole p.place v p.node in
    let with_it : has_link p.at (slice_get v.links.claims slot) ≡ true =
    view.places.links slot p.at ∙ ap (held_by slot) p.stands ∙ ap (is_with slot) held ∙ eq-eqb slot slot refl in
    let claim = claim_of_link (slice_get v.links.claims slot) p.at with_it in
    let client = live (slice_get v.clients slot) p.at (subst (Has (slice_get v.clients slot)) claim (view.node.has slot)) in
    let face = (f.slots p.place v p.node).filled slot client.0 client.1 in
    let s = from_map face_of w.sessions face.0 face.1 face.2 in
    let fits = (f.slots p.place v p.node).fits face.0 face.1 face.2 face.3 in
    let grip : GripFits v.links slot face.1.grip = subst (λ (n : ℕ). GripFits v.links n face.1.grip) face.4 fits.grip in
    let lease = claimed_lease v.links slot p.at link face.1.grip view.places claim p.stands grip in
    let hand = lease_of_hand s.0.hand lease.0 lease.1 (ap (λ (z : Face). z.grip) s.2 ∙ lease.2) in
    let own = own_lease w f face.0 lease.1 hand.0 s.0 lease.0 s.1 hand.1 in
    let k = known w f b link p in
    let same : lease.1 ≡ b = process_at w f lease.1 b own.2.0 k.process.process lease.0 link.details
    own.2.1 k.process.there own.2.2 k.process.of lease.3 in (
      s.0.label,
      record {
        outstanding = hand.0;
        has = (
          lease.0,
          record {
            place = face.0;
            session = s.0;
            is = record { there = s.1; named = refl };
            stays = ap (λ (z : Face). z.stays) s.2 ∙ face.3.stays;
            holds = subst (λ (n : ℕ). s.0.hand ≡ Hand.Lease lease.0 n hand.0) same hand.1;
          },
        );
        last = ap (slice_get (lasts_of w)) (sym same) ∙ own.3;
      },
    )

-- a link that stands, of a connection on which the server hasn't acted
by_state : (w : World) → Facts w → AreWhole w.nodes → (k : ℕ) (c : Connection) → slice_get w.connections k ≡ Some c → c.acted ≡ false
    → (link : Link) (p : IsPooled w c.backend link) → (s : LinkState) → link.state ≡ s → Stands w c
by_state w f whole k c at waits link p (LinkState.Held slot) e =
    let has = holder_of w f whole c.backend slot link p e in
    let earned = f.safe.earned k c at in
    let last = (f.connections.each k c at).waits waits in
    let same : Some earned.label ≡ Some has.0 =
    sym earned.holder ∙ same_Some c.holder (Some has.0) (sym last ∙ has.1.last) in
    Stands.Held link slot p e (record {
      came = earned.came;
      there = earned.there;
      label = earned.label;
      owner = earned.owner;
      outstanding = has.1.outstanding;
      has = subst (λ (l : ℕ). HasLease w l c.backend has.1.outstanding) (sym (same_Some earned.label has.0 same)) has.1.has;
    })
by_state w f whole k c at waits link p (LinkState.Quarantined giver) e = by_report c.report refl
  where
    differ : false ≡ true → ⊥
    differ h = cc

    by_report : (r : Option Report) → c.report ≡ r → Stands w c
    by_report None none = Stands.Quarantined link giver p e none
    by_report (Some how) reported =
        let fits = (link_fits p.view.links p.at link (whole p.place p.view p.node).places p.stands).state in
        let sound : (0 < link.hold.tickets) × (link.hold.condemned ≡ false) = subst (λ (z : LinkState). StateFits z link.hold) e fits in
        absurd (differ (sym sound.1 ∙ (known w f c.backend link p).stands.hasty k c how at refl waits reported))
by_state w f whole k c at waits link p LinkState.Idle e = absurd (by_report c.report refl)
  where
    differ : false ≡ true → ⊥
    differ h = cc

    fits : (link.hold.tickets ≡ 0) × (link.hold.condemned ≡ false)
    fits = subst (λ (z : LinkState). StateFits z link.hold) e
        (link_fits p.view.links p.at link (whole p.place p.view p.node).places p.stands).state

    by_report : (r : Option Report) → c.report ≡ r → ⊥
    by_report None none =
        let some = one_open w.connections k c.backend c at refl none in
        let count = (known w f c.backend link p).stands.tickets in
        let zero_is = fits.0 in
        absurd (omega (arith, some, count, zero_is))
    by_report (Some how) reported =
        absurd (differ (sym fits.1 ∙ (known w f c.backend link p).stands.hasty k c how at refl waits reported))

-- if the link of a connection is in a pool, then at the place that its ticket says
module _ (w : World) (f : Facts w) (whole : AreWhole w.nodes) (k : ℕ) (c : Connection) (at : slice_get w.connections k ≡ Some c)
    (q : ℕ) (v : NodeView) (is : IsNode w.nodes c.ticket.peer q v) where
  record StandsHere (link : Link) : Type 0 where
    there : place_at v.links c.ticket.at ≡ Some (Place.Link link)
    says : link.details ≡ link_of c.ticket

  stands_here : (link : Link) → IsPooled w c.backend link → StandsHere link
  stands_here link p =
      let made = made_for w f k c at in
      let one : made.process ≡ p.process = same_Some made.process p.process (sym made.there ∙ p.there) in
      let says : link.details ≡ link_of c.ticket = same_Some link.details (link_of c.ticket)
      (sym p.made ∙ ap (λ (b : Backend). b.link) (sym one) ∙ made.made) in
      let its = (link_fits p.view.links p.at link (whole p.place p.view p.node).places p.stands).says in
      let place : p.at ≡ c.ticket.at = ap (λ (l : LinkRecord). l.at) (sym its ∙ says) in
      let peer : p.view.me ≡ v.me = sym (whole p.place p.view p.node).node.own.1
      ∙ ap (λ (l : LinkRecord). l.peer) (sym its ∙ says) ∙ sym is.named in
      let node : p.place ≡ q = f.nodes.once p.place q p.view v p.node is.there peer in
      let view : p.view ≡ v = same_Some p.view v (sym p.node ∙ ap (slice_get w.nodes) node ∙ is.there) in
      record {
        there = (λ i. place_at (sym view i).links (sym place i)) ∙ p.stands;
        says = says;
      }

  -- so it is there, or in no pool
  by_place : c.acted ≡ false → (o : Option Place) → place_at v.links c.ticket.at ≡ o → Stands w c
  by_place waits None e = Stands.Gone (λ link p. none-some (Place.Link link) (sym e ∙ (stands_here link p).there))
  by_place waits (Some Place.Free) e = Stands.Gone (λ link p. differ link (sym e ∙ (stands_here link p).there))
    where
      differ : (link : Link) → Some Place.Free ≡ Some (Place.Link link) → ⊥
      differ link h = cc
  by_place waits (Some (Place.Open permit slot)) e = Stands.Gone (λ link p. differ link (sym e ∙ (stands_here link p).there))
    where
      differ : (link : Link) → Some (Place.Open permit slot) ≡ Some (Place.Link link) → ⊥
      differ link h = cc
  by_place waits (Some (Place.Link link)) e = ⊎_elim
      (λ same. ⊎_elim (λ also. here same also)
      (λ apart. Stands.Gone (λ other p. apart (ap (λ (l : LinkRecord). l.incarnation) (is_it other p))))
      (cases_eq link.details.incarnation c.ticket.incarnation))
      (λ apart. Stands.Gone (λ other p. apart (ap (λ (l : LinkRecord). l.link) (is_it other p))))
      (cases_eq link.details.link c.ticket.link)
    where
      same_link : (a b : Link) → Some (Place.Link a) ≡ Some (Place.Link b) → a ≡ b
      same_link a b h = cc

      is_it : (other : Link) → IsPooled w c.backend other → link.details ≡ link_of c.ticket
      is_it other p = let h = stands_here other p in
          ap (λ (l : Link). l.details) (same_link link other (sym e ∙ h.there)) ∙ h.says

      here : link.details.link ≡ c.ticket.link → link.details.incarnation ≡ c.ticket.incarnation → Stands w c
      here same also =
          let fits = (link_fits v.links c.ticket.at link (whole q v is.there).places e).says in
          let made = made_for w f k c at in
          let peer : v.links.peer ≡ c.ticket.peer = (whole q v is.there).node.own.1 ∙ is.named in
          let incarnation : v.links.incarnation ≡ c.ticket.incarnation =
          ap (λ (l : LinkRecord). l.incarnation) (sym fits) ∙ also in
          let says : link.details ≡ link_of c.ticket = fits ∙ (λ i. record {
            peer = peer i;
            incarnation = incarnation i;
            link = same i;
            at = c.ticket.at;
          }) in
          by_state w f whole k c at waits link (record {
            process = made.process;
            there = made.there;
            made = made.made ∙ ap Some (sym says);
            place = q;
            view = v;
            node = is.there;
            at = c.ticket.at;
            stands = e;
          }) link.state refl

pub holds_up : (w : World) → Facts w → AreWhole w.nodes → HoldsUp w
holds_up w f whole = record {
  waiting = λ k c at waits.
      let node = ticket_node w f k c at in
      by_place w f whole k c at node.0 node.1 node.2 waits (place_at node.1.links c.ticket.at) refl;
  tickets = λ b link p. (known w f b link p).stands.tickets;
  of = made_for w f;
  own = f.loads.own;
  last = λ label b n has.
      let h = has.1 in
      let held = held_backend w f h.place b n h.session has.0 h.is.there h.holds in
      record {
        process = held.0;
        there = held.1.there;
        holder = held.1.holder ∙ ap Some h.is.named;
      };
}
