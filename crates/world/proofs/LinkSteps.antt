-- A node makes a step of its links: what stays true of it, and of the others.
use Rattle.std.proofs.Common.{◌≡◌, ◌≢◌, ℕ, ◌<◌, ◌≤◌, ◌^◌, ◌⊎◌, inl, inr, ⊎_elim, false, List, Option, Some, length, refl, ap, sym, subst, ◌∙◌, arith}
use Rattle.std.proofs.Math.ListN.{set}
use Rattle.std.specs.List.{slice_get}
use Rattle.std.proofs.lemmas.Option.{same_Some}
use Rattle.std.proofs.lemmas.Bool.{cases_eq}
use Rattle.pg_ids.specs.AnyKey.{slot_of, short_of, long_part_of}
use Rattle.key_table.specs.Slots.{entry_of}
use Rattle.lease.specs.declared.{link_place.LinkPlace.LinkPlace}
use Rattle.lease.specs.declared.{permit.PermitRecord.PermitRecord, pass.PassRecord.PassRecord}
use Rattle.link_pool.specs.declared.place.{Place.Place, Link.Link, LinkState.LinkState, Claim.Claim}
use Rattle.link_pool.specs.Pool.{PoolView, place_at, placed, with_queue, with_claim, out_of_queue, unqueued, others}
use Rattle.link_pool.specs.PoolStep.{is_holding}
use Rattle.link_pool.proofs.Changes.{one_place, place_there}
use Rattle.ini_config.specs.Node.{NodeSettings}
use Rattle.node_core.specs.View.{NodeView, IsClient}
use Rattle.world.specs.World.{Backend, Connection, Issue, Start, HadBoot, IsNode}
use Rattle.world.specs.Facts.{Process, Grip, Face, IsIn, GripFits, FitSlots, AllFitSlots, AreServers, HasServer, AreNodes, AreIssues, NumbersLeft, IsProcess, LinkStands, AllLinksStand, is_with_client, load_of, AreAtRest}
use Rattle.world.proofs.Lists.{set_here, set_there, set_cases}

-- a node keeps its number and its slots, and its next numbers grow
pub record Kept (y x : NodeView) : Type 0 where
  pub me : x.me ≡ y.me
  pub slots : length x.clients ≡ length y.clients
  pub pools : x.pools ≡ y.pools
  pub incarnation : y.links.incarnation ≤ x.links.incarnation
  pub pass : y.next_pass ≤ x.next_pass
  pub link : y.links.next_link ≤ x.links.next_link
  pub ticket : y.links.next_ticket ≤ x.links.next_ticket

-- it keeps its boot too, in which its serials grow
pub record Grew (y x : NodeView) : Type 0 where
  pub kept : Kept y x
  pub boot : x.boot ≡ y.boot
  pub serial : y.next_serial ≤ x.next_serial

pub kept_not : (x : NodeView) → Kept x x
kept_not x = record {
  me = refl;
  slots = refl;
  pools = refl;
  incarnation = omega arith;
  pass = omega arith;
  link = omega arith;
  ticket = omega arith;
}

grew_not : (x : NodeView) → Grew x x
grew_not x = record { kept = kept_not x; boot = refl; serial = omega arith }

-- each node of a list comes from one of another list
abbrev pub AllKept : List NodeView → List NodeView → Type 0
AllKept olds news = (i : ℕ) (x : NodeView) → slice_get news i ≡ Some x
    → (y : NodeView) × (slice_get olds i ≡ Some y) × Kept y x

abbrev pub AllGrew : List NodeView → List NodeView → Type 0
AllGrew olds news = (i : ℕ) (x : NodeView) → slice_get news i ≡ Some x
    → (y : NodeView) × (slice_get olds i ≡ Some y) × Grew y x

pub all_kept : (olds news : List NodeView) → AllGrew olds news → AllKept olds news
all_kept olds news grew i x at = let g = grew i x at in (g.0, g.1, g.2.kept)

-- one node changes
pub one_kept : (nodes : List NodeView) (q : ℕ) (v n : NodeView) → slice_get nodes q ≡ Some v
    → Kept v n → AllKept nodes (set nodes q n)
one_kept nodes q v n there kept i x at = ⊎_elim
    (λ same. (x, same.1, kept_not x))
    (λ new. (v, ap (slice_get nodes) new.0 ∙ there, subst (Kept v) (sym new.1) kept))
    (set_cases nodes q i x n at)

pub one_grew : (nodes : List NodeView) (q : ℕ) (v n : NodeView) → slice_get nodes q ≡ Some v
    → Grew v n → AllGrew nodes (set nodes q n)
one_grew nodes q v n there grew i x at = ⊎_elim
    (λ same. (x, same.1, grew_not x))
    (λ new. (v, ap (slice_get nodes) new.0 ∙ there, subst (Grew v) (sym new.1) grew))
    (set_cases nodes q i x n at)

-- a step of the links alone
pub links_grew : (v : NodeView) (u : PoolView) → u.incarnation ≡ v.links.incarnation
    → v.links.next_link ≤ u.next_link → v.links.next_ticket ≤ u.next_ticket
    → Grew v (record v { links = u })
links_grew v u same link ticket = record {
  kept = record {
    me = refl;
    slots = refl;
    pools = refl;
    incarnation = omega (arith, same);
    pass = omega arith;
    link = link;
    ticket = ticket;
  };
  boot = refl;
  serial = omega arith;
}

-- what is known of the nodes' numbers
pub nodes_kept : {group : List NodeSettings} (olds news : List NodeView) → length news ≡ length olds
    → AllKept olds news → AreNodes group olds → AreNodes group news
nodes_kept olds news long kept h = record {
  long = long ∙ h.long;
  once = λ i j a b at_i at_j same.
      let x = kept i a at_i in let y = kept j b at_j in
      h.once i j x.0 y.0 x.1 y.1 (sym x.2.me ∙ same ∙ y.2.me);
  ranges = λ i v at. let x = kept i v at in let r = h.ranges i x.0 x.1 in (
    subst (λ (k : ℕ). k < 2 ^ 14) (sym x.2.me) r.0,
    subst (λ (k : ℕ). k ≤ 2 ^ 16) (sym x.2.slots) r.1,
  );
  settings = λ i v at. let x = kept i v at in let s = h.settings i x.0 x.1 in
      (s.0, s.1, s.2 ∙ sym x.2.me, s.3 ∙ sym x.2.pools);
}

pub nodes_grew : {group : List NodeSettings} (olds news : List NodeView) → length news ≡ length olds
    → AllGrew olds news → AreNodes group olds → AreNodes group news
nodes_grew olds news long grew h = nodes_kept olds news long (all_kept olds news grew) h

-- a node of the one list is of the other
pub was_node : (olds news : List NodeView) → AllKept olds news → (number place : ℕ) (x : NodeView)
    → IsNode news number place x → (y : NodeView) × IsNode olds number place y × Kept y x
was_node olds news kept number place x is =
    let from = kept place x is.there in
    (from.0, record { there = from.1; named = sym from.2.me ∙ is.named }, from.2)

-- what is known of the keys
pub issues_grew : (olds news : List NodeView) (starts : List Start) (issues : List Issue)
    → AllGrew olds news → AreIssues olds starts issues → AreIssues news starts issues
issues_grew olds news starts issues grew h = record {
  booted = λ i v at. let x = grew i v at in
      subst (λ (b : ℕ). HadBoot starts v.me b) (sym x.2.boot)
      (subst (λ (m : ℕ). HadBoot starts m x.0.boot) (sym x.2.kept.me) (h.booted i x.0 x.1));
  each = λ i issue at. let g = h.each i issue at in record {
    key = g.key;
    is = g.is;
    of = g.of;
    node = g.node;
    part = λ part has. let w = g.part part has in record {
      boot = w.boot;
      serial = λ place view is same.
          let from = grew place view is.there in
          let old = w.serial place from.0 (record { there = from.1; named = sym from.2.kept.me ∙ is.named })
          (sym from.2.boot ∙ same) in
          let more = from.2.serial in
          omega (arith, old, more);
    };
  };
  once = h.once;
}

-- what is known of the next numbers
pub numbers_left : (olds news : List NodeView) (faces : List Face) (processes : List Process) (connections : List Connection)
    → AllKept olds news → NumbersLeft olds faces processes connections
    → NumbersLeft news faces processes connections
numbers_left olds news faces processes connections kept h = record {
  passes = λ i place face view at is.
      let from = was_node olds news kept face.node place view is in
      let old = h.passes i place face from.0 at from.1 in
      let more = from.2.pass in
      omega (arith, old, more);
  incarnations = λ i place face view at is.
      let from = was_node olds news kept face.node place view is in
      let old = h.incarnations i place face from.0 at from.1 in
      let more = from.2.incarnation in
      omega (arith, old, more);
  links = λ i place process link view at of is.
      let from = was_node olds news kept link.peer place view is in
      let old = h.links i place process link from.0 at of from.1 in
      let more = from.2.link in
      omega (arith, old, more);
  tickets = λ i place connection view at is.
      let from = was_node olds news kept connection.ticket.peer place view is in
      let old = h.tickets i place connection from.0 at from.1 in
      let more = from.2.ticket in
      omega (arith, old, more);
}

pub numbers_grew : (olds news : List NodeView) (faces : List Face) (processes : List Process) (connections : List Connection)
    → AllGrew olds news → NumbersLeft olds faces processes connections
    → NumbersLeft news faces processes connections
numbers_grew olds news faces processes connections grew h =
    numbers_left olds news faces processes connections (all_kept olds news grew) h

-- the node with these links
abbrev pub with_links : NodeView → PoolView → NodeView
with_links v links = record v { links = links }

-- only one place, and what one slot has, changes
pub record Alters (v u : PoolView) (at : LinkPlace) (slot : ℕ) : Type 0 where
  pub incarnation : u.incarnation ≡ v.incarnation
  pub link : v.next_link ≤ u.next_link
  pub ticket : v.next_ticket ≤ u.next_ticket
  pub places : (k : LinkPlace) → k ≢ at → place_at u k ≡ place_at v k
  pub claims : (s : ℕ) → s ≢ slot → slice_get u.claims s ≡ slice_get v.claims s

-- only one place changes
pub record Moves (v u : PoolView) (at : LinkPlace) : Type 0 where
  pub incarnation : u.incarnation ≡ v.incarnation
  pub places : (k : LinkPlace) → k ≢ at → place_at u k ≡ place_at v k

pub moves_of : (v u : PoolView) (at : LinkPlace) (slot : ℕ) → Alters v u at slot → Moves v u at
moves_of v u at slot alters =
    record { incarnation = alters.incarnation; places = alters.places }

pub alters_not : (v : PoolView) (at : LinkPlace) (slot : ℕ) → Alters v v at slot
alters_not v at slot = record {
  incarnation = refl;
  link = omega arith;
  ticket = omega arith;
  places = λ k n. refl;
  claims = λ s n. refl;
}

pub alters_twice : (v x u : PoolView) (at : LinkPlace) (slot : ℕ) → Alters v x at slot
    → Alters x u at slot → Alters v u at slot
alters_twice v x u at slot a b = record {
  incarnation = b.incarnation ∙ a.incarnation;
  link = let p = a.link in let q = b.link in omega (arith, p, q);
  ticket = let p = a.ticket in let q = b.ticket in omega (arith, p, q);
  places = λ k n. b.places k n ∙ a.places k n;
  claims = λ s n. b.claims s n ∙ a.claims s n;
}

-- a place and a claim are written
pub alters_written : (v : PoolView) (at : LinkPlace) (slot : ℕ) (p : Place) (f : List ℕ → List ℕ) (c : Claim)
    → Alters v (with_claim (placed v at p f) slot c) at slot
alters_written v at slot p f c = record {
  incarnation = refl;
  link = omega arith;
  ticket = omega arith;
  places = λ k n. place_there v at k p f n;
  claims = λ s n. set_there v.claims slot s c n;
}

-- a place is written
pub alters_placed : (v : PoolView) (at : LinkPlace) (slot : ℕ) (p : Place) (f : List ℕ → List ℕ)
    → Alters v (placed v at p f) at slot
alters_placed v at slot p f = record {
  incarnation = refl;
  link = omega arith;
  ticket = omega arith;
  places = λ k n. place_there v at k p f n;
  claims = λ s n. refl;
}

-- a claim is written
pub alters_claim : (v : PoolView) (at : LinkPlace) (slot : ℕ) (c : Claim)
    → Alters v (with_claim v slot c) at slot
alters_claim v at slot c = record {
  incarnation = refl;
  link = omega arith;
  ticket = omega arith;
  places = λ k n. refl;
  claims = λ s n. set_there v.claims slot s c n;
}

-- a queue changes
pub queue_alters : (v : PoolView) (at : LinkPlace) (slot d : ℕ) (change : List ℕ → List ℕ)
    → Alters v (with_queue v d change) at slot
queue_alters v at slot d change = record {
  incarnation = refl;
  link = omega arith;
  ticket = omega arith;
  places = λ k n. refl;
  claims = λ s n. refl;
}

-- a slot leaves its queue
out_alters : (v : PoolView) (at : LinkPlace) (slot : ℕ) (o : Option Claim)
    → Alters v (out_of_queue o v slot) at slot
out_alters v at slot (Some (Claim.Waiting d)) =
    alters_twice v (with_queue v d (others slot)) _ at slot (queue_alters v at slot d (others slot))
    (alters_claim (with_queue v d (others slot)) at slot Claim.Nothing)
out_alters v at slot other = alters_not v at slot

pub alters_unqueued : (v : PoolView) (at : LinkPlace) (slot : ℕ)
    → Alters v (unqueued v slot) at slot
alters_unqueued v at slot = out_alters v at slot (slice_get v.claims slot)

same_pools_as : (v : PoolView) (slot : ℕ) (k : LinkPlace) (o : Option Claim)
    → place_at (out_of_queue o v slot) k ≡ place_at v k
same_pools_as v slot k (Some (Claim.Waiting d)) = refl
same_pools_as v slot k other = refl

-- who leaves a queue changes no place
pub unqueued_places : (v : PoolView) (slot : ℕ) (k : LinkPlace)
    → place_at (unqueued v slot) k ≡ place_at v k
unqueued_places v slot k = same_pools_as v slot k (slice_get v.claims slot)

-- one place or the other
pub which_place : (a b : LinkPlace) → (a ≡ b) ⊎ (a ≢ b)
which_place a b = ⊎_elim
    (λ d. ⊎_elim (λ i. inl (one_place a b d i)) (λ n. inr (λ e. n (ap (λ (p : LinkPlace). p.index) e)))
    (cases_eq a.index b.index))
    (λ n. inr (λ e. n (ap (λ (p : LinkPlace). p.database) e)))
    (cases_eq a.database b.database)

-- what is at a place once one was written
pub placed_cases : (v u : PoolView) (at k : LinkPlace) (p : Place) → Moves v u at
    → place_at u k ≡ Some p
    → ((k ≢ at) × (place_at v k ≡ Some p)) ⊎ ((k ≡ at) × (place_at u at ≡ Some p))
placed_cases v u at k p alters there = ⊎_elim
    (λ same. inr (same, ap (place_at u) (sym same) ∙ there))
    (λ apart. inl (apart, sym (alters.places k apart) ∙ there))
    (which_place k at)

-- clients keep all but what they have in hand
pub record SameBut (y x : Face) : Type 0 where
  pub label : x.label ≡ y.label
  pub node : x.node ≡ y.node
  pub database : x.database ≡ y.database
  pub pass : x.pass ≡ y.pass
  pub stays : x.stays ≡ y.stays

pub same_face : (x : Face) → SameBut x x
same_face x = record { label = refl; node = refl; database = refl; pass = refl; stays = refl }

pub record Regrips (olds news : List Face) : Type 0 where
  pub from : (i : ℕ) (x : Face) → slice_get news i ≡ Some x
      → (y : Face) × (slice_get olds i ≡ Some y) × SameBut y x
  pub to : (i : ℕ) (y : Face) → slice_get olds i ≡ Some y
      → (x : Face) × (slice_get news i ≡ Some x) × SameBut y x

pub regrips_not : (faces : List Face) → Regrips faces faces
regrips_not faces = record {
  from = λ i x h. (x, h, same_face x);
  to = λ i x h. (x, h, same_face x);
}

-- one client has something else in hand
pub one_regrips : (faces : List Face) (p : ℕ) (f g : Face) → slice_get faces p ≡ Some f
    → SameBut f g → Regrips faces (set faces p g)
one_regrips faces p f g there same = record {
  from = λ i x h. ⊎_elim (λ was. (x, was.1, same_face x))
      (λ new. (f, ap (slice_get faces) new.0 ∙ there, subst (SameBut f) (sym new.1) same))
      (set_cases faces p i x g h);
  to = λ i y h. ⊎_elim
      (λ here. let is : f ≡ y = same_Some f y (sym there ∙ ap (slice_get faces) (sym here) ∙ h) in (
        g,
        ap (slice_get (set faces p g)) here ∙ set_here faces p f g there,
        subst (λ (z : Face). SameBut z g) is same,
      ))
      (λ apart. (y, set_there faces p i g apart ∙ h, same_face y))
      (cases_eq i p);
}

-- what is known of servers, whatever clients have in hand
pub servers_regripped : (group : List NodeSettings) (olds news : List Face) (connections : List Connection)
    → Regrips olds news → AreServers group olds connections → AreServers group news connections
servers_regripped group olds news connections regrips h = record {
  one = h.one;
  clients = λ i x at. let from = regrips.from i x at in
      subst (λ (d : ℕ). HasServer group x.node d) (sym from.2.database)
      (subst (λ (n : ℕ). HasServer group n from.0.database) (sym from.2.node) (h.clients i from.0 from.1));
  asked = h.asked;
}

-- who is in, was in
pub was_in : (view n : NodeView) (y x : Face) → SameBut y x → n.me ≡ view.me
    → n.links.incarnation ≡ view.links.incarnation → IsIn n x → IsIn view y
was_in view n y x same me incarnation is = record {
  stays = sym same.stays ∙ is.stays;
  node = sym same.node ∙ is.node ∙ me;
  incarnation = ap (λ (p : PassRecord). p.incarnation) (sym same.pass) ∙ is.incarnation ∙ incarnation;
}

pub is_in_still : (view n : NodeView) (y x : Face) → SameBut y x → n.me ≡ view.me
    → n.links.incarnation ≡ view.links.incarnation → IsIn view y → IsIn n x
is_in_still view n y x same me incarnation is = record {
  stays = same.stays ∙ is.stays;
  node = same.node ∙ is.node ∙ sym me;
  incarnation = ap (λ (p : PassRecord). p.incarnation) same.pass ∙ is.incarnation ∙ sym incarnation;
}

same_slot : (y x : Face) → SameBut y x → slot_of x.pass.key ≡ slot_of y.pass.key
same_slot y x same = ap (λ (p : PassRecord). slot_of p.key) same.pass

-- a link stands as it stood, for a node with the same number and incarnation
pub link_stands_still : {olds news : List Face} {lasts : List (Option ℕ)} {connections : List Connection}
    (view n : NodeView) (link : Link) (b : ℕ) → Regrips olds news → n.me ≡ view.me
    → n.links.incarnation ≡ view.links.incarnation
    → LinkStands olds lasts connections view link b → LinkStands news lasts connections n link b
link_stands_still {lasts = lasts} view n link b regrips me incarnation h = record {
  tickets = h.tickets;
  hasty = h.hasty;
  giver = λ i slot face given at is key.
      let from = regrips.from i face at in
      h.giver i slot from.0 given from.1 (was_in view n from.0 face from.2 me incarnation is)
      (sym (same_slot from.0 face from.2) ∙ key)
      ∙ ap (λ (l : ℕ). Some (Some l)) (sym from.2.label);
}

-- each link stands, if what is at the one place that changed does
pub links_moved : (group : List NodeSettings) (nodes : List NodeView) (olds news : List Face) (processes : List Process) (lasts : List (Option ℕ)) (was now : List Connection)
    (q : ℕ) (v : NodeView) (u : PoolView) (at : LinkPlace)
    → slice_get nodes q ≡ Some v → Moves v.links u at
    → AllLinksStand group nodes olds processes lasts was
    → ((i : ℕ) (view n : NodeView) (k : LinkPlace) (link : Link) (b : ℕ) → slice_get nodes i ≡ Some view
    → n.me ≡ view.me → n.links.incarnation ≡ view.links.incarnation
    → place_at view.links k ≡ Some (Place.Link link) → (i ≡ q → k ≡ at → ⊥)
    → IsProcess group processes view.me link b → LinkStands olds lasts was view link b
    → LinkStands news lasts now n link b)
    → ((link : Link) → place_at u at ≡ Some (Place.Link link)
    → (b : ℕ) × IsProcess group processes v.me link b × LinkStands news lasts now (with_links v u) link b)
    → AllLinksStand group (set nodes q (with_links v u)) news processes lasts now
links_moved group nodes olds news processes lasts was now q v u at there alters old others here i view at_i k link at_k = ⊎_elim
    (λ same. let h = old i view same.1 k link at_k in
    (h.0, h.1, others i view view k link h.0 same.1 refl refl at_k (λ e. absurd (same.0 e)) h.1 h.2))
    (λ new. subst (λ (n : NodeView). (b : ℕ) × IsProcess group processes n.me link b × LinkStands news lasts now n link b)
    (sym new.1) (⊎_elim
    (λ other. let h = old q v there k link other.1 in
    (h.0, h.1, others q v (with_links v u) k link h.0 there refl alters.incarnation other.1 (λ e d. other.0 d) h.1 h.2))
    (λ mine. here link mine.1)
    (placed_cases v.links u at k (Place.Link link) alters
    (subst (λ (n : NodeView). place_at n.links k ≡ Some (Place.Link link)) new.1 at_k))))
    (set_cases nodes q i view (with_links v u) at_i)

-- what is at a place is of no slot but this one
pub record Belongs (v : PoolView) (at : LinkPlace) (slot : ℕ) : Type 0 where
  pub open_for : (permit : PermitRecord) (s : ℕ)
      → place_at v at ≡ Some (Place.Open permit s) → s ≡ slot
  pub held_by : (link : Link) (s : ℕ) → place_at v at ≡ Some (Place.Link link)
      → link.state ≡ LinkState.Held s → s ≡ slot

-- what other slots have in hand fits still
pub other_grips : (v u : PoolView) (at : LinkPlace) (slot s : ℕ) (g : Grip) → Alters v u at slot
    → Belongs v at slot → s ≢ slot → GripFits v s g → GripFits u s g
other_grips v u at slot s Grip.Nothing alters belongs apart fits =
    ap is_holding (alters.claims s apart) ∙ fits
other_grips v u at slot s (Grip.Permit permit) alters belongs apart fits =
    alters.places permit.at (λ e. apart (belongs.open_for permit s (ap (place_at v) (sym e) ∙ fits))) ∙ fits
other_grips v u at slot s (Grip.Lease lease b) alters belongs apart fits = (
  fits.0,
  record {
    at = alters.places lease.at
        (λ e. apart (belongs.held_by fits.0 s (ap (place_at v) (sym e) ∙ fits.1.at) fits.1.held)) ∙ fits.1.at;
    says = fits.1.says;
    held = fits.1.held;
  },
)

-- what is known of slots
pub slots_moved : (nodes : List NodeView) (olds news : List Face) (q : ℕ) (v : NodeView) (u : PoolView)
    → slice_get nodes q ≡ Some v → u.incarnation ≡ v.links.incarnation → Regrips olds news
    → AllFitSlots nodes olds
    → ((i j : ℕ) (view : NodeView) (x : Face) → i ≢ q → slice_get nodes i ≡ Some view
    → slice_get news j ≡ Some x → IsIn view x → slice_get olds j ≡ Some x)
    → ((j : ℕ) (x : Face) → slice_get news j ≡ Some x → IsIn (with_links v u) x
    → GripFits u (slot_of x.pass.key) x.grip)
    → AllFitSlots (set nodes q (with_links v u)) news
slots_moved nodes olds news q v u there incarnation regrips old elsewhere grips i view at_i = ⊎_elim
    (λ same. let h = old i view same.1 in record {
      fits = λ j x at_j is. h.fits j x (elsewhere i j view x same.0 same.1 at_j is) is;
      filled = λ slot client live.
          let f = h.filled slot client live in
          let to = regrips.to f.0 f.1 f.2 in (
            f.0,
            to.0,
            to.1,
            is_in_still view view f.1 to.0 to.2 refl refl f.3,
            same_slot f.1 to.0 to.2 ∙ f.4,
          );
    })
    (λ new. let h = old q v there in subst (FitSlots news) (sym new.1) (record {
      fits = λ j x at_j is.
          let from = regrips.from j x at_j in
          let was = h.fits j from.0 from.1 (was_in v (with_links v u) from.0 x from.2 refl incarnation is) in
          record {
            client = subst (λ (d : ℕ). IsClient v (slot_of x.pass.key) record { database = d; pass = x.pass.number })
                (sym from.2.database) (subst (λ (p : PassRecord).
                IsClient v (slot_of p.key) record { database = from.0.database; pass = p.number })
                (sym from.2.pass) was.client);
            entry = subst (λ (p : PassRecord). slice_get v.keys.entries (slot_of p.key)
                ≡ Some (Some (entry_of (short_of p.key).secret (long_part_of p.key))))
                (sym from.2.pass) was.entry;
            grip = grips j x at_j is;
          };
      filled = λ slot client live.
          let f = h.filled slot client live in
          let to = regrips.to f.0 f.1 f.2 in (
            f.0,
            to.0,
            to.1,
            is_in_still v (with_links v u) f.1 to.0 to.2 refl incarnation f.3,
            same_slot f.1 to.0 to.2 ∙ f.4,
          );
    }))
    (set_cases nodes q i view (with_links v u) at_i)

-- what is known of links at rest
pub rest_moved : (nodes : List NodeView) (backends : List Backend) (q : ℕ) (v : NodeView) (u : PoolView) (at : LinkPlace)
    → Moves v.links u at
    → slice_get nodes q ≡ Some v
    → ((i : ℕ) (view : NodeView) → slice_get nodes i ≡ Some view → AreAtRest backends view)
    → ((link : Link) (j : ℕ) (b : Backend) → place_at u at ≡ Some (Place.Link link)
    → is_with_client link.state ≡ false → slice_get backends j ≡ Some b
    → b.link ≡ Some link.details → load_of b ≡ 0)
    → (i : ℕ) (view : NodeView) → slice_get (set nodes q (with_links v u)) i ≡ Some view
    → AreAtRest backends view
rest_moved nodes backends q v u at alters there old here i view at_i = ⊎_elim
    (λ same. old i view same.1)
    (λ new. subst (AreAtRest backends) (sym new.1) (λ k link j b at_k free at_j of. ⊎_elim
    (λ other. old q v there k link j b other.1 free at_j of)
    (λ mine. here link j b mine.1 free at_j of)
    (placed_cases v.links u at k (Place.Link link) alters at_k)))
    (set_cases nodes q i view (with_links v u) at_i)
