-- A request comes to a node, which takes its key for a client's or not, and may forward it.
use Rattle.std.proofs.Common.{◌≡◌, ◌≢◌, ℕ, ⊎_elim, true, false, List, [], ◌∷◌, Some, None, length, refl, ap, sym, subst, ◌∙◌, arith, length-append}
use Rattle.std.specs.List.{slice_get}
use Rattle.std.proofs.lemmas.Option.{same_Some, none-some}
use Rattle.pg_ids.specs.AnyKey.{IsAnyKey, any_identity_of, slot_of, short_of, long_part_of}
use Rattle.pg_ids.specs.declared.any_key.{AnyKey.AnyKey}
use Rattle.node_core.specs.declared.client.Client.{Client}
use Rattle.node_core.specs.View.{NodeView, IsClient}
use Rattle.world.specs.World.{World, Arrival, Forward, Issue, Report, Session, Taken, IsNode, IsOwner}
use Rattle.world.specs.Changes.{and_then}
use Rattle.world.specs.CancelEvents.{IsInSlot}
use Rattle.world.specs.SafeCancellation.{IsRightly, NoKeyTwice}
use Rattle.world.specs.Facts.{face_of, IsIn, IsForwarded, ForwardStands, Facts, AreWhole}
use Rattle.world.proofs.Lists.{kept_behind, added_cases, read_map}
use Rattle.world.proofs.Settling.{GoesOn, settled_still}
use Rattle.world.proofs.Connections.{forwards_kept}
use Rattle.world.proofs.Keys.{same_identity, any_peer, short_is_key, opened, named_entry, TakesHome}

-- a client's key is its own: whoever is in the slot that a key opens is the owner of that key
pub record IsKeyOf (w : World) (v : NodeView) (key : AnyKey) (label : ℕ) : Type 0 where
  pub place : ℕ
  pub session : Session
  pub there : slice_get w.sessions place ≡ Some session
  pub named : session.label ≡ label
  pub in_node : IsIn v (face_of session)
  pub slot : slot_of session.pass.key ≡ slot_of key
  pub owner : IsOwner w.issues (any_identity_of key) label

pub slot_owner : (w : World) → Facts w → AreWhole w.nodes → (q label : ℕ) (v : NodeView) (node : ℕ) (key : AnyKey)
    → IsNode w.nodes node q v → IsAnyKey key → TakesHome v key
    → IsInSlot w node (slot_of key) label → IsKeyOf w v key label
slot_owner w f whole q label v node key is is_key home in_slot =
    let s = in_slot.session in
    let p = in_slot.place in
    let place : in_slot.at ≡ q = f.nodes.once in_slot.at q in_slot.view v in_slot.is.there is.there
    (in_slot.is.named ∙ sym is.named) in
    let one : in_slot.view ≡ v = same_Some in_slot.view v
    (sym in_slot.is.there ∙ ap (slice_get w.nodes) place ∙ is.there) in
    let live : IsIn v (face_of s) = record {
      stays = in_slot.stays;
      node = in_slot.here ∙ sym is.named;
      incarnation = in_slot.pass.1 ∙ ap (λ (x : NodeView). x.links.incarnation) one;
    } in
    let here = read_map face_of w.sessions p s in_slot.there.there in
    let fits = (f.slots q v is.there).fits p (face_of s) here live in
    let client = f.clients.each p (face_of s) here in
    let live_client : IsClient v (slot_of key) in_slot.client =
    subst (λ (x : NodeView). IsClient x (slot_of key) in_slot.client) one in_slot.live in
    let own : Client = record { database = s.database; pass = s.pass.number } in
    let slot : slot_of s.pass.key ≡ slot_of key =
    (whole q v is.there).node.passes (slot_of s.pass.key) (slot_of key) own in_slot.client fits.client live_client in_slot.pass.0 in
    let peers = (whole q v is.there).node.own.0 in
    let entry = ap (slice_get v.keys.entries) (sym slot) ∙ fits.entry in
    let opens = opened (short_of s.pass.key).secret (long_part_of s.pass.key) key
    (named_entry v.keys key _ home.named entry) in
    let identity : any_identity_of s.pass.key ≡ any_identity_of key =
    same_identity s.pass.key key client.key (short_is_key key is_key)
    (sym client.node ∙ live.node ∙ sym home.own) slot opens.0 opens.1 in
    let label_is : label ≡ s.label = sym in_slot.there.named in
    record {
      place = p;
      session = s;
      there = in_slot.there.there;
      named = in_slot.there.named;
      in_node = live;
      slot = slot;
      owner = record {
        place = client.issued.0;
        issue = client.issued.1;
        there = client.issued.2;
        of = client.issued.3 ∙ identity;
        to = client.issued.4 ∙ sym label_is;
        only = λ i also at same.
            let where_it_is : i ≡ client.issued.0 = f.issues.once i client.issued.0 also client.issued.1 at client.issued.2
            (same ∙ sym (client.issued.3 ∙ identity)) in
            let it : also ≡ client.issued.1 = same_Some also client.issued.1
            (sym at ∙ ap (slice_get w.issues) where_it_is ∙ client.issued.2) in
            ap (λ (x : Issue). x.label) it ∙ client.issued.4 ∙ sym label_is;
      };
    }

-- one more arrival
pub arrived_kept : (w : World) (a : Arrival) → Facts w
    → Facts (record w { arrivals = and_then w.arrivals a })
arrived_kept w a f =
    let stays : (i : ℕ) (x : Arrival) → slice_get w.arrivals i ≡ Some x → slice_get (and_then w.arrivals a) i ≡ Some x =
    λ i x h. kept_behind w.arrivals (a ∷ []) i x h in
    record {
      servers = f.servers;
      nodes = f.nodes;
      issues = f.issues;
      clients = f.clients;
      slots = f.slots;
      processes = f.processes;
      numbers = f.numbers;
      links = f.links;
      connections = record {
        each = λ i c at. let h = f.connections.each i c at in record {
          process = h.process;
          there = h.there;
          server = h.server;
          key = h.key;
          link = h.link;
          waits = h.waits;
          acted = h.acted;
          clean = h.clean;
          served = (h.served.0, stays c.arrival h.served.0 h.served.1, h.served.2);
        };
        tickets = f.connections.tickets;
        apart = f.connections.apart;
      };
      loads = f.loads;
      forwards = forwards_kept w.forwards (omega arith) (record {
        arrivals = stays;
        connections = λ i c h. (c, h, refl, λ e. e);
        forwards = λ i g h. (g, h, refl, λ n e. e);
      }) f.forwards;
      safe = record {
        struck = λ i s at. let h = f.safe.struck i s at in
            record { came = h.came; there = stays s.arrival h.came h.there; owner = h.owner };
        taken = f.safe.taken;
        earned = λ i c at. let h = f.safe.earned i c at in record {
          came = h.came;
          there = stays c.arrival h.came h.there;
          hops = h.hops;
          node = h.node;
          label = h.label;
          holder = h.holder;
          owner = h.owner;
        };
      };
    }

-- keys that were taken rightly were taken once
pub once_by_rightly : (w : World)
    → ((i : ℕ) (t : Taken) → slice_get w.taken i ≡ Some t → IsRightly w.issues t) → NoKeyTwice w
once_by_rightly w rightly i j a b at_i at_j same =
    let x = rightly i a at_i in
    let y = rightly j b at_j in (
      x.node ∙ any_peer a.key b.key (short_is_key a.key x.key) (short_is_key b.key y.key) same ∙ sym y.node,
      sym x.owner.to ∙ y.owner.only x.owner.place x.owner.issue x.owner.there (x.owner.of ∙ same),
    )

-- one more key was taken
pub taken_kept : (w : World) (t : Taken) → IsRightly w.issues t → Facts w
    → Facts (record w { taken = and_then w.taken t })
taken_kept w t rightly f =
    let all : (i : ℕ) (x : Taken) → slice_get (and_then w.taken t) i ≡ Some x → IsRightly w.issues x =
    λ i x at. ⊎_elim (λ was. f.safe.taken.0 i x was) (λ new. subst (IsRightly w.issues) (sym new.1) rightly)
    (added_cases w.taken t i x at) in
    record {
      servers = f.servers;
      nodes = f.nodes;
      issues = f.issues;
      clients = f.clients;
      slots = f.slots;
      processes = f.processes;
      numbers = f.numbers;
      links = f.links;
      connections = f.connections;
      loads = f.loads;
      forwards = f.forwards;
      safe = record {
        struck = f.safe.struck;
        taken = (all, once_by_rightly (record w { taken = and_then w.taken t }) all);
        earned = f.safe.earned;
      };
    }

-- one more forward connection, for an arrival that has none
pub record IsNewForward (w : World) (g : Forward) : Type 0 where
  pub flight : g.flight ≡ length w.flights
  pub origin : (came : Arrival) × (slice_get w.arrivals g.origin ≡ Some came) × IsForwarded came.order
  pub other : (i : ℕ) (h : Forward) → slice_get w.forwards i ≡ Some h → h.origin ≢ g.origin
  pub accepted : g.accepted ≡ None
  pub ended : g.ended ≡ false
  pub report : g.report ≡ None

pub forwarded_kept : (w : World) (bytes : List ℕ) (g : Forward) → IsNewForward w g → Facts w
    → Facts (record w { flights = and_then w.flights bytes; forwards = and_then w.forwards g })
forwarded_kept w bytes g is f =
    let on : GoesOn w.arrivals w.arrivals w.connections w.connections w.forwards (and_then w.forwards g) = record {
      arrivals = λ i a h. h;
      connections = λ i c h. (c, h, refl, λ e. e);
      forwards = λ i x h. (x, kept_behind w.forwards (g ∷ []) i x h, refl, λ n e. e);
    } in
    let long = length-append w.flights (bytes ∷ []) in
    let apart : (i j : ℕ) (a b : Forward) → slice_get w.forwards i ≡ Some a → b ≡ g → a.flight ≡ b.flight → ⊥ =
    λ i j a b at_i new same.
    let below = (f.forwards.each i a at_i).flight in
    let its : b.flight ≡ length w.flights = ap (λ (x : Forward). x.flight) new ∙ is.flight in
    absurd (omega (arith, below, its, same)) in
    record {
      servers = f.servers;
      nodes = f.nodes;
      issues = f.issues;
      clients = f.clients;
      slots = f.slots;
      processes = f.processes;
      numbers = f.numbers;
      links = f.links;
      connections = f.connections;
      loads = f.loads;
      forwards = record {
        each = λ i x at. ⊎_elim
            (λ was. let h = f.forwards.each i x was in record {
              flight = let below = h.flight in omega (arith, below, long);
              origin = h.origin;
              onward = h.onward;
              ended = λ e. let s = h.ended e in (s.0, s.1, settled_still on s.0 s.2);
              clean = h.clean;
            })
            (λ new. subst (ForwardStands (and_then w.flights bytes) w.arrivals w.connections (and_then w.forwards g)) (sym new.1) (record {
              flight = let its = is.flight in omega (arith, its, long);
              origin = is.origin;
              onward = λ n e. absurd (none-some n (sym is.accepted ∙ e));
              ended = λ e. absurd (differ (sym is.ended ∙ e));
              clean = λ e. absurd (none-some Report.Clean (sym is.report ∙ e));
            }))
            (added_cases w.forwards g i x at);
        one_flight = λ i j a b at_i at_j same. ⊎_elim
            (λ was_i. ⊎_elim (λ was_j. f.forwards.one_flight i j a b was_i was_j same)
            (λ new_j. absurd (apart i j a b was_i new_j.1 same)) (added_cases w.forwards g j b at_j))
            (λ new_i. ⊎_elim (λ was_j. absurd (apart j i b a was_j new_i.1 (sym same)))
            (λ new_j. new_i.0 ∙ sym new_j.0) (added_cases w.forwards g j b at_j))
            (added_cases w.forwards g i a at_i);
        one_origin = λ i j a b at_i at_j same. ⊎_elim
            (λ was_i. ⊎_elim (λ was_j. f.forwards.one_origin i j a b was_i was_j same)
            (λ new_j. absurd (is.other i a was_i (same ∙ ap (λ (x : Forward). x.origin) new_j.1))) (added_cases w.forwards g j b at_j))
            (λ new_i. ⊎_elim (λ was_j. absurd (is.other j b was_j (sym same ∙ ap (λ (x : Forward). x.origin) new_i.1)))
            (λ new_j. new_i.0 ∙ sym new_j.0) (added_cases w.forwards g j b at_j))
            (added_cases w.forwards g i a at_i);
        one_onward = λ i j n a b at_i at_j of_a of_b. ⊎_elim
            (λ was_i. ⊎_elim (λ was_j. f.forwards.one_onward i j n a b was_i was_j of_a of_b)
            (λ new_j. absurd (none-some n (sym is.accepted ∙ ap (λ (x : Forward). x.accepted) (sym new_j.1) ∙ of_b))) (added_cases w.forwards g j b at_j))
            (λ new_i. absurd (none-some n (sym is.accepted ∙ ap (λ (x : Forward). x.accepted) (sym new_i.1) ∙ of_a)))
            (added_cases w.forwards g i a at_i);
      };
      safe = record { struck = f.safe.struck; taken = f.safe.taken; earned = f.safe.earned };
    }
  where
    differ : false ≡ true → ⊥
    differ h = cc
