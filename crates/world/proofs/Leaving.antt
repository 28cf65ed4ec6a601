-- A client leaves.
use Rattle.std.proofs.Common.{◌≡◌, ◌≢◌, ℕ, ◌<◌, ◌≤◌, ⊎_elim, Bool, true, false, List, Option, Some, None, refl, ap, sym, subst, ◌∙◌, arith, length-set}
use Rattle.std.proofs.Math.ListN.{set}
use Rattle.std.specs.List.{slice_get}
use Rattle.std.proofs.lemmas.Option.{same_Some, none-some}
use Rattle.pg_ids.specs.AnyKey.{slot_of}
use Rattle.key_table.specs.Slots.{Slots}
use Rattle.lease.specs.declared.{link_place.LinkPlace.LinkPlace, pass.PassRecord.PassRecord}
use Rattle.quarantine.specs.OpenTickets.{OpenTickets}
use Rattle.link_pool.specs.declared.place.{Place.Place, Link.Link, LinkState.LinkState, Claim.Claim}
use Rattle.link_pool.specs.Pool.{PoolView, place_at, with_queue, with_claim, in_state, without_giver, departed_by, departed, others}
use Rattle.link_pool.specs.OnePlace.{IsPool, has_given, given_by, is_from}
use Rattle.link_pool.proofs.Changes.{same_place_yes}
use Rattle.node_core.specs.declared.client.Client.{Client}
use Rattle.node_core.specs.declared.exchange.LeaveReply.{LeaveReply}
use Rattle.node_core.specs.View.{NodeView}
use Rattle.node_core.specs.NodeStep.{LeaveStep}
use Rattle.world.specs.declared.reply.Reply.{Reply}
use Rattle.key_table.specs.declared.entry.Entry.{Entry}
use Rattle.ini_config.specs.Node.{NodeSettings}
use Rattle.world.specs.World.{World, Connection, Hand, Issue, Session, IsNode}
use Rattle.world.specs.Changes.{with_nodes, with_session}
use Rattle.world.specs.Admissible.{HasInHand}
use Rattle.world.specs.LinkEvents.{Leaves, Goes}
use Rattle.world.specs.Facts.{AreServers, HasServer, Process, Grip, grip_of, Face, face_of, processes_of, lasts_of, faces_of, IsClientOf, AreClients, IsIn, FitSlots, AllFitSlots, NumbersLeft, IsProcess, LinkStands, AllLinksStand, is_with_client, AreAtRest, Facts, AreWhole}
use Rattle.world.proofs.Lists.{set_there, set_cases, read_map, map_write}
use Rattle.world.proofs.Holding.{one_session}
use Rattle.world.proofs.LinkSteps.{one_grew, nodes_grew, issues_grew, numbers_grew, Alters, Belongs, alters_not, alters_twice, alters_written, alters_claim, queue_alters, moves_of, placed_cases, other_grips}
use Rattle.world.proofs.Steps.{one_slot, nowhere, nothing_there}
use Rattle.world.proofs.GivingBack.{process_again, written_at, same_nodes}
use Rattle.world.proofs.Asking.{apart_belongs}

-- a place past all pools is of no slot
nowhere_belongs : (v : PoolView) (slot : ℕ) → Belongs v (nowhere v) slot
nowhere_belongs v slot = record {
  open_for = λ permit s e. absurd (none-some _ (sym (nothing_there v) ∙ e));
  held_by = λ l s e h. absurd (none-some _ (sym (nothing_there v) ∙ e));
}

-- what the leaving of a slot's client changes: its claim, and who may have a link back
pub record Departs (v u : PoolView) (slot : ℕ) : Type 0 where
  pub at : LinkPlace
  pub alters : Alters v u at slot
  pub belongs : Belongs v at slot
  pub was : (l : Link) → place_at u at ≡ Some (Place.Link l)
      → (link : Link) × (place_at v at ≡ Some (Place.Link link)) × (l.details ≡ link.details)
      × (l.key ≡ link.key) × (l.hold ≡ link.hold)
      × (is_with_client l.state ≡ is_with_client link.state)
      × ((s : ℕ) → l.state ≡ LinkState.Quarantined (Some s) → link.state ≡ LinkState.Quarantined (Some s))

-- no place changes
departs_by : (v u : PoolView) (slot : ℕ) → Alters v u (nowhere v) slot
    → place_at u (nowhere v) ≡ place_at v (nowhere v) → Departs v u slot
departs_by v u slot alters same = record {
  at = nowhere v;
  alters = alters;
  belongs = nowhere_belongs v slot;
  was = λ l e. absurd (none-some (Place.Link l) (sym (nothing_there v) ∙ sym same ∙ e));
}

not_with : (slot : ℕ) (x : LinkState) → is_from slot x ≡ true → is_with_client x ≡ false
not_with slot LinkState.Idle h = refl
not_with slot (LinkState.Held other) h = absurd (cc)
not_with slot (LinkState.Quarantined giver) h = refl

-- a link stays quarantined, and nobody gets it back
forgets : (v : PoolView) (slot : ℕ) (at : LinkPlace) (o : Option Place) → IsPool v
    → slice_get v.claims slot ≡ Some (Claim.Gave at) → place_at v at ≡ o
    → Departs v (with_claim (without_giver o v at) slot Claim.Nothing) slot
forgets v slot at None whole gave there =
    departs_by v _ slot (alters_claim v (nowhere v) slot Claim.Nothing) refl
forgets v slot at (Some Place.Free) whole gave there =
    departs_by v _ slot (alters_claim v (nowhere v) slot Claim.Nothing) refl
forgets v slot at (Some (Place.Open permit other)) whole gave there =
    departs_by v _ slot (alters_claim v (nowhere v) slot Claim.Nothing) refl
forgets v slot at (Some (Place.Link link)) whole gave there =
    let new : Link = in_state (LinkState.Quarantined None) link in
    let from : is_from slot link.state ≡ true = sym (ap (given_by slot) there)
    ∙ sym (whole.given slot at) ∙ ap (has_given at) gave ∙ same_place_yes at in
    let free = not_with slot link.state from in
    record {
      at = at;
      alters = alters_written v at slot (Place.Link new) _ Claim.Nothing;
      belongs = apart_belongs v at link slot there free;
      was = λ l e.
          let is : new ≡ l = same_link new l (written_at v at (Place.Link link) (Place.Link new) (Place.Link l) _ there e) in (
            link,
            there,
            ap (λ (z : Link). z.details) (sym is),
            ap (λ (z : Link). z.key) (sym is),
            ap (λ (z : Link). z.hold) (sym is),
            ap (λ (z : Link). is_with_client z.state) (sym is) ∙ sym free,
            λ s h. absurd (none_or_some s (ap (λ (z : Link). z.state) is ∙ h)),
          );
    }
  where
    same_link : (a b : Link) → Place.Link a ≡ Place.Link b → a ≡ b
    same_link a b h = cc

    none_or_some : (s : ℕ) → LinkState.Quarantined None ≡ LinkState.Quarantined (Some s) → ⊥
    none_or_some s h = cc

departs_as : (v : PoolView) (slot : ℕ) (o : Option Claim) → IsPool v → slice_get v.claims slot ≡ o
    → Departs v (departed_by o v slot) slot
departs_as v slot (Some Claim.Cancelled) whole e =
    departs_by v _ slot (alters_claim v (nowhere v) slot Claim.Nothing) refl
departs_as v slot (Some (Claim.Waiting d)) whole e =
    departs_by v _ slot (alters_twice v (with_queue v d (others slot)) _ (nowhere v) slot
    (queue_alters v (nowhere v) slot d (others slot))
    (alters_claim (with_queue v d (others slot)) (nowhere v) slot Claim.Nothing)) refl
departs_as v slot (Some (Claim.Gave at)) whole e = forgets v slot at (place_at v at) whole e refl
departs_as v slot other whole e = departs_by v v slot (alters_not v (nowhere v) slot) refl

departs : (v : PoolView) (slot : ℕ) → IsPool v → Departs v (departed v slot) slot
departs v slot whole = departs_as v slot (slice_get v.claims slot) whole refl

-- a client is gone
abbrev gone_now : Session → Session
gone_now s = record s { stays = false }

true_false : (b : Bool) → b ≡ true → b ≡ false → ⊥
true_false b t f = differ (sym t ∙ f)
  where
    differ : true ≡ false → ⊥
    differ h = cc

-- who is there once a client has gone was there before
still_there : (faces : List Face) (p i : ℕ) (f x : Face) → slice_get (set faces p (record f { stays = false })) i ≡ Some x
    → x.stays ≡ true → (i ≢ p) × (slice_get faces i ≡ Some x)
still_there faces p i f x at stays = ⊎_elim (λ was. was)
    (λ new. absurd (true_false x.stays stays (ap (λ (z : Face). z.stays) new.1)))
    (set_cases faces p i x (record f { stays = false }) at)

-- a link stands, whoever has gone
stands_without : (faces : List Face) (lasts : List (Option ℕ)) (connections : List Connection) (view n : NodeView) (link : Link) (b p : ℕ) (f : Face)
    → n.me ≡ view.me → n.links.incarnation ≡ view.links.incarnation
    → LinkStands faces lasts connections view link b
    → LinkStands (set faces p (record f { stays = false })) lasts connections n link b
stands_without faces lasts connections view n link b p f me incarnation h = record {
  tickets = h.tickets;
  hasty = h.hasty;
  giver = λ i slot face given at is key.
      h.giver i slot face given (still_there faces p i f face at is.stays).1
      (record { stays = is.stays; node = is.node ∙ me; incarnation = is.incarnation ∙ incarnation }) key;
}

-- what is known of clients, one of which has gone with nothing in hand
clients_without : (issues : List Issue) (processes : List Process) (lasts : List (Option ℕ)) (faces : List Face) (p : ℕ) (f : Face)
    → slice_get faces p ≡ Some f → f.grip ≡ Grip.Nothing → AreClients issues processes lasts faces
    → AreClients issues processes lasts (set faces p (record f { stays = false }))
clients_without issues processes lasts faces p f there empty h =
    let g : Face = record f { stays = false } in
    let from : (i : ℕ) (x : Face) → slice_get (set faces p g) i ≡ Some x
    → (y : Face) × (slice_get faces i ≡ Some y) × (x.label ≡ y.label) × (x.node ≡ y.node) × (x.pass ≡ y.pass) =
    λ i x at. ⊎_elim (λ was. (x, was.1, refl, refl, refl))
    (λ new. (
      f,
      ap (slice_get faces) new.0 ∙ there,
      ap (λ (z : Face). z.label) new.1,
      ap (λ (z : Face). z.node) new.1,
      ap (λ (z : Face). z.pass) new.1,
    )) (set_cases faces p i x g at) in
    record {
      each = λ i x at. ⊎_elim (λ was. h.each i x was.1)
          (λ new. subst (IsClientOf issues processes lasts) (sym new.1)
          (let old = h.each p f there in record {
            key = old.key;
            node = old.node;
            issued = old.issued;
            gone = λ e. empty;
            grip = old.grip;
          }))
          (set_cases faces p i x g at);
      labels = λ i j a b at_i at_j e.
          let x = from i a at_i in let y = from j b at_j in
          h.labels i j x.0 y.0 x.1 y.1 (sym x.2 ∙ e ∙ y.2);
      passes = λ i j a b at_i at_j e d.
          let x = from i a at_i in let y = from j b at_j in
          h.passes i j x.0 y.0 x.1 y.1 (sym x.3 ∙ e ∙ y.3)
          (ap (λ (z : PassRecord). z.number) (sym x.4) ∙ d ∙ ap (λ (z : PassRecord). z.number) y.4);
    }

-- what is known of next numbers, whoever has gone
numbers_without : (nodes : List NodeView) (faces : List Face) (processes : List Process) (connections : List Connection) (p : ℕ) (f : Face)
    → slice_get faces p ≡ Some f → NumbersLeft nodes faces processes connections
    → NumbersLeft nodes (set faces p (record f { stays = false })) processes connections
numbers_without nodes faces processes connections p f there h =
    let g : Face = record f { stays = false } in
    record {
      passes = λ i place x view at is. ⊎_elim (λ was. h.passes i place x view was.1 is)
          (λ new. subst (λ (z : Face). z.pass.number < view.next_pass) (sym new.1)
          (h.passes p place f view there (subst (λ (z : Face). IsNode nodes z.node place view) new.1 is)))
          (set_cases faces p i x g at);
      incarnations = λ i place x view at is. ⊎_elim (λ was. h.incarnations i place x view was.1 is)
          (λ new. subst (λ (z : Face). z.pass.incarnation ≤ view.links.incarnation) (sym new.1)
          (h.incarnations p place f view there (subst (λ (z : Face). IsNode nodes z.node place view) new.1 is)))
          (set_cases faces p i x g at);
      links = h.links;
      tickets = h.tickets;
    }

-- what is known of servers, whoever has gone
servers_without : (group : List NodeSettings) (faces : List Face) (connections : List Connection) (p : ℕ) (f : Face)
    → slice_get faces p ≡ Some f → AreServers group faces connections
    → AreServers group (set faces p (record f { stays = false })) connections
servers_without group faces connections p f there h = record {
  one = h.one;
  clients = λ i x at. ⊎_elim (λ was. h.clients i x was.1)
      (λ new. subst (λ (z : Face). HasServer group z.node z.database) (sym new.1) (h.clients p f there))
      (set_cases faces p i x (record f { stays = false }) at);
  asked = h.asked;
}

-- a client that no node knows has gone
gone_kept : (w : World) (p : ℕ) (s : Session) → slice_get w.sessions p ≡ Some s → s.hand ≡ Hand.Empty
    → ((i : ℕ) (v : NodeView) → slice_get w.nodes i ≡ Some v → IsIn v (face_of s) → ⊥)
    → Facts w → Facts (record w { sessions = set w.sessions p (gone_now s) })
gone_kept w p s there empty out f =
    let faces = faces_of w in
    let here = read_map face_of w.sessions p s there in
    let back = sym (map_write face_of w.sessions p (gone_now s)) in
    record {
      servers = subst (λ (fs : List Face). AreServers w.group fs w.connections) back
          (servers_without w.group faces w.connections p (face_of s) here f.servers);
      nodes = f.nodes;
      issues = f.issues;
      clients = subst (AreClients w.issues (processes_of w) (lasts_of w)) back
          (clients_without w.issues (processes_of w) (lasts_of w) faces p (face_of s) here (ap grip_of empty) f.clients);
      slots = subst (AllFitSlots w.nodes) back (λ i view at_i. let h = f.slots i view at_i in record {
        fits = λ j x at_j is. h.fits j x (still_there faces p j (face_of s) x at_j is.stays).1 is;
        filled = λ slot client live.
            let g = h.filled slot client live in (
              g.0,
              g.1,
              set_there faces p g.0 (record (face_of s) { stays = false })
                  (λ e. let one : face_of s ≡ g.1 = same_Some (face_of s) g.1
                  (sym here ∙ ap (slice_get faces) (sym e) ∙ g.2) in
                  out i view at_i (subst (IsIn view) (sym one) g.3)) ∙ g.2,
              g.3,
              g.4,
            );
      });
      processes = f.processes;
      numbers = subst (λ (fs : List Face). NumbersLeft w.nodes fs (processes_of w) w.connections) back
          (numbers_without w.nodes faces (processes_of w) w.connections p (face_of s) here f.numbers);
      links = subst (λ (fs : List Face). AllLinksStand w.group w.nodes fs (processes_of w) (lasts_of w) w.connections) back
          (λ i view at_i k link at_k. let h = f.links i view at_i k link at_k in
          (h.0, h.1, stands_without faces (lasts_of w) w.connections view view link h.0 p (face_of s) refl refl h.2));
      connections = f.connections;
      loads = record {
        own = f.loads.own;
        outstanding = λ i place n z lease b at_i hand_is at_b. ⊎_elim
            (λ was. f.loads.outstanding i place n z lease b was.1 hand_is at_b)
            (λ new. f.loads.outstanding p place n s lease b there
            (ap (λ (y : Session). y.hand) (sym new.1) ∙ hand_is) at_b)
            (set_cases w.sessions p i z (gone_now s) at_i);
        rest = f.loads.rest;
      };
      forwards = f.forwards;
      safe = record { struck = f.safe.struck; taken = f.safe.taken; earned = f.safe.earned };
    }

-- the node that a client has left
abbrev left_node : NodeView → ℕ → Slots → PoolView → NodeView
left_node v slot keys u = record v { keys = keys; clients = set v.clients slot None; links = u }

-- a client has left its node
left_kept : (w : World) (p q : ℕ) (s : Session) (v : NodeView) (keys : Slots) (u : PoolView)
    → slice_get w.sessions p ≡ Some s → s.hand ≡ Hand.Empty → slice_get w.nodes q ≡ Some v
    → IsIn v (face_of s) → Departs v.links u (slot_of s.pass.key)
    → keys.entries ≡ set v.keys.entries (slot_of s.pass.key) None → Facts w
    → Facts (record w {
      nodes = set w.nodes q (left_node v (slot_of s.pass.key) keys u);
      sessions = set w.sessions p (gone_now s);
    })
left_kept w p q s v keys u there empty at_q live departs entries f =
    let slot = slot_of s.pass.key in
    let n = left_node v slot keys u in
    let news = set w.nodes q n in
    let faces = faces_of w in
    let g : Face = record (face_of s) { stays = false } in
    let more = set faces p g in
    let here = read_map face_of w.sessions p s there in
    let back = sym (map_write face_of w.sessions p (gone_now s)) in
    let alters = departs.alters in
    let moves = moves_of v.links u departs.at slot alters in
    let incarnation = alters.incarnation in
    let grew = one_grew w.nodes q v n at_q (record {
      kept = record {
        me = refl;
        slots = length-set v.clients slot None;
        pools = refl;
        incarnation = omega (arith, incarnation);
        pass = omega arith;
        link = alters.link;
        ticket = alters.ticket;
      };
      boot = refl;
      serial = omega arith;
    }) in
    let was : (x : Face) → IsIn n x → IsIn v x =
    λ x is. record { stays = is.stays; node = is.node; incarnation = is.incarnation ∙ incarnation } in
    let apart : (j : ℕ) (x : Face) → slice_get faces j ≡ Some x → IsIn v x → j ≢ p → slot_of x.pass.key ≢ slot =
    λ j x at_j is other e. other (one_slot w f q j p v x (face_of s) at_q at_j here is live e) in
    record {
      servers = subst (λ (fs : List Face). AreServers w.group fs w.connections) back
          (servers_without w.group faces w.connections p (face_of s) here f.servers);
      nodes = nodes_grew w.nodes news (length-set w.nodes q _) grew f.nodes;
      issues = issues_grew w.nodes news w.starts w.issues grew f.issues;
      clients = subst (AreClients w.issues (processes_of w) (lasts_of w)) back
          (clients_without w.issues (processes_of w) (lasts_of w) faces p (face_of s) here (ap grip_of empty) f.clients);
      slots = subst (AllFitSlots news) back (λ i view at_i. ⊎_elim
          (λ same. let h = f.slots i view same.1 in record {
            fits = λ j x at_j is. h.fits j x (still_there faces p j (face_of s) x at_j is.stays).1 is;
            filled = λ k client here_k.
                let z = h.filled k client here_k in (
                  z.0,
                  z.1,
                  set_there faces p z.0 g
                      (λ e. let one : face_of s ≡ z.1 = same_Some (face_of s) z.1
                      (sym here ∙ ap (slice_get faces) (sym e) ∙ z.2) in
                      same.0 (f.nodes.once i q view v same.1 at_q
                      (sym z.3.node ∙ ap (λ (y : Face). y.node) (sym one) ∙ live.node))) ∙ z.2,
                  z.3,
                  z.4,
                );
          })
          (λ new. let h = f.slots q v at_q in subst (FitSlots more) (sym new.1) (record {
            fits = λ j x at_j is.
                let old = still_there faces p j (face_of s) x at_j is.stays in
                let is_v = was x is in
                let fits = h.fits j x old.1 is_v in
                let other = apart j x old.1 is_v old.0 in
                record {
                  client = set_there v.clients slot (slot_of x.pass.key) None other ∙ fits.client;
                  entry = ap (λ (es : List (Option Entry)). slice_get es (slot_of x.pass.key)) entries
                      ∙ set_there v.keys.entries slot (slot_of x.pass.key) None other ∙ fits.entry;
                  grip = other_grips v.links u departs.at slot (slot_of x.pass.key) x.grip alters departs.belongs other fits.grip;
                };
            filled = λ k client here_k. ⊎_elim
                (λ old. let z = h.filled k client old.1 in (
                  z.0,
                  z.1,
                  set_there faces p z.0 g
                      (λ e. let one : face_of s ≡ z.1 = same_Some (face_of s) z.1
                      (sym here ∙ ap (slice_get faces) (sym e) ∙ z.2) in
                      old.0 (sym z.4 ∙ ap (λ (y : Face). slot_of y.pass.key) (sym one))) ∙ z.2,
                  record { stays = z.3.stays; node = z.3.node; incarnation = z.3.incarnation ∙ sym incarnation },
                  z.4,
                ))
                (λ none. absurd (nobody client none.1))
                (set_cases v.clients slot k (Some client) None here_k);
          }))
          (set_cases w.nodes q i view n at_i));
      processes = f.processes;
      numbers = subst (λ (fs : List Face). NumbersLeft news fs (processes_of w) w.connections) back
          (numbers_without news faces (processes_of w) w.connections p (face_of s) here
          (numbers_grew w.nodes news faces (processes_of w) w.connections grew f.numbers));
      links = subst (λ (fs : List Face). AllLinksStand w.group news fs (processes_of w) (lasts_of w) w.connections) back
          (λ i view at_i k link at_k. ⊎_elim
          (λ same. let h = f.links i view same.1 k link at_k in
          (h.0, h.1, stands_without faces (lasts_of w) w.connections view view link h.0 p (face_of s) refl refl h.2))
          (λ new. subst (λ (z : NodeView). (b : ℕ) × IsProcess w.group (processes_of w) z.me link b
          × LinkStands more (lasts_of w) w.connections z link b) (sym new.1) (⊎_elim
          (λ other. let h = f.links q v at_q k link other.1 in
          (h.0, h.1, stands_without faces (lasts_of w) w.connections v n link h.0 p (face_of s) refl incarnation h.2))
          (λ mine. let old = departs.was link mine.1 in
          let h = f.links q v at_q departs.at old.0 old.1 in (
            h.0,
            process_again old.0 link h.0 old.2 old.3 h.1,
            stands_without faces (lasts_of w) w.connections v n link h.0 p (face_of s) refl incarnation (record {
              tickets = ap (λ (o : OpenTickets). o.tickets) old.4 ∙ h.2.tickets;
              hasty = λ j x how at_j of acted reported. ap (λ (o : OpenTickets). o.condemned) old.4
                  ∙ h.2.hasty j x how at_j of acted reported;
              giver = λ j k2 face given at_j is key. h.2.giver j k2 face (old.6 k2 given) at_j is key;
            }),
          ))
          (placed_cases v.links u departs.at k (Place.Link link) moves
          (subst (λ (z : NodeView). place_at z.links k ≡ Some (Place.Link link)) new.1 at_k))))
          (set_cases w.nodes q i view n at_i));
      connections = f.connections;
      loads = record {
        own = f.loads.own;
        outstanding = λ i place m z lease b at_i hand_is at_b. ⊎_elim
            (λ old. f.loads.outstanding i place m z lease b old.1 hand_is at_b)
            (λ new. f.loads.outstanding p place m s lease b there
            (ap (λ (y : Session). y.hand) (sym new.1) ∙ hand_is) at_b)
            (set_cases w.sessions p i z (gone_now s) at_i);
        rest = λ i view at_i. ⊎_elim (λ same. f.loads.rest i view same.1)
            (λ new. subst (AreAtRest w.backends) (sym new.1) (λ k link j b at_k free at_j of. ⊎_elim
            (λ other. f.loads.rest q v at_q k link j b other.1 free at_j of)
            (λ mine. let old = departs.was link mine.1 in
            f.loads.rest q v at_q departs.at old.0 j b old.1 (sym old.5 ∙ free) at_j (of ∙ ap Some old.2))
            (placed_cases v.links u departs.at k (Place.Link link) moves at_k)))
            (set_cases w.nodes q i view n at_i);
      };
      forwards = f.forwards;
      safe = record { struck = f.safe.struck; taken = f.safe.taken; earned = f.safe.earned };
    }
  where
    nobody : (c : Client) → Some c ≡ None → ⊥
    nobody c h = cc

-- a client leaves
leave_by : (w new : World) (nodes : List NodeView) (p q : ℕ) (s : Session) (v n : NodeView) (given : LeaveReply PassRecord) (said : Reply)
    → Facts w → AreWhole w.nodes → slice_get w.sessions p ≡ Some s → s.stays ≡ true
    → s.hand ≡ Hand.Empty → IsNode w.nodes s.node q v → LeaveStep s.pass given v n
    → nodes ≡ set w.nodes q n → Leaves given said
    → new ≡ with_session p (gone_now s) (with_nodes nodes w) → Facts new
leave_by w new nodes p q s v n LeaveReply.Left said f whole there stays empty is step all leaves after =
    let slot = slot_of s.pass.key in
    let live : IsIn v (face_of s) = record { stays = stays; node = sym is.named; incarnation = step.0.1.own.1 } in
    subst Facts (sym (after ∙ ap (λ (ns : List NodeView). with_session p (gone_now s) (with_nodes ns w))
    (all ∙ ap (set w.nodes q) step.1.after)))
    (left_kept w p q s v n.keys (departed v.links slot) there empty is.there live
    (departs v.links slot (whole q v is.there).places) step.1.slot.entries f)
leave_by w new nodes p q s v n LeaveReply.Stale said f whole there stays empty is step all leaves after =
    subst Facts (sym (after ∙ ap (λ (ns : List NodeView). with_session p (gone_now s) (with_nodes ns w))
    (all ∙ ap (set w.nodes q) step.1 ∙ same_nodes w.nodes q v is.there)))
    (gone_kept w p s there empty (λ i view at_i is_in.
    let place : i ≡ q = f.nodes.once i q view v at_i is.there (sym is_in.node ∙ sym is.named) in
    let one : view ≡ v = same_Some view v (sym at_i ∙ ap (slice_get w.nodes) place ∙ is.there) in
    let in_v : IsIn v (face_of s) = subst (λ (z : NodeView). IsIn z (face_of s)) one is_in in
    let here = read_map face_of w.sessions p s there in
    let fits = (f.slots q v is.there).fits p (face_of s) here in_v in
    step.0 (record { database = s.database; pass = s.pass.number }) (record {
      own = (sym (f.clients.each p (face_of s) here).node ∙ in_v.node, in_v.incarnation);
      there = fits.client;
      number = refl;
    })) f)
leave_by w new nodes p q s v n (LeaveReply.Holding again) said f whole there stays empty is step all leaves after =
    absurd leaves
leave_by w new nodes p q s v n LeaveReply.Exhausted said f whole there stays empty is step all leaves after =
    absurd leaves

pub leave_kept : (old new : World) (label : ℕ) (said : Reply) → AreWhole old.nodes
    → HasInHand old label Hand.Empty → Goes label said old new → Facts old → Facts new
leave_kept old new label said whole may does f =
    let same = one_session old f label may.place does.place may.session does.session may.is does.step.is in
    leave_by old new does.nodes does.place does.step.step.place does.session does.step.step.view
    does.step.step.next does.given said f whole does.step.is.there
    (ap (λ (s : Session). s.stays) (sym same.1) ∙ may.stays)
    (ap (λ (s : Session). s.hand) (sym same.1) ∙ may.holds)
    does.step.step.is does.step.step.step does.step.step.after does.said_is does.after
