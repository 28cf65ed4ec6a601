-- A client logs in.
use Rattle.std.proofs.Common.{◌≡◌, ◌≢◌, ℕ, ◌+◌, ⊎_elim, true, false, List, [], ◌∷◌, ◌++◌, Option, Some, None, length, refl, ap, sym, subst, ◌∙◌, arith, length-set}
use Rattle.std.proofs.Math.ListN.{set}
use Rattle.std.specs.List.{slice_get}
use Rattle.std.proofs.lemmas.Bool.{eq-eqb}
use Rattle.pg_ids.specs.Key.{IsKey}
use Rattle.pg_ids.specs.AnyKey.{any_identity_of, slot_of, short_of, long_part_of, peer_of}
use Rattle.pg_ids.specs.declared.{any_key.Identity.Identity}
use Rattle.key_table.specs.declared.entry.Entry.{Entry}
use Rattle.key_table.specs.Slots.{entry_of}
use Rattle.lease.specs.declared.{link_record.LinkRecord.LinkRecord, link_place.LinkPlace.LinkPlace}
use Rattle.link_pool.specs.declared.place.{Place.Place, Link.Link, LinkState.LinkState, Claim.Claim}
use Rattle.link_pool.specs.Pool.{PoolView, place_at}
use Rattle.link_pool.specs.OnePlace.{has_given, given_by, is_from}
use Rattle.link_pool.specs.PoolStep.{is_holding}
use Rattle.node_core.specs.declared.client.Client.{Client}
use Rattle.node_core.specs.View.{NodeView, IsView, Has}
use Rattle.world.specs.World.{World, Hand, Issue, Session, IsNode, IsOwner}
use Rattle.world.specs.Changes.{and_then}
use Rattle.world.specs.Facts.{AreServers, HasServer, grip_of, Face, face_of, processes_of, lasts_of, faces_of, IsOwnGrip, GripFits, IsClientOf, AreClients, IsIn, FitsSlot, FitSlots, AllFitSlots, IsGiven, NumbersLeft, IsProcess, LinkStands, AllLinksStand, AreAtRest, Facts, AreWhole}
use Rattle.world.proofs.Lists.{set_here, set_there, set_cases, kept_behind, added_cases, added_last, from_map, map_added}
use Rattle.world.proofs.LinkSteps.{one_grew, nodes_grew, issues_grew, numbers_grew, Grew}

-- an owner is the owner still, once another key was given
owner_kept : (issues : List Issue) (i : Issue) (identity : Identity) (label : ℕ)
    → ((j : ℕ) (a : Issue) → slice_get issues j ≡ Some a → a.identity ≢ i.identity)
    → IsOwner issues identity label → IsOwner (and_then issues i) identity label
owner_kept issues i identity label fresh h = record {
  place = h.place;
  issue = h.issue;
  there = kept_behind issues (i ∷ []) h.place h.issue h.there;
  of = h.of;
  to = h.to;
  only = λ j a at same. ⊎_elim (λ was. h.only j a was same)
      (λ new. absurd (fresh h.place h.issue h.there
      (h.of ∙ sym same ∙ ap (λ (x : Issue). x.identity) new.1)))
      (added_cases issues i j a at);
}

-- what is known of a login
pub record IsLogin (w : World) (q : ℕ) (v n : NodeView) (i : Issue) (s : Session) : Type 0 where
  pub node : slice_get w.nodes q ≡ Some v
  pub next : slice_get v.clients (slot_of s.pass.key) ≡ Some None
  pub was_free : slice_get v.keys.entries (slot_of s.pass.key) ≡ Some None
  pub grew : Grew v n
  pub clients : n.clients ≡ set v.clients (slot_of s.pass.key)
      (Some record { database = s.database; pass = s.pass.number })
  pub entries : n.keys.entries ≡ set v.keys.entries (slot_of s.pass.key)
      (Some (entry_of (short_of s.pass.key).secret (long_part_of s.pass.key)))
  pub links : n.links ≡ v.links
  pub fresh : (j : ℕ) (a : Issue) → slice_get w.issues j ≡ Some a → a.identity ≢ i.identity
  pub given : IsGiven (set w.nodes q n) w.starts i
  pub identity : i.identity ≡ any_identity_of s.pass.key
  pub label : i.label ≡ s.label
  pub new_label : (j : ℕ) (z : Session) → slice_get w.sessions j ≡ Some z → z.label ≢ s.label
  pub key : IsKey (short_of s.pass.key)
  pub peer : s.node ≡ peer_of s.pass.key
  pub here : s.node ≡ v.me
  pub stays : s.stays ≡ true
  pub hand : s.hand ≡ Hand.Empty
  pub incarnation : s.pass.incarnation ≡ v.links.incarnation
  pub number : s.pass.number ≡ v.next_pass
  pub next_number : n.next_pass ≡ v.next_pass + 1
  pub server : HasServer w.group s.node s.database

-- a free slot has nothing
free_slot : (v : NodeView) (slot : ℕ) → IsView v → slice_get v.clients slot ≡ Some None
    → slice_get v.links.claims slot ≡ Some Claim.Nothing
free_slot v slot whole free = by_claim (slice_get v.links.claims slot) (rw free at (whole.node.has slot))
  where
    by_claim : (o : Option Claim) → Has (Some None) o → o ≡ Some Claim.Nothing
    by_claim None h = absurd h
    by_claim (Some c) h = ap Some h

-- a link that a slot gave back isn't of a free slot
not_given : (v : NodeView) (slot : ℕ) (at : LinkPlace) (link : Link) → IsView v
    → slice_get v.clients slot ≡ Some None → place_at v.links at ≡ Some (Place.Link link)
    → link.state ≡ LinkState.Quarantined (Some slot) → ⊥
not_given v slot at link whole free there given =
    let nothing = free_slot v slot whole free in
    let yes : is_from slot link.state ≡ true = ap (is_from slot) given ∙ eq-eqb slot slot refl in
    differ (sym (ap (has_given at) nothing) ∙ whole.places.given slot at ∙ ap (given_by slot) there ∙ yes)
  where
    differ : false ≡ true → ⊥
    differ h = cc

pub login_kept : (w : World) (q : ℕ) (v n : NodeView) (i : Issue) (s : Session) → AreWhole w.nodes
    → IsLogin w q v n i s → Facts w
    → Facts (record w {
      nodes = set w.nodes q n;
      issues = and_then w.issues i;
      sessions = and_then w.sessions s;
    })
login_kept w q v n i s whole is f =
    let slot = slot_of s.pass.key in
    let news = set w.nodes q n in
    let faces = faces_of w in
    let g = face_of s in
    let more = faces ++ g ∷ [] in
    let back = sym (map_added face_of w.sessions s) in
    let grew = one_grew w.nodes q v n is.node is.grew in
    let old_issues = issues_grew w.nodes news w.starts w.issues grew f.issues in
    let owner : (identity : Identity) (label : ℕ) → IsOwner w.issues identity label → IsOwner (and_then w.issues i) identity label =
    λ identity label h. owner_kept w.issues i identity label is.fresh h in
    let me : n.me ≡ v.me = is.grew.kept.me in
    let client : Client = record { database = s.database; pass = s.pass.number } in
    let live : IsIn n g = record {
      stays = is.stays;
      node = is.here ∙ sym me;
      incarnation = is.incarnation ∙ sym (ap (λ (u : PoolView). u.incarnation) is.links);
    } in
    let was_in_v : (x : Face) → IsIn n x → IsIn v x =
    λ x h. record {
      stays = h.stays;
      node = h.node ∙ me;
      incarnation = h.incarnation ∙ ap (λ (u : PoolView). u.incarnation) is.links;
    } in
    let elsewhere : (k : ℕ) (view : NodeView) → k ≢ q → slice_get w.nodes k ≡ Some view → IsIn view g → ⊥ =
    λ k view apart at_k h. apart (f.nodes.once k q view v at_k is.node (sym h.node ∙ is.here)) in
    let same_links : (b : ℕ) (at : LinkPlace) (link : Link) → place_at n.links at ≡ Some (Place.Link link)
    → place_at v.links at ≡ Some (Place.Link link) =
    λ b at link e. ap (λ (u : PoolView). place_at u at) (sym is.links) ∙ e in
    record {
      servers = subst (λ (fs : List Face). AreServers w.group fs w.connections) back (record {
        one = f.servers.one;
        clients = λ j x at. ⊎_elim (λ was. f.servers.clients j x was)
            (λ new. subst (λ (z : Face). HasServer w.group z.node z.database) (sym new.1) is.server)
            (added_cases faces g j x at);
        asked = f.servers.asked;
      });
      nodes = nodes_grew w.nodes news (length-set w.nodes q _) grew f.nodes;
      issues = record {
        booted = old_issues.booted;
        each = λ j a at. ⊎_elim (λ was. old_issues.each j a was)
            (λ new. subst (IsGiven news w.starts) (sym new.1) is.given) (added_cases w.issues i j a at);
        once = λ j k a b at_j at_k same. ⊎_elim
            (λ was_j. ⊎_elim (λ was_k. f.issues.once j k a b was_j was_k same)
            (λ new_k. absurd (is.fresh j a was_j (same ∙ ap (λ (x : Issue). x.identity) new_k.1)))
            (added_cases w.issues i k b at_k))
            (λ new_j. ⊎_elim
            (λ was_k. absurd (is.fresh k b was_k (sym same ∙ ap (λ (x : Issue). x.identity) new_j.1)))
            (λ new_k. new_j.0 ∙ sym new_k.0)
            (added_cases w.issues i k b at_k))
            (added_cases w.issues i j a at_j);
      };
      clients = subst (AreClients (and_then w.issues i) (processes_of w) (lasts_of w)) back (record {
        each = λ j x at. ⊎_elim
            (λ was. let h = f.clients.each j x was in record {
              key = h.key;
              node = h.node;
              issued = (
                h.issued.0,
                h.issued.1,
                kept_behind w.issues (i ∷ []) h.issued.0 h.issued.1 h.issued.2,
                h.issued.3,
                h.issued.4,
              );
              gone = h.gone;
              grip = h.grip;
            })
            (λ new. subst (IsClientOf (and_then w.issues i) (processes_of w) (lasts_of w)) (sym new.1) (record {
              key = is.key;
              node = is.peer;
              issued = (length w.issues, i, added_last w.issues i, is.identity, is.label);
              gone = λ e. ap grip_of is.hand;
              grip = subst (IsOwnGrip (processes_of w) (lasts_of w) g) (sym (ap grip_of is.hand)) tt;
            }))
            (added_cases faces g j x at);
        labels = λ j k a b at_j at_k same. ⊎_elim
            (λ was_j. ⊎_elim (λ was_k. f.clients.labels j k a b was_j was_k same)
            (λ new_k. absurd (new_label_face w s is.new_label j a was_j (same ∙ ap (λ (x : Face). x.label) new_k.1)))
            (added_cases faces g k b at_k))
            (λ new_j. ⊎_elim
            (λ was_k. absurd (new_label_face w s is.new_label k b was_k (sym same ∙ ap (λ (x : Face). x.label) new_j.1)))
            (λ new_k. new_j.0 ∙ sym new_k.0)
            (added_cases faces g k b at_k))
            (added_cases faces g j a at_j);
        passes = λ j k a b at_j at_k node number. ⊎_elim
            (λ was_j. ⊎_elim (λ was_k. f.clients.passes j k a b was_j was_k node number)
            (λ new_k.
            let below = f.numbers.passes j q a v was_j (record {
              there = is.node;
              named = sym is.here ∙ ap (λ (x : Face). x.node) (sym new_k.1) ∙ sym node;
            }) in
            let its : b.pass.number ≡ v.next_pass = ap (λ (x : Face). x.pass.number) new_k.1 ∙ is.number in
            absurd (omega (arith, below, its, number)))
            (added_cases faces g k b at_k))
            (λ new_j. ⊎_elim
            (λ was_k.
            let below = f.numbers.passes k q b v was_k (record {
              there = is.node;
              named = sym is.here ∙ ap (λ (x : Face). x.node) (sym new_j.1) ∙ node;
            }) in
            let its : a.pass.number ≡ v.next_pass = ap (λ (x : Face). x.pass.number) new_j.1 ∙ is.number in
            absurd (omega (arith, below, its, number)))
            (λ new_k. new_j.0 ∙ sym new_k.0)
            (added_cases faces g k b at_k))
            (added_cases faces g j a at_j);
      });
      slots = subst (AllFitSlots news) back (λ k view at_k. ⊎_elim
          (λ same. let h = f.slots k view same.1 in record {
            fits = λ j x at_j in_x. ⊎_elim (λ was. h.fits j x was in_x)
                (λ new. absurd (elsewhere k view same.0 same.1 (subst (IsIn view) new.1 in_x)))
                (added_cases faces g j x at_j);
            filled = λ m c at_m. let z = h.filled m c at_m in
                (z.0, z.1, kept_behind faces (g ∷ []) z.0 z.1 z.2, z.3, z.4);
          })
          (λ new. let h = f.slots q v is.node in subst (FitSlots more) (sym new.1) (record {
            fits = λ j x at_j in_x. ⊎_elim
                (λ was.
                let old = h.fits j x was (was_in_v x in_x) in
                let apart : slot_of x.pass.key ≢ slot = λ e.
                live_or_free (record { database = x.database; pass = x.pass.number })
                (sym old.client ∙ ap (slice_get v.clients) e ∙ is.next) in
                record {
                  client = ap (λ (cs : List (Option Client)). slice_get cs (slot_of x.pass.key)) is.clients
                      ∙ set_there v.clients slot (slot_of x.pass.key) _ apart ∙ old.client;
                  entry = ap (λ (es : List (Option Entry)). slice_get es (slot_of x.pass.key)) is.entries
                      ∙ set_there v.keys.entries slot (slot_of x.pass.key) _ apart ∙ old.entry;
                  grip = subst (λ (u : PoolView). GripFits u (slot_of x.pass.key) x.grip) (sym is.links) old.grip;
                })
                (λ mine. subst (FitsSlot n) (sym mine.1) (record {
                  client = ap (λ (cs : List (Option Client)). slice_get cs slot) is.clients
                      ∙ set_here v.clients slot None (Some client) is.next;
                  entry = ap (λ (es : List (Option Entry)). slice_get es slot) is.entries
                      ∙ set_here v.keys.entries slot None _ is.was_free;
                  grip = subst (GripFits n.links slot) (sym (ap grip_of is.hand))
                      (ap (λ (u : PoolView). is_holding (slice_get u.claims slot)) is.links
                      ∙ ap is_holding (free_slot v slot (whole q v is.node) is.next));
                }))
                (added_cases faces g j x at_j);
            filled = λ m c at_m. ⊎_elim
                (λ was. let z = h.filled m c was.1 in (
                  z.0,
                  z.1,
                  kept_behind faces (g ∷ []) z.0 z.1 z.2,
                  record {
                    stays = z.3.stays;
                    node = z.3.node ∙ sym me;
                    incarnation = z.3.incarnation ∙ sym (ap (λ (u : PoolView). u.incarnation) is.links);
                  },
                  z.4,
                ))
                (λ mine. (length faces, g, added_last faces g, live, sym mine.0))
                (set_cases v.clients slot m (Some c) (Some client)
                (ap (λ (cs : List (Option Client)). slice_get cs m) (sym is.clients) ∙ at_m));
          }))
          (set_cases w.nodes q k view n at_k));
      processes = f.processes;
      numbers = subst (λ (fs : List Face). NumbersLeft news fs (processes_of w) w.connections) back
          (let h = numbers_grew w.nodes news faces (processes_of w) w.connections grew f.numbers in record {
            passes = λ j place x view at_j node. ⊎_elim (λ was. h.passes j place x view was node)
                (λ new. let one = view_is w q v n s f is x place view new.1 node in
                let next : view.next_pass ≡ n.next_pass = ap (λ (z : NodeView). z.next_pass) one in
                let its : x.pass.number ≡ v.next_pass = ap (λ (z : Face). z.pass.number) new.1 ∙ is.number in
                let after = is.next_number in
                omega (arith, next, its, after))
                (added_cases faces g j x at_j);
            incarnations = λ j place x view at_j node. ⊎_elim (λ was. h.incarnations j place x view was node)
                (λ new. let one = view_is w q v n s f is x place view new.1 node in
                let its : x.pass.incarnation ≡ view.links.incarnation =
                ap (λ (z : Face). z.pass.incarnation) new.1 ∙ is.incarnation
                ∙ sym (ap (λ (u : PoolView). u.incarnation) is.links) ∙ sym (ap (λ (z : NodeView). z.links.incarnation) one) in
                omega (arith, its))
                (added_cases faces g j x at_j);
            links = h.links;
            tickets = h.tickets;
          });
      links = subst (λ (fs : List Face). AllLinksStand w.group news fs (processes_of w) (lasts_of w) w.connections) back
          (λ k view at_k at link at_link. ⊎_elim
          (λ same. let h = f.links k view same.1 at link at_link in (
            h.0,
            h.1,
            record {
              tickets = h.2.tickets;
              hasty = h.2.hasty;
              giver = λ j m x given at_j in_x key. ⊎_elim (λ was. h.2.giver j m x given was in_x key)
                  (λ new. absurd (elsewhere k view same.0 same.1 (subst (IsIn view) new.1 in_x)))
                  (added_cases faces g j x at_j);
            },
          ))
          (λ new. subst (λ (z : NodeView). (b : ℕ) × IsProcess w.group (processes_of w) z.me link b
          × LinkStands more (lasts_of w) w.connections z link b) (sym new.1)
          (let there = same_links 0 at link (subst (λ (z : NodeView). place_at z.links at ≡ Some (Place.Link link)) new.1 at_link) in
          let h = f.links q v is.node at link there in (
            h.0,
            subst (λ (m : ℕ). IsProcess w.group (processes_of w) m link h.0) (sym me) h.1,
            record {
              tickets = h.2.tickets;
              hasty = h.2.hasty;
              giver = λ j m x given at_j in_x key. ⊎_elim
                  (λ was. h.2.giver j m x given was (was_in_v x in_x) key)
                  (λ mine. absurd (not_given v slot at link (whole q v is.node) is.next there
                  (given ∙ ap (λ (k2 : ℕ). LinkState.Quarantined (Some k2))
                  (sym key ∙ ap (λ (z : Face). slot_of z.pass.key) mine.1))))
                  (added_cases faces g j x at_j);
            },
          )))
          (set_cases w.nodes q k view n at_k));
      connections = f.connections;
      loads = record {
        own = f.loads.own;
        outstanding = λ j place m z lease b at_j hand at_b. ⊎_elim
            (λ was. f.loads.outstanding j place m z lease b was hand at_b)
            (λ new. absurd (empty_lease lease place m (sym is.hand ∙ ap (λ (y : Session). y.hand) (sym new.1) ∙ hand)))
            (added_cases w.sessions s j z at_j);
        rest = λ k view at_k. ⊎_elim (λ same. f.loads.rest k view same.1)
            (λ new. subst (AreAtRest w.backends) (sym new.1) (λ at link j b at_link free at_j of.
            f.loads.rest q v is.node at link j b (same_links 0 at link at_link) free at_j of))
            (set_cases w.nodes q k view n at_k);
      };
      forwards = f.forwards;
      safe = record {
        struck = λ j z at. let h = f.safe.struck j z at in
            record { came = h.came; there = h.there; owner = owner (any_identity_of h.came.key) z.label h.owner };
        taken = (
          λ j z at. let h = f.safe.taken.0 j z at in
              record { key = h.key; node = h.node; owner = owner (any_identity_of z.key) z.label h.owner },
          f.safe.taken.1,
        );
        earned = λ j z at. let h = f.safe.earned j z at in record {
          came = h.came;
          there = h.there;
          hops = h.hops;
          node = h.node;
          label = h.label;
          holder = h.holder;
          owner = owner (any_identity_of h.came.key) h.label h.owner;
        };
      };
    }
  where
    live_or_free : (c : Client) → Some (Some c) ≡ Some None → ⊥
    live_or_free c h = cc

    empty_lease : (l : LinkRecord) (k m : ℕ) → Hand.Empty ≡ Hand.Lease l k m → ⊥
    empty_lease l k m h = cc

    new_label_face : (w : World) (s : Session)
        → ((j : ℕ) (z : Session) → slice_get w.sessions j ≡ Some z → z.label ≢ s.label)
        → (j : ℕ) (x : Face) → slice_get (faces_of w) j ≡ Some x → x.label ≢ s.label
    new_label_face w s fresh j x at e =
        let z = from_map face_of w.sessions j x at in
        fresh j z.0 z.1 (ap (λ (y : Face). y.label) z.2 ∙ e)

    view_is : (w : World) (q : ℕ) (v n : NodeView) {i : Issue} (s : Session) → Facts w → IsLogin w q v n i s
        → (x : Face) (place : ℕ) (view : NodeView) → x ≡ face_of s → IsNode (set w.nodes q n) x.node place view
        → view ≡ n
    view_is w q v n s f is x place view same node = ⊎_elim
        (λ was. absurd (was.0 (f.nodes.once place q view v was.1 is.node
        (node.named ∙ ap (λ (z : Face). z.node) same ∙ is.here))))
        (λ new. new.1)
        (set_cases w.nodes q place view n node.there)
