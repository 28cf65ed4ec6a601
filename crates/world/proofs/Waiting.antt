-- A node makes a step in which no place changes, and nobody gets a link or a permit.
use Rattle.std.proofs.Common.{◌≡◌, ℕ, zero, suc, ◌≤◌, false, List, [], ◌∷◌, Option, Some, refl, ap, sym, ◌∙◌, arith, length-set}
use Rattle.std.proofs.Math.ListN.{set}
use Rattle.std.specs.List.{slice_get}
use Rattle.std.proofs.lemmas.Option.{none-some}
use Rattle.pg_ids.specs.AnyKey.{slot_of}
use Rattle.lease.specs.declared.link_place.LinkPlace.{LinkPlace}
use Rattle.link_pool.specs.declared.place.{Place.Place, Link.Link, Claim.Claim}
use Rattle.link_pool.specs.Pool.{PoolView, place_at, with_queue, with_claim, in_queue, queued, unwaited_by, unwaited, behind, others}
use Rattle.link_pool.specs.PoolStep.{is_holding}
use Rattle.node_core.specs.View.{NodeView}
use Rattle.world.specs.World.{World}
use Rattle.world.specs.Facts.{Grip, GripFits, processes_of, lasts_of, faces_of, Facts}
use Rattle.world.proofs.LinkSteps.{one_grew, links_grew, nodes_grew, issues_grew, numbers_grew, with_links, Moves, same_face, regrips_not, was_in, link_stands_still, links_moved, slots_moved, rest_moved}
use Rattle.world.proofs.Steps.{nowhere, nothing_there}

-- no place changes, and who has a link or a permit has it still
pub record Waits (v u : PoolView) : Type 0 where
  pub incarnation : u.incarnation ≡ v.incarnation
  pub link : v.next_link ≤ u.next_link
  pub ticket : v.next_ticket ≤ u.next_ticket
  pub places : (k : LinkPlace) → place_at u k ≡ place_at v k
  pub holding : (s : ℕ) → is_holding (slice_get u.claims s) ≡ is_holding (slice_get v.claims s)

-- nothing changes
pub waits_not : (v : PoolView) → Waits v v
waits_not v = record {
  incarnation = refl;
  link = omega arith;
  ticket = omega arith;
  places = λ k. refl;
  holding = λ s. refl;
}

-- what one slot has changes
free_set : (claims : List Claim) (slot : ℕ) (c : Claim) → is_holding (slice_get claims slot) ≡ false
    → is_holding (Some c) ≡ false → (s : ℕ)
    → is_holding (slice_get (set claims slot c) s) ≡ is_holding (slice_get claims s)
free_set [] slot c was now s = refl
free_set (x ∷ xs) zero c was now zero = now ∙ sym was
free_set (x ∷ xs) zero c was now (suc s) = refl
free_set (x ∷ xs) (suc slot) c was now zero = refl
free_set (x ∷ xs) (suc slot) c was now (suc s) = free_set xs slot c was now s

pub claim_waits : (v : PoolView) (slot : ℕ) (c : Claim) → is_holding (slice_get v.claims slot) ≡ false
    → is_holding (Some c) ≡ false → Waits v (with_claim v slot c)
claim_waits v slot c was now = record {
  incarnation = refl;
  link = omega arith;
  ticket = omega arith;
  places = λ k. refl;
  holding = free_set v.claims slot c was now;
}

-- a queue changes
queue_waits : (v : PoolView) (d : ℕ) (change : List ℕ → List ℕ) → Waits v (with_queue v d change)
queue_waits v d change = record {
  incarnation = refl;
  link = omega arith;
  ticket = omega arith;
  places = λ k. refl;
  holding = λ s. refl;
}

waits_twice : (v x u : PoolView) → Waits v x → Waits x u → Waits v u
waits_twice v x u a b = record {
  incarnation = b.incarnation ∙ a.incarnation;
  link = let p = a.link in let q = b.link in omega (arith, p, q);
  ticket = let p = a.ticket in let q = b.ticket in omega (arith, p, q);
  places = λ k. b.places k ∙ a.places k;
  holding = λ s. b.holding s ∙ a.holding s;
}

-- a client waits
in_waits : (v : PoolView) (slot d : ℕ) (o : Option Claim) → slice_get v.claims slot ≡ o
    → Waits v (in_queue o v slot d)
in_waits v slot d (Some Claim.Nothing) e =
    waits_twice v (with_queue v d (behind slot)) _ (queue_waits v d (behind slot))
    (claim_waits (with_queue v d (behind slot)) slot (Claim.Waiting d) (ap is_holding e) refl)
in_waits v slot d other e = waits_not v

pub queued_waits : (v : PoolView) (slot d : ℕ) → Waits v (queued v slot d)
queued_waits v slot d = in_waits v slot d (slice_get v.claims slot) refl

-- a client's wait is cancelled
un_waits : (v : PoolView) (slot : ℕ) (o : Option Claim) → slice_get v.claims slot ≡ o
    → Waits v (unwaited_by o v slot)
un_waits v slot (Some (Claim.Waiting d)) e =
    waits_twice v (with_queue v d (others slot)) _ (queue_waits v d (others slot))
    (claim_waits (with_queue v d (others slot)) slot Claim.Cancelled (ap is_holding e) refl)
un_waits v slot other e = waits_not v

pub unwaited_waits : (v : PoolView) (slot : ℕ) → Waits v (unwaited v slot)
unwaited_waits v slot = un_waits v slot (slice_get v.claims slot) refl

-- numbers are given
pub numbers_wait : (v : PoolView) (link permit ticket : ℕ) → v.next_link ≤ link
    → v.next_ticket ≤ ticket
    → Waits v (record v { next_link = link; next_permit = permit; next_ticket = ticket })
numbers_wait v link permit ticket more further = record {
  incarnation = refl;
  link = more;
  ticket = further;
  places = λ k. refl;
  holding = λ s. refl;
}

-- what clients have in hand fits still
waiting_grips : (v u : PoolView) (s : ℕ) (g : Grip) → Waits v u → GripFits v s g → GripFits u s g
waiting_grips v u s Grip.Nothing waits fits = waits.holding s ∙ fits
waiting_grips v u s (Grip.Permit permit) waits fits = waits.places permit.at ∙ fits
waiting_grips v u s (Grip.Lease lease b) waits fits = (
  fits.0,
  record {
    at = waits.places lease.at ∙ fits.1.at;
    says = fits.1.says;
    held = fits.1.held;
  },
)

pub wait_kept : (w : World) (q : ℕ) (v : NodeView) (u : PoolView) → slice_get w.nodes q ≡ Some v
    → Waits v.links u → Facts w → Facts (record w { nodes = set w.nodes q (with_links v u) })
wait_kept w q v u there waits f =
    let news = set w.nodes q (with_links v u) in
    let faces = faces_of w in
    let moves : Moves v.links u (nowhere v.links) =
    record { incarnation = waits.incarnation; places = λ k n. waits.places k } in
    let none : (link : Link) → place_at u (nowhere v.links) ≡ Some (Place.Link link) → ⊥ =
    λ link e. none-some (Place.Link link)
    (sym (nothing_there v.links) ∙ sym (waits.places (nowhere v.links)) ∙ e) in
    let grew = one_grew w.nodes q v (with_links v u) there (links_grew v u waits.incarnation waits.link waits.ticket) in
    record {
      servers = f.servers;
      nodes = nodes_grew w.nodes news (length-set w.nodes q _) grew f.nodes;
      issues = issues_grew w.nodes news w.starts w.issues grew f.issues;
      clients = f.clients;
      slots = slots_moved w.nodes faces faces q v u there waits.incarnation (regrips_not faces) f.slots
          (λ i j view x apart at_i at_j is. at_j)
          (λ j x at_j is. waiting_grips v.links u (slot_of x.pass.key) x.grip waits
          ((f.slots q v there).fits j x at_j
          (was_in v (with_links v u) x x (same_face x) refl waits.incarnation is)).grip);
      processes = f.processes;
      numbers = numbers_grew w.nodes news faces (processes_of w) w.connections grew f.numbers;
      links = links_moved w.group w.nodes faces faces (processes_of w) (lasts_of w) w.connections w.connections
          q v u (nowhere v.links) there moves f.links
          (λ i view n k link b at_i me incarnation at_k other process stands.
          link_stands_still view n link b (regrips_not faces) me incarnation stands)
          (λ link at_k. absurd (none link at_k));
      connections = f.connections;
      loads = record {
        own = f.loads.own;
        outstanding = f.loads.outstanding;
        rest = rest_moved w.nodes w.backends q v u (nowhere v.links) moves there f.loads.rest
            (λ link j b at_k without at_j of. absurd (none link at_k));
      };
      forwards = f.forwards;
      safe = record { struck = f.safe.struck; taken = f.safe.taken; earned = f.safe.earned };
    }
