-- A node starts anew.
use Rattle.std.proofs.Common.{◌≡◌, ◌≢◌, ℕ, zero, suc, ◌+◌, ⊎_elim, List, [], ◌∷◌, Option, Some, None, length, ap, sym, subst, ◌∙◌, arith, length-set}
use Rattle.std.proofs.Math.ListN.{set, replicate}
use Rattle.std.specs.List.{slice_get}
use Rattle.std.proofs.lemmas.List.{length-replicate}
use Rattle.lease.specs.declared.link_place.LinkPlace.{LinkPlace}
use Rattle.link_pool.specs.declared.place.{Place.Place, Link.Link}
use Rattle.link_pool.specs.declared.replies.RestartReply.{RestartReply}
use Rattle.link_pool.specs.Pool.{DatabasePool, PoolView, place_at, place_in}
use Rattle.link_pool.specs.PoolStep.{emptied, empty_pools}
use Rattle.node_core.specs.declared.client.Client.{Client}
use Rattle.node_core.specs.View.{NodeView}
use Rattle.node_core.specs.NodeStep.{Restarts as NodeRestarts, RestartStep}
use Rattle.world.specs.declared.reply.Reply.{Reply}
use Rattle.world.specs.World.{World, Start, HadBoot, IsNode}
use Rattle.world.specs.Changes.{and_then, with_nodes}
use Rattle.world.specs.Admissible.{IsNextBoot}
use Rattle.world.specs.CancelEvents.{StartsAnew, Restarts}
use Rattle.world.specs.Facts.{processes_of, faces_of, FitSlots, AreAtRest, Facts}
use Rattle.world.proofs.Lists.{set_cases, kept_behind, added_last}
use Rattle.world.proofs.LinkSteps.{one_kept, nodes_kept, numbers_left}
use Rattle.world.proofs.GivingBack.{same_nodes}

-- nobody is logged in
pub nobody_there : (n s : ℕ) (client : Client) → slice_get (replicate n None) s ≢ Some (Some client)
nobody_there zero s client h = absurd (cc)
nobody_there (suc n) zero client h = absurd (cc)
nobody_there (suc n) (suc s) client h = nobody_there n s client h

-- all places are free
free_places : (n i : ℕ) (link : Link) → slice_get (replicate n Place.Free) i ≢ Some (Place.Link link)
free_places zero i link h = absurd (cc)
free_places (suc n) zero link h = absurd (cc)
free_places (suc n) (suc i) link h = free_places n i link h

pub emptied_places : (pools : List DatabasePool) (d i : ℕ) (link : Link)
    → place_in (slice_get (emptied pools) d) i ≢ Some (Place.Link link)
emptied_places [] d i link h = absurd (cc)
emptied_places (pool ∷ pools) zero i link h = free_places (length pool.places) i link h
emptied_places (pool ∷ pools) (suc d) i link h = emptied_places pools d i link h

pub made_places : (sizes : List ℕ) (d i : ℕ) (link : Link)
    → place_in (slice_get (empty_pools sizes) d) i ≢ Some (Place.Link link)
made_places [] d i link h = absurd (cc)
made_places (size ∷ sizes) zero i link h = free_places size i link h
made_places (size ∷ sizes) (suc d) i link h = made_places sizes d i link h

-- a boot that a node takes next is none that it had
pub next_boot : (starts : List Start) (node : ℕ) (asked : Option ℕ) (boot : ℕ) → IsNextBoot starts node asked boot
    → HadBoot starts node boot → ⊥
next_boot starts node (Some asked) boot next had =
    next.1 (subst (HadBoot starts node) next.0 had)
next_boot starts node None boot next had =
    let most = next.1.greatest boot had in
    let is = next.2 in
    omega (arith, most, is)

had_still : (starts : List Start) (s : Start) (node boot : ℕ) → HadBoot starts node boot
    → HadBoot (and_then starts s) node boot
had_still starts s node boot h = record {
  place = h.place;
  there = kept_behind starts (s ∷ []) h.place _ h.there;
}

-- a node was started anew
restarted_kept : (w : World) (q node boot : ℕ) (asked : Option ℕ) (v n : NodeView) → IsNode w.nodes node q v
    → IsNextBoot w.starts node asked boot → NodeRestarts boot v n → Facts w
    → Facts (record w {
      nodes = set w.nodes q n;
      starts = and_then w.starts (record { node = node; boot = boot });
    })
restarted_kept w q node boot asked v n is next step f =
    let start : Start = record { node = node; boot = boot } in
    let starts = and_then w.starts start in
    let news = set w.nodes q n in
    let me : n.me ≡ v.me = ap (λ (z : NodeView). z.me) step.after in
    let clients : n.clients ≡ replicate (length v.clients) None = ap (λ (z : NodeView). z.clients) step.after in
    let links = step.links.0 in
    let incarnation : n.links.incarnation ≡ v.links.incarnation + 1 = ap (λ (u : PoolView). u.incarnation) links in
    let boot_is : n.boot ≡ boot = ap (λ (z : NodeView). z.boot) step.after in
    let kept = one_kept w.nodes q v n is.there (record {
      me = me;
      slots = ap length clients ∙ length-replicate (length v.clients) None;
      pools = ap (λ (z : NodeView). z.pools) step.after;
      incarnation = omega (arith, incarnation);
      pass = let e = ap (λ (z : NodeView). z.next_pass) step.after in omega (arith, e);
      link = let e = ap (λ (u : PoolView). u.next_link) links in omega (arith, e);
      ticket = let e = ap (λ (u : PoolView). u.next_ticket) links in omega (arith, e);
    }) in
    let no_link : (at : LinkPlace) (link : Link) → place_at n.links at ≢ Some (Place.Link link) =
    λ at link e. emptied_places v.links.pools at.database at.index link
    (ap (λ (ps : List DatabasePool). place_in (slice_get ps at.database) at.index)
    (sym (ap (λ (u : PoolView). u.pools) links)) ∙ e) in
    record {
      servers = f.servers;
      nodes = nodes_kept w.nodes news (length-set w.nodes q n) kept f.nodes;
      issues = record {
        booted = λ i x at. ⊎_elim (λ was. had_still w.starts start x.me x.boot (f.issues.booted i x was.1))
            (λ new. subst (λ (z : NodeView). HadBoot starts z.me z.boot) (sym new.1)
            (subst (λ (b : ℕ). HadBoot starts n.me b) (sym boot_is)
            (subst (λ (m : ℕ). HadBoot starts m boot) (sym (me ∙ is.named))
            (record { place = length w.starts; there = added_last w.starts start }))))
            (set_cases w.nodes q i x n at);
        each = λ i issue at. let g = f.issues.each i issue at in record {
          key = g.key;
          is = g.is;
          of = g.of;
          node = g.node;
          part = λ part has. let given = g.part part has in record {
            boot = had_still w.starts start issue.node part.boot given.boot;
            serial = λ place view at_node same. ⊎_elim
                (λ was. given.serial place view (record { there = was.1; named = at_node.named }) same)
                (λ new. absurd (next_boot w.starts node asked boot next
                (subst (λ (b : ℕ). HadBoot w.starts node b)
                (sym same ∙ ap (λ (z : NodeView). z.boot) new.1 ∙ boot_is)
                (subst (λ (m : ℕ). HadBoot w.starts m part.boot)
                (sym at_node.named ∙ ap (λ (z : NodeView). z.me) new.1 ∙ me ∙ is.named) given.boot))))
                (set_cases w.nodes q place view n at_node.there);
          };
        };
        once = f.issues.once;
      };
      clients = f.clients;
      slots = λ i view at_i. ⊎_elim (λ same. f.slots i view same.1)
          (λ new. subst (FitSlots (faces_of w)) (sym new.1) (record {
            fits = λ j x at_j is_in.
                let most = f.numbers.incarnations j q x v at_j
                (record { there = is.there; named = sym (is_in.node ∙ me) }) in
                let its = is_in.incarnation in
                absurd (omega (arith, most, its, incarnation));
            filled = λ k client live. absurd (nobody_there (length v.clients) k client
                (ap (λ (cs : List (Option Client)). slice_get cs k) (sym clients) ∙ live));
          }))
          (set_cases w.nodes q i view n at_i);
      processes = f.processes;
      numbers = numbers_left w.nodes news (faces_of w) (processes_of w) w.connections kept f.numbers;
      links = λ i view at_i at link at_link. ⊎_elim
          (λ same. f.links i view same.1 at link at_link)
          (λ new. absurd (no_link at link
          (subst (λ (z : NodeView). place_at z.links at ≡ Some (Place.Link link)) new.1 at_link)))
          (set_cases w.nodes q i view n at_i);
      connections = f.connections;
      loads = record {
        own = f.loads.own;
        outstanding = f.loads.outstanding;
        rest = λ i view at_i. ⊎_elim (λ same. f.loads.rest i view same.1)
            (λ new. subst (AreAtRest w.backends) (sym new.1)
            (λ at link j b at_link free at_j of. absurd (no_link at link at_link)))
            (set_cases w.nodes q i view n at_i);
      };
      forwards = f.forwards;
      safe = record { struck = f.safe.struck; taken = f.safe.taken; earned = f.safe.earned };
    }

restart_by : (w new : World) (nodes : List NodeView) (q node boot : ℕ) (asked : Option ℕ) (v n : NodeView) (given : RestartReply) (said : Reply)
    → Facts w → IsNode w.nodes node q v → IsNextBoot w.starts node asked boot
    → RestartStep boot given v n → nodes ≡ set w.nodes q n
    → StartsAnew node boot given said (with_nodes nodes w) new → Facts new
restart_by w new nodes q node boot asked v n RestartReply.Restarted said f is next step all after =
    subst Facts (sym (after.1 ∙ ap (λ (ns : List NodeView). let z : World = record w {
      nodes = ns;
      starts = and_then w.starts (record { node = node; boot = boot });
    } in z) all))
    (restarted_kept w q node boot asked v n is next step f)
restart_by w new nodes q node boot asked v n RestartReply.Exhausted said f is next step all after =
    subst Facts (sym (after.1 ∙ ap (λ (ns : List NodeView). with_nodes ns w)
    (all ∙ ap (set w.nodes q) step.1 ∙ same_nodes w.nodes q v is.there))) f

-- a node starts anew
pub restart_kept : (old new : World) (node : ℕ) (asked : Option ℕ) (said : Reply)
    → Restarts node asked said old new → Facts old → Facts new
restart_kept old new node asked said does f =
    restart_by old new does.nodes does.step.place node does.boot asked does.step.view does.step.next does.given said
    f does.step.is does.next does.step.step does.step.after does.after
