-- A node that was just made has no clients.
use Rattle.std.proofs.Common.{◌≡◌, ℕ, zero, suc, ◌+◌, ◌≤◌, true, List, [], ◌∷◌, Option, Some, None, length, map, refl, ap, sym, subst, ◌∙◌, arith}
use Rattle.std.proofs.Math.ListN.{replicate}
use Rattle.std.specs.List.{slice_get}
use Rattle.std.proofs.lemmas.List.{length-replicate}
use Rattle.lease.specs.declared.link_place.LinkPlace.{LinkPlace}
use Rattle.link_pool.specs.declared.place.{Place.Place, Claim.Claim}
use Rattle.link_pool.specs.Pool.{PoolView, place_in, place_at}
use Rattle.link_pool.specs.PoolStep.{fresh, empty_pools, empty_pool}
use Rattle.link_pool.specs.OnePlace.{IsPool}
use Rattle.link_pool.proofs.NewLinks.{whole_fresh}
use Rattle.ini_config.specs.Plain.{plain_settings}
use Rattle.node_core.specs.View.{NodeView, IsNode, IsFresh}
use Rattle.node_core.proofs.Clients.{none_view}
use Rattle.answer.specs.Attended.{Came, is_calm, is_still}
use Rattle.answer.specs.Decision.{HasRoom, Haves}
use Rattle.answer.proofs.Places.{none_live, none_used}

free_calm : (n i : ℕ) → is_calm (slice_get (replicate n Place.Free) i) ≡ true
free_calm zero i = refl
free_calm (suc n) zero = refl
free_calm (suc n) (suc i) = free_calm n i

calm_at : (n d i : ℕ)
    → is_calm (place_in (slice_get (empty_pools (n ∷ [])) d) i) ≡ true
calm_at n zero i = free_calm n i
calm_at n (suc d) i = refl

nothing_still : (n s : ℕ) → is_still (slice_get (replicate n Claim.Nothing) s) ≡ true
nothing_still zero s = refl
nothing_still (suc n) zero = refl
nothing_still (suc n) (suc s) = nothing_still n s

pub fresh_came : (me : ℕ) (peers : List ℕ) (size : ℕ) (v : NodeView) → size ≤ 65535
    → IsFresh (plain_settings me peers size size) 0 v → Came size [] [] v
fresh_came me peers size v limit made =
    let links : v.links ≡ fresh me (size ∷ []) size = ap (λ (x : NodeView). x.links) made.fields in
    let pools : v.pools ≡ size ∷ [] = ap (λ (x : NodeView). x.pools) made.fields in
    let is_me : v.me ≡ me = ap (λ (x : NodeView). x.me) made.fields in
    let clients = ap (λ (x : NodeView). x.clients) made.fields in
    let next = ap (λ (x : NodeView). x.next_pass) made.fields in
    let serial = ap (λ (x : NodeView). x.next_serial) made.fields in
    record {
      coming = record {
        attended = record {
          node = none_view v size (made.own ∙ sym is_me) (ap (λ (u : PoolView). u.peer) links ∙ sym is_me)
              made.next made.free clients (ap (λ (u : PoolView). u.claims) links)
              (rw (links, pools) (ap (λ n. n ∷ []) (length-replicate size Place.Free)))
              (omega (arith, next), omega (arith, serial));
          pool = rw links (whole_fresh me (size ∷ []) size);
          one = ap length pools;
          present = λ i pass h. absurd (cc);
          slots = λ i j a b x y same. absurd (cc);
          out = λ i lease h. absurd (cc);
          places = λ i j a b x y same. absurd (cc);
          calm = λ at. rw links (calm_at size at.database at.index);
          still = λ slot. rw links (nothing_still size slot);
          nobody = rw links refl;
          used = rw links (none_used size);
        };
        pools = pools;
        entries = ap length made.free ∙ length-replicate size None;
        live = rw made.free (none_live size);
        next_pass = next;
        next_permit = rw links refl;
        next_link = rw links refl;
      };
      few = omega arith;
      limit = limit;
    }

-- there is room for as many clients as there are slots
pub fresh_room : (me : ℕ) (peers : List ℕ) (size many : ℕ) (v : NodeView) (had : Haves)
    → had.passes ≡ [] → had.leases ≡ [] → many ≤ size → size ≤ 65535
    → IsFresh (plain_settings me peers size size) 0 v → HasRoom had many v
fresh_room me peers size many v had passes leases few limit made =
    let none = ap length passes in
    record {
      size = size;
      room = omega (arith, none, few);
      came = rw (passes, leases) (fresh_came me peers size v limit made);
    }
