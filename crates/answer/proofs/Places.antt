-- How many slots and places are in use, once one has changed.
use Rattle.std.proofs.Common.{◌≡◌, ◌≢◌, ℕ, zero, suc, ◌+◌, ◌<◌, ◌≤◌, Bool, true, false, ◌⊎◌, inl, inr, ⊎_elim, List, [], ◌∷◌, Option, Some, None, option_map, length, map, refl, ap, sym, subst, ◌∙◌, arith}
use Rattle.std.proofs.Math.ListN.{set, replicate}
use Rattle.std.specs.List.{slice_get}
use Rattle.std.proofs.lemmas.Option.{slice_get_within}
use Rattle.std.proofs.lemmas.List.{length-map}
use Rattle.key_table.specs.declared.entry.Entry.{Entry}
use Rattle.lease.specs.declared.link_place.LinkPlace.{LinkPlace}
use Rattle.lease.specs.declared.link_record.LinkRecord.{LinkRecord}
use Rattle.link_pool.specs.declared.place.{Place.Place, Claim.Claim, Link.Link, LinkState.LinkState}
use Rattle.link_pool.specs.Pool.{DatabasePool, PoolView, place_in, place_at, placed, at_place, with_claim}
use Rattle.link_pool.specs.PoolStep.{IsHeld, is_holding}
use Rattle.link_pool.specs.OnePlace.{IsPool, used, used_in, has_link, has_permit, held_by, open_for}
use Rattle.link_pool.proofs.Changes.{changed_here, place_here, place_there, same_place_yes}
use Rattle.link_pool.proofs.Whole.{place_cases}
use Rattle.node_core.specs.View.{NodeView, IsNode}
use Rattle.node_core.proofs.Slots.{set_at}
use Rattle.answer.specs.Attended.{live_slots, is_calm, is_still, is_lent, IsOut}

-- one slot more is live
pub live_more : (entries : List (Option Entry)) (slot : ℕ) (entry : Entry)
    → slice_get entries slot ≡ Some None
    → live_slots (set entries slot (Some entry)) ≡ live_slots entries + 1
live_more [] slot entry h = absurd (cc)
live_more (None ∷ rest) zero entry h = omega arith
live_more (Some was ∷ rest) zero entry h = absurd (cc)
live_more (None ∷ rest) (suc slot) entry h = live_more rest slot entry h
live_more (Some was ∷ rest) (suc slot) entry h =
    let more = live_more rest slot entry h in omega (arith, more)

-- where not all are live one is free
pub some_free : (entries : List (Option Entry)) → live_slots entries < length entries
    → (slot : ℕ) × (slice_get entries slot ≡ Some None)
some_free [] h = absurd (omega arith)
some_free (None ∷ rest) h = (0, refl)
some_free (Some entry ∷ rest) h = let later = some_free rest (omega arith) in (suc later.0, later.1)

pub none_live : (n : ℕ) → live_slots (replicate n None) ≡ 0
none_live zero = refl
none_live (suc n) = none_live n

-- whether a place is in use
abbrev pub weight : Place → ℕ
weight Place.Free = 0
weight (Place.Open permit slot) = 1
weight (Place.Link link) = 1

used_first : (p : Place) (rest : List Place) → used (p ∷ rest) ≡ weight p + used rest
used_first Place.Free rest = omega arith
used_first (Place.Open permit slot) rest = refl
used_first (Place.Link link) rest = refl

-- one place has changed
used-set : (places : List Place) (i : ℕ) (old p : Place) → slice_get places i ≡ Some old
    → used (set places i p) + weight old ≡ used places + weight p
used-set [] i old p h = absurd (cc)
used-set (first ∷ rest) zero old p h =
    let was : first ≡ old = cc in
    let before = used_first first rest in
    let after = used_first p rest in
    let same = ap weight was in
    omega (arith, before, after, same)
used-set (first ∷ rest) (suc i) old p h =
    let before = used_first first rest in
    let after = used_first first (set rest i p) in
    let more = used-set rest i old p h in
    omega (arith, before, after, more)

-- where not all are in use one is free
pub some_place : (places : List Place) → used places < length places
    → (i : ℕ) × (slice_get places i ≡ Some Place.Free)
some_place [] h = absurd (omega arith)
some_place (Place.Free ∷ rest) h = (0, refl)
some_place (Place.Open permit slot ∷ rest) h =
    let later = some_place rest (omega arith) in (suc later.0, later.1)
some_place (Place.Link link ∷ rest) h =
    let later = some_place rest (omega arith) in (suc later.0, later.1)

-- where none is in use each is free
all_free : (places : List Place) (i : ℕ) (p : Place) → used places ≡ 0
    → slice_get places i ≡ Some p → p ≡ Place.Free
all_free [] i p none h = absurd (cc)
all_free (Place.Free ∷ rest) zero p none h = cc
all_free (Place.Free ∷ rest) (suc i) p none h = all_free rest i p none h
all_free (Place.Open permit slot ∷ rest) i p none h = absurd (omega (arith, none))
all_free (Place.Link link ∷ rest) i p none h = absurd (omega (arith, none))

pub none_used : (n : ℕ) → used (replicate n Place.Free) ≡ 0
none_used zero = refl
none_used (suc n) = none_used n

-- ---- in a view

used_in-changed : (o : Option DatabasePool) (i : ℕ) (old p : Place) (f : List ℕ → List ℕ)
    → place_in o i ≡ Some old
    → used_in (option_map (λ (pool : DatabasePool). at_place pool i p f) o) + weight old
    ≡ used_in o + weight p
used_in-changed None i old p f h = absurd (cc)
used_in-changed (Some pool) i old p f h = used-set pool.places i old p h

-- a place of the first database has changed
pub used_placed : (v : PoolView) (at : LinkPlace) (old p : Place) (f : List ℕ → List ℕ)
    → at.database ≡ 0 → place_at v at ≡ Some old
    → used_in (slice_get (placed v at p f).pools 0) + weight old
    ≡ used_in (slice_get v.pools 0) + weight p
used_placed v at old p f first there =
    let here : used_in (slice_get (placed v at p f).pools at.database) + weight old
    ≡ used_in (slice_get v.pools at.database) + weight p =
    ap (λ (o : Option DatabasePool). used_in o + weight old) (changed_here v.pools at.database _)
    ∙ used_in-changed (slice_get v.pools at.database) at.index old p f there in
    subst (λ (d : ℕ). used_in (slice_get (placed v at p f).pools d) + weight old
    ≡ used_in (slice_get v.pools d) + weight p) first here

-- a node with one database has no places but that's
place_of_pool : (o : Option DatabasePool) (i : ℕ) (p : Place) → place_in o i ≡ Some p
    → (pool : DatabasePool) × (o ≡ Some pool)
place_of_pool None i p h = absurd (cc)
place_of_pool (Some pool) i p h = (pool, refl)

pub first_database : (v : NodeView) (at : LinkPlace) (p : Place) → IsNode v → length v.pools ≡ 1
    → place_at v.links at ≡ Some p → at.database ≡ 0
first_database v at p node one there =
    let pool = place_of_pool (slice_get v.links.pools at.database) at.index p there in
    let within = slice_get_within v.links.pools at.database pool.0 pool.1 in
    let pools : length v.pools ≡ length v.links.pools = ap length (sym node.sized)
    ∙ length-map v.links.pools (λ (pool : DatabasePool). length pool.places) in
    omega (arith, within, pools, one)

nothing_used : (o : Option DatabasePool) (i : ℕ) (p : Place) → used_in o ≡ 0
    → place_in o i ≡ Some p → p ≡ Place.Free
nothing_used None i p none h = absurd (cc)
nothing_used (Some pool) i p none h = all_free pool.places i p none h

-- where nothing is in use each place is free
pub free_places : (v : NodeView) (at : LinkPlace) (p : Place) → IsNode v → length v.pools ≡ 1
    → used_in (slice_get v.links.pools 0) ≡ 0 → place_at v.links at ≡ Some p → p ≡ Place.Free
free_places v at p node one none there =
    let first = first_database v at p node one there in
    nothing_used (slice_get v.links.pools at.database) at.index p
    (subst (λ (d : ℕ). used_in (slice_get v.links.pools d) ≡ 0) (sym first) none) there

-- no link is idle or quarantined, once a place has changed into one that isn't
pub calm_placed : (v : PoolView) (at : LinkPlace) (old p : Place) (f : List ℕ → List ℕ)
    → place_at v at ≡ Some old → is_calm (Some p) ≡ true
    → ((k : LinkPlace) → is_calm (place_at v k) ≡ true)
    → (k : LinkPlace) → is_calm (place_at (placed v at p f) k) ≡ true
calm_placed v at old p f there now calm k = ⊎_elim
    (λ same. ap (λ (x : LinkPlace). is_calm (place_at (placed v at p f) x)) same
    ∙ ap is_calm (place_here v at old p f there) ∙ now)
    (λ other. ap is_calm (place_there v at k p f other) ∙ calm k)
    (place_cases k at)

-- nobody waits, once one has something
pub still_claim : (claims : List Claim) (slot : ℕ) (claim : Claim) → is_still (Some claim) ≡ true
    → ((s : ℕ) → is_still (slice_get claims s) ≡ true)
    → (s : ℕ) → is_still (slice_get (set claims slot claim) s) ≡ true
still_claim claims slot claim now still =
    set_at (λ s o. is_still o ≡ true) claims slot claim (λ was e. now) still

-- a link elsewhere is as it was, once a place has changed
pub out_placed : (v u : PoolView) (at : LinkPlace) (p : Place) (f : List ℕ → List ℕ)
    (lease : LinkRecord) → u.pools ≡ (placed v at p f).pools → lease.at ≢ at → IsOut v lease
    → IsOut u lease
out_placed v u at p f lease same other out = record {
  link = out.link;
  slot = out.slot;
  held = record {
    at = ap (λ pools. place_in (slice_get pools lease.at.database) lease.at.index) same
        ∙ place_there v at lease.at p f other ∙ out.held.at;
    says = out.held.says;
    held = out.held.held;
  };
}

-- whoever claims a link or a permit has it
pub at_place_of : (v : PoolView) (slot : ℕ) (o : Option Claim) → IsPool v
    → slice_get v.claims slot ≡ o → is_holding o ≡ true
    → ((at : LinkPlace) → place_at v at ≡ None ⊎ (place_at v at ≡ Some Place.Free)) → ⊥
at_place_of v slot None pool e h free = absurd (cc)
at_place_of v slot (Some Claim.Nothing) pool e h free = absurd (cc)
at_place_of v slot (Some Claim.Cancelled) pool e h free = absurd (cc)
at_place_of v slot (Some (Claim.Waiting d)) pool e h free = absurd (cc)
at_place_of v slot (Some (Claim.Gave at)) pool e h free = absurd (cc)
at_place_of v slot (Some (Claim.Open at)) pool e h free =
    let says : true ≡ open_for slot (place_at v at) = sym (same_place_yes at)
    ∙ ap (has_permit at) (sym e) ∙ pool.permits slot at in
    ⊎_elim
    (λ none. let no : true ≡ false = says ∙ ap (open_for slot) none in absurd (cc))
    (λ none. let no : true ≡ false = says ∙ ap (open_for slot) none in absurd (cc))
    (free at)
at_place_of v slot (Some (Claim.Link at)) pool e h free =
    let says : true ≡ held_by slot (place_at v at) = sym (same_place_yes at)
    ∙ ap (has_link at) (sym e) ∙ pool.links slot at in
    ⊎_elim
    (λ none. let no : true ≡ false = says ∙ ap (held_by slot) none in absurd (cc))
    (λ none. let no : true ≡ false = says ∙ ap (held_by slot) none in absurd (cc))
    (free at)
