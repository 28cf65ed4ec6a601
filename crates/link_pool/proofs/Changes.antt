-- A view's places and queues, once one of them has changed.
use Rattle.std.proofs.Common.{◌≡◌, ◌≢◌, ℕ, zero, suc, Bool, true, false, List, [], ◌∷◌, Option, Some, None, length, map, option_map, get_or, ◌<◌, refl, ap, sym, subst, ◌∙◌, ⊎_elim, ◌==◌, ◌&&◌}
use Rattle.std.proofs.Math.ListN.{set}
use Rattle.std.specs.List.{slice_get}
use Rattle.std.proofs.lemmas.Option.{slice_get_within, slice_get-get_or}
use Rattle.std.proofs.lemmas.Bool.{cases_eq}
use Rattle.std.proofs.lemmas.List.{get_or-set_same, get_or-set_other}
use Rattle.lease.specs.declared.link_place.LinkPlace.{LinkPlace}
use Rattle.link_pool.specs.declared.place.Place.{Place}
use Rattle.link_pool.specs.Pool.{DatabasePool, PoolView, at_place, place_in, place_at, queue_at, changed, placed, with_queue}
use Rattle.link_pool.specs.OnePlace.{same_place}
use Rattle.link_pool.proofs.Places.{slice_get-set_same, slice_get-set_other}
use Rattle.slot_queues.proofs.Times.{eq_self, eq_yes}

pub changed_here : {X : Type 0} (xs : List X) (d : ℕ) (change : X → X) → slice_get (changed xs d change) d ≡ option_map change (slice_get xs d)
changed_here [] d change = refl
changed_here (x ∷ xs) zero change = refl
changed_here (x ∷ xs) (suc d) change = changed_here xs d change

pub changed_there : {X : Type 0} (xs : List X) (d e : ℕ) (change : X → X) → e ≢ d → slice_get (changed xs d change) e ≡ slice_get xs e
changed_there [] d e change h = refl
changed_there (x ∷ xs) zero zero change h = absurd (h refl)
changed_there (x ∷ xs) zero (suc e) change h = refl
changed_there (x ∷ xs) (suc d) zero change h = refl
changed_there (x ∷ xs) (suc d) (suc e) change h = changed_there xs d e change (λ same. h (ap suc same))

pub changed_is_set : {X : Type 0} (xs : List X) (d : ℕ) (x : X) (change : X → X) → slice_get xs d ≡ Some x → changed xs d change ≡ set xs d (change x)
changed_is_set [] d x change h = absurd (cc)
changed_is_set (first ∷ xs) zero x change h = let e : first ≡ x = cc in ap (λ p. change p ∷ xs) e
changed_is_set (first ∷ xs) (suc d) x change h = ap (λ rest. first ∷ rest) (changed_is_set xs d x change h)

changed-map : {X Y : Type 0} (f : X → Y) (g : X → X) (h : Y → Y) → ((x : X) → f (g x) ≡ h (f x)) → (xs : List X) (d : ℕ) → map f (changed xs d g) ≡ changed (map f xs) d h
changed-map f g h same [] d = refl
changed-map f g h same (x ∷ xs) zero = ap (λ y. y ∷ map f xs) (same x)
changed-map f g h same (x ∷ xs) (suc d) = ap (λ ys. f x ∷ ys) (changed-map f g h same xs d)

-- what was read of a list
pub was_read : {X : Type 0} (xs : List X) (n d : ℕ) (x : X) → n ≡ d → n < length xs → x ≡ get_or xs n x → slice_get xs d ≡ Some x
was_read xs n d x same within read = subst (λ (m : ℕ). slice_get xs m ≡ Some x) same (slice_get-get_or xs n x within ∙ ap Some (sym read))

-- a write of what was read and changed, as it is seen
pub wrote : {X Y : Type 0} (f : X → Y) (g : X → X) (h : Y → Y) → ((x : X) → f (g x) ≡ h (f x)) → (xs : List X) (n d : ℕ) (x new : X) → n ≡ d → slice_get xs d ≡ Some x → new ≡ g x → map f (set xs n new) ≡ changed (map f xs) d h
wrote f g h alike xs n d x new same there made =
    ap (λ (m : ℕ). map f (set xs m new)) same ∙ ap (λ y. map f (set xs d y)) made ∙ ap (map f) (sym (changed_is_set xs d x g there)) ∙ changed-map f g h alike xs d

-- two places with one database and one index are one
pub one_place : (a b : LinkPlace) → a.database ≡ b.database → a.index ≡ b.index → a ≡ b
one_place a b p q = ap {B = LinkPlace} (λ (d : ℕ). record { database = d; index = a.index }) p ∙ ap {B = LinkPlace} (λ (i : ℕ). record { database = b.database; index = i }) q

-- the test of two places
pub same_place_yes : (a : LinkPlace) → same_place a a ≡ true
same_place_yes a = rw (eq_self a.database, eq_self a.index) refl

and_both : (x y : Bool) → x && y ≡ true → (x ≡ true) × (y ≡ true)
and_both true true h = (refl, refl)
and_both true false h = absurd (cc)
and_both false y h = absurd (cc)

pub same_places : (a b : LinkPlace) → same_place a b ≡ true → a ≡ b
same_places a b h = let both = and_both (a.database == b.database) (a.index == b.index) h in one_place a b (eq_yes a.database b.database both.0) (eq_yes a.index b.index both.1)

is_false : (b : Bool) → (b ≢ true) → b ≡ false
is_false true n = absurd (n refl)
is_false false n = refl

pub same_place_no : (a b : LinkPlace) → a ≢ b → same_place a b ≡ false
same_place_no a b h = is_false (same_place a b) (λ yes. h (same_places a b yes))

-- what is in a changed pool
in_changed_pool : (o : Option DatabasePool) (i : ℕ) (old p : Place) (f : List ℕ → List ℕ) → place_in o i ≡ Some old
    → place_in (option_map (λ (pool : DatabasePool). at_place pool i p f) o) i ≡ Some p
in_changed_pool None i old p f h = absurd (cc)
in_changed_pool (Some pool) i old p f h = slice_get-set_same pool.places i p (slice_get_within pool.places i old h)

beside_in_pool : (o : Option DatabasePool) (i j : ℕ) (p : Place) (f : List ℕ → List ℕ) → j ≢ i
    → place_in (option_map (λ (pool : DatabasePool). at_place pool i p f) o) j ≡ place_in o j
beside_in_pool None i j p f h = refl
beside_in_pool (Some pool) i j p f h = slice_get-set_other pool.places i j p h

pub place_here : (v : PoolView) (at : LinkPlace) (old p : Place) (f : List ℕ → List ℕ) → place_at v at ≡ Some old
    → place_at (placed v at p f) at ≡ Some p
place_here v at old p f h = ap (λ (o : Option DatabasePool). place_in o at.index) (changed_here v.pools at.database _) ∙ in_changed_pool (slice_get v.pools at.database) at.index old p f h

pub place_there : (v : PoolView) (at other : LinkPlace) (p : Place) (f : List ℕ → List ℕ) → other ≢ at
    → place_at (placed v at p f) other ≡ place_at v other
place_there v at other p f h = ⊎_elim
    (λ same. let index : other.index ≢ at.index = λ e. h (one_place other at same e) in
    ap (λ (d : ℕ). place_in (slice_get (placed v at p f).pools d) other.index) same
    ∙ ap (λ (o : Option DatabasePool). place_in o other.index) (changed_here v.pools at.database _)
    ∙ beside_in_pool (slice_get v.pools at.database) at.index other.index p f index
    ∙ ap (λ (d : ℕ). place_in (slice_get v.pools d) other.index) (sym same))
    (λ apart. ap (λ (o : Option DatabasePool). place_in o other.index) (changed_there v.pools at.database other.database _ apart))
    (cases_eq other.database at.database)

-- as many as before
pub changed_long : {X : Type 0} (xs : List X) (d : ℕ) (change : X → X) → length (changed xs d change) ≡ length xs
changed_long [] d change = refl
changed_long (x ∷ xs) zero change = refl
changed_long (x ∷ xs) (suc d) change = ap suc (changed_long xs d change)

pub queue_there : (v : PoolView) (d e : ℕ) (change : List ℕ → List ℕ) → e ≢ d → queue_at (with_queue v d change) e ≡ queue_at v e
queue_there v d e change n = get_or-set_other v.queues d e (change (queue_at v d)) [] n

pub queue_here : (v : PoolView) (d : ℕ) (change : List ℕ → List ℕ) → d < length v.queues → queue_at (with_queue v d change) d ≡ change (queue_at v d)
queue_here v d change h = get_or-set_same v.queues d (change (queue_at v d)) [] h
