-- What is at each place, as a view keeps it: a list of places for each pool.
use Rattle.std.proofs.Common.{◌≡◌, ℕ, List, Option, Some, None, map, slice_get, sym, ap, ◌∙◌}
use Rattle.std.specs.Prelude.{option_map}
use Rattle.std.proofs.lemmas.Option.{slice_get-map, same_Some}
use Rattle.link_pool.specs.declared.place.Place.{Place}
use Rattle.link_pool.specs.Pool.{DatabasePool, place_in}

in_pool : (o : Option DatabasePool) (places : List Place) (i : ℕ) → option_map (λ pool. pool.places) o ≡ Some places → slice_get places i ≡ place_in o i
in_pool None places i e = absurd (cc)
in_pool (Some pool) places i e = ap (λ (l : List Place). slice_get l i) (sym (same_Some pool.places places e))

-- the place at an index of a pool's list
pub in_row : {X : Type 0} (items : X → List Place) (rows : List X) (pools : List DatabasePool) (d i : ℕ) (row : X) → map items rows ≡ map (λ pool. pool.places) pools → slice_get rows d ≡ Some row → slice_get (items row) i ≡ place_in (slice_get pools d) i
in_row items rows pools d i row same there =
    in_pool (slice_get pools d) (items row) i
    (sym (slice_get-map (λ (pool : DatabasePool). pool.places) pools d) ∙ ap (λ l. slice_get l d) (sym same) ∙ slice_get-map items rows d ∙ ap (option_map items) there)
