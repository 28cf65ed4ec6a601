-- The places of a database's pool, and the links there.
use Rattle.std.proofs.Common.{◌≡◌, ◌≤◌, ◌+◌, ℕ, List, [], ◌++◌, map, take, slice_get, Option, Some, None, refl, ap, sym, ◌∙◌}
use Rattle.std.specs.List.{flat_map}
use Rattle.std.specs.Option.{option_to_list}
use Rattle.std.proofs.lemmas.List.{append-nil}
use Rattle.ini_config.specs.Node.{NodeSettings}
use Rattle.link_pool.specs.declared.place.Place.{Place}
use Rattle.link_pool.specs.declared.place.Link.{Link}
use Rattle.link_pool.specs.Pool.{DatabasePool, place_in}
use Rattle.console.specs.declared.numbered_row.NumberedRow.{NumberedRow}
use Rattle.console.specs.Rows.{links_in, link_at, numbered_link}
use Rattle.console.proofs.Steps.{take_end, flat_map_next, joined}

abbrev pub places_of : Option DatabasePool → List Place
places_of None = []
places_of (Some pool) = pool.places

place_there : (pool : Option DatabasePool) (index : ℕ) → place_in pool index ≡ slice_get (places_of pool) index
place_there None index = refl
place_there (Some pool) index = refl

links_there : (pool : Option DatabasePool) → flat_map link_at (take 65536 (places_of pool)) ≡ links_in pool
links_there None = refl
links_there (Some pool) = refl

-- the rows of the links at the places so far, with that of the next place
pub place_next : (settings : NodeSettings) (pool : Option DatabasePool) (i : ℕ) (at : Place) (start before after : List NumberedRow) → place_in pool i ≡ Some at → before ≡ start ++ map (numbered_link settings) (flat_map link_at (take i (places_of pool))) → after ≡ before ++ map (numbered_link settings) (link_at at) → after ≡ start ++ map (numbered_link settings) (flat_map link_at (take (i + 1) (places_of pool)))
place_next settings pool i at start before after there was is =
    let places = places_of pool in
    joined (numbered_link settings) start before after (flat_map link_at (take i places)) (link_at at) (flat_map link_at (take (i + 1) places)) was is
    (flat_map_next link_at places i
    ∙ ap (λ p. flat_map link_at (take i places) ++ flat_map link_at (option_to_list p)) (sym (place_there pool i) ∙ there)
    ∙ ap (λ l. flat_map link_at (take i places) ++ l) (append-nil (link_at at)))

-- the rows of all links, where nothing is at the next place
pub place_end : (settings : NodeSettings) (pool : Option DatabasePool) (i : ℕ) (start rows : List NumberedRow) → place_in pool i ≡ None → i ≤ 65536 → rows ≡ start ++ map (numbered_link settings) (flat_map link_at (take i (places_of pool))) → rows ≡ start ++ map (numbered_link settings) (links_in pool)
place_end settings pool i start rows there most was =
    was ∙ ap (λ l. start ++ map (numbered_link settings) (flat_map link_at l)) (take_end (places_of pool) i 65536 (sym (place_there pool i) ∙ there) most)
    ∙ ap (λ l. start ++ map (numbered_link settings) l) (links_there pool)

-- the rows of all links, where all places were looked at
pub place_last : (settings : NodeSettings) (pool : Option DatabasePool) (i : ℕ) (start rows : List NumberedRow) → i ≡ 65536 → rows ≡ start ++ map (numbered_link settings) (flat_map link_at (take i (places_of pool))) → rows ≡ start ++ map (numbered_link settings) (links_in pool)
place_last settings pool i start rows all was =
    was ∙ ap (λ n. start ++ map (numbered_link settings) (flat_map link_at (take n (places_of pool)))) all
    ∙ ap (λ l. start ++ map (numbered_link settings) l) (links_there pool)

abbrev in_pool : DatabasePool → List Link
in_pool pool = links_in (Some pool)

in_next : (pool : Option DatabasePool) → flat_map in_pool (option_to_list pool) ≡ links_in pool
in_next None = refl
in_next (Some pool) = append-nil (links_in (Some pool))

-- the rows of the databases so far, with those of the next
pub pool_next : (settings : NodeSettings) (pools : List DatabasePool) (i : ℕ) (before after : List NumberedRow) → before ≡ map (numbered_link settings) (flat_map in_pool (take i pools)) → after ≡ before ++ map (numbered_link settings) (links_in (slice_get pools i)) → after ≡ map (numbered_link settings) (flat_map in_pool (take (i + 1) pools))
pool_next settings pools i before after was is =
    joined (numbered_link settings) [] before after (flat_map in_pool (take i pools)) (links_in (slice_get pools i)) (flat_map in_pool (take (i + 1) pools)) was is
    (flat_map_next in_pool pools i ∙ ap (λ l. flat_map in_pool (take i pools) ++ l) (in_next (slice_get pools i)))
