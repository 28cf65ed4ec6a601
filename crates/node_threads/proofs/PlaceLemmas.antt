-- The places of a group, one after another.
use Rattle.std.proofs.Common.{◌≡◌, ◌∙◌, ◌+◌, ℕ, List, [], ◌∷◌, ◌++◌, map, sym, ap, arith}
use Rattle.std.specs.List.{range_with_len}
use Rattle.std.proofs.lemmas.List.FromFn.{map-range_with_len_more}
use Rattle.ini_config.specs.Node.{NodeSettings}
use Rattle.node_threads.specs.NodePlaces.{PlaceView, place_in}

-- with the next place of the same group
pub next_place : (group same : List NodeSettings) (places : List PlaceView) (n : ℕ)
    → places ≡ map (place_in group) (range_with_len 0 n) → same ≡ group
    → places ++ place_in same n ∷ [] ≡ map (place_in group) (range_with_len 0 (n + 1))
next_place group same places n are is =
    ap (λ xs. xs ++ place_in same n ∷ []) are
    ∙ ap (λ g. map (place_in group) (range_with_len 0 n) ++ place_in g n ∷ []) is
    ∙ sym (map-range_with_len_more (place_in group) 0 n n (omega arith))
