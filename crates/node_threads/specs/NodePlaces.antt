-- The places of a group, at each of which one node is made (own).
use Rattle.std.specs.Prelude.{ℕ, List, map, length}
use Rattle.std.specs.List.{range_with_len}
use Rattle.ini_config.specs.Node.{NodeSettings}

-- a group, and a place in it, from 0
pub record PlaceView : Type 0 where
  pub group : List NodeSettings
  pub place : ℕ

-- the place of this number
abbrev pub place_in : List NodeSettings → ℕ → PlaceView
place_in group place = record { group = group; place = place }

-- each place of a group once, in the order of its nodes
abbrev pub places_of : List NodeSettings → List PlaceView
places_of group = map (place_in group) (range_with_len 0 (length group))
