use Rattle.std.proofs.Common.{◌≡◌, ◌++◌, length, map, take}
use Rattle.std.specs.List.{flat_map}
use Rattle.byteorder.specs.Endian.{big_bytes}
use Rattle.console.specs.Rows.{column}
use Rattle.console.proofs.frames.row_description.Given as goal

-- the count and the columns so far
abbrev pub invariant-loop-name : goal.invariant-loop-name
invariant-loop-name l = l.body.items ≡ big_bytes 2 (length l.names) ++ flat_map column (map (λ name. name.now) (take l.name-index l.names))
