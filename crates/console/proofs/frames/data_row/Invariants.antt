use Rattle.std.proofs.Common.{◌≡◌, ◌++◌, length, map, take}
use Rattle.std.specs.List.{flat_map}
use Rattle.byteorder.specs.Endian.{big_bytes}
use Rattle.console.specs.Rows.{value}
use Rattle.console.proofs.frames.data_row.Given as goal

-- the count and the texts so far
abbrev pub invariant-loop-text : goal.invariant-loop-text
invariant-loop-text l = l.body.items ≡ big_bytes 2 (length l.texts) ++ flat_map value (map (λ text. text.now) (take l.text-index l.texts))
