use Rattle.std.proofs.Common.{◌≡◌, ◌++◌, All, drop, map}
use Rattle.std.specs.Option.{option_map}
use Rattle.command_line.specs.Numbers.{each}
use Rattle.command_line.proofs.list.items.Given as goal

-- the items so far, and then those of the other texts
abbrev pub invariant-loop-text : goal.invariant-loop-text
invariant-loop-text g l =
    record {
      value : each g.T.Item.item_of (map (λ t. t.now) l.text-items)
          ≡ option_map (λ others. l.items.items ++ others)
          (each g.T.Item.item_of (map (λ t. t.now) (drop l.text-index l.text-items)));
      holds : All g.T.Item.holds l.items.items;
    }
