use Rattle.std.proofs.Common.{ℕ, ◌≡◌, Option, None, replicate, ap, ◌∙◌, arith, rules}
use Rattle.key_table.specs.Live.{IsTable}
use Rattle.key_table.specs.declared.entry.Entry.{Entry}
use Rattle.key_table.proofs.Tables.{all_free, is_next}
use Rattle.key_table.proofs.key_table.KeyTable.new.Goals as goal

pub returns-clause-free : goal.returns-clause-free
returns-clause-free c =
    let size : c.in_ok-live.live.capacity ≡ c.args.limit = omega (arith, c.capacity.ensures.value) in
    all_free c.in_ok-live.live c.in_ok-live.ensures.empty ∙ ap (λ (n : ℕ). replicate {A = Option Entry} n None) size

pub returns-clause-next : goal.returns-clause-next
returns-clause-next c =
    let table : IsTable c.in_ok-live.live = search rules in
    is_next c.in_ok-live.live table
