use Rattle.std.proofs.Common.{ℕ, Option, None, replicate, ap, sym, ◌∙◌}
use Rattle.key_table.specs.declared.entry.Entry.{Entry}
use Rattle.key_table.proofs.Tables.{length_slots, all_free}
use Rattle.key_table.proofs.key_table.KeyTable.clear.Goals as goal

pub returns-clause-free : goal.returns-clause-free
returns-clause-free c =
    rw (← c.self.view_is) (all_free c.clear.new.self c.clear.ensures.empty ∙ ap (λ (n : ℕ). replicate {A = Option Entry} n None) (c.clear.ensures.capacity ∙ sym (length_slots c.self.inside.live)))
