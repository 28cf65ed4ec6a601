use Rattle.std.proofs.Common.{◌∙◌, ℕ, ap, drop, length, length-take, arith}
use Rattle.pg_frames.proofs.StoreLemmas.{range_left}
use Rattle.pg_frames.proofs.store.Store.advance.Goals as goal

pub returns-clause-items : goal.returns-clause-items
returns-clause-items c =
    range_left c.self.inside.memory.items c.self.inside.start c.self.inside.end c.args.count
    (omega (arith, c.requires, ap (λ s. length s.items) c.self.view_is, length-take {A = ℕ})) ∙ ap (λ s. drop c.args.count s.items) c.self.view_is
