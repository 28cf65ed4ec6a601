use Rattle.std.proofs.Common.{ap, ◌∙◌}
use Rattle.world.proofs.Tables.{no_key}
use Rattle.world.proofs.table.Table.push.Goals as goal

pub push-requires-clause-new : goal.push-requires-clause-new
push-requires-clause-new g c =
    no_key g.R.Row.key_of _ _ _ c.self.invariant (ap (λ v. v.rows) c.self.view_is) _
    (λ place row there is. c.requires.new place row there (is ∙ c.key.ensures))
