use Rattle.std.proofs.Common.{List, slice_get, ap, sym, ◌∙◌}
use Rattle.world.proofs.Lists.{same_map}
use Rattle.world.proofs.table.Table.set.Goals as goal

pub invariant_of-self : goal.invariant_of-self
invariant_of-self g c =
    same_map g.R.Row.key_of c.self.inside.rows.items c.args.place c.requires.same.row c.args.row
    (ap (λ (l : List g.row.R.Denot). slice_get l c.args.place) (ap (λ v. v.rows) c.self.view_is) ∙ c.requires.same.there)
    (sym c.requires.same.of)
    ∙ c.self.invariant
