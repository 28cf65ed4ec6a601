use Rattle.std.proofs.Common.{List, slice_get, map, ap, sym, ◌∙◌}
use Rattle.world.specs.declared.request.Forward.{Forward}
use Rattle.world.proofs.Lists.{same_map}
use Rattle.world.proofs.forwards.Forwards.set.Goals as goal

pub invariant_of-self : goal.invariant_of-self
invariant_of-self c =
    ap (map (λ (f : Forward). f.origin)) c.set.ensures.rows
    ∙ same_map (λ (f : Forward). f.origin) c.self.inside.by_flight.rows c.args.place c.requires.origin.row c.args.forward
    (ap (λ (l : List Forward). slice_get l c.args.place) (ap (λ v. v.rows) c.self.view_is) ∙ c.requires.origin.there)
    (sym c.requires.origin.of)
    ∙ c.self.invariant
