use Rattle.std.proofs.Common.{List, slice_get, ap, sym, ◌∙◌}
use Rattle.world.specs.declared.request.Forward.{Forward}
use Rattle.world.proofs.Tables.{no_key}
use Rattle.world.proofs.forwards.Forwards.push.Goals as goal

pub push-requires-clause-new : goal.push-requires-clause-new
push-requires-clause-new c =
    no_key (λ (f : Forward). f.origin) _ _ _ c.self.invariant (ap (λ v. v.rows) c.self.view_is) _ c.requires.origin

pub push-requires-2-clause-new : goal.push-requires-2-clause-new
push-requires-2-clause-new c place other there =
    c.requires.flight place other (ap (λ (l : List Forward). slice_get l place) (sym (ap (λ v. v.rows) c.self.view_is)) ∙ there)
