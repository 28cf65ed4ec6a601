use Rattle.std.proofs.Common.{◌==◌, position, ap, ◌∙◌}
use Rattle.world.proofs.Cores.{found_node, no_node}
use Rattle.world.proofs.nodes.Nodes.place.Goals as goal

pub returns-clause-found : goal.returns-clause-found
returns-clause-found c =
    found_node (λ core. core.view) c.self.inside.cores.items c.args.node c.args.self.now c.place_of.result
    (c.place_of.ensures ∙ ap (λ xs. position (λ core. core.view.me == c.args.node) xs) c.deref.ensures.value) c.self.view_is

pub returns-clause-none : goal.returns-clause-none
returns-clause-none c =
    no_node (λ core. core.view) c.self.inside.cores.items c.args.node c.args.self.now c.place_of.result
    (c.place_of.ensures ∙ ap (λ xs. position (λ core. core.view.me == c.args.node) xs) c.deref.ensures.value) c.self.view_is
