use Rattle.std.proofs.Common.{◌≡◌, ◌+◌, ◌%◌, ap, ◌∙◌, subst, sym}
use Rattle.std.proofs.Math.Nat.{mod-add-mod}
use Rattle.node_threads.specs.Front.{HasDealt}
use Rattle.node_threads.proofs.node.front.Front.deal.Goals as goal

pub returns-clause-next : goal.returns-clause-next
returns-clause-next c =
    λ k h.
    let dealt : c.self.inside.next ≡ k % c.self.inside.nodes =
    subst (λ front. HasDealt front k) (sym c.self.view_is) h
    in
    ap (λ next. (next + 1) % c.self.inside.nodes) dealt ∙ mod-add-mod k c.self.inside.nodes 1
