use Rattle.std.proofs.Common.{◌<◌, sym, subst, arith}
use Rattle.locked_node.specs.Totals.{all_calls}
use Rattle.locked_node.specs.Journal.{LogView, CALL_LIMIT}
use Rattle.locked_node.proofs.log.Log.count.Goals as goal

pub invariant_of-self : goal.invariant_of-self
invariant_of-self c =
    let is = c.self.invariant in
    let counts = c.add.ensures c.requires.of.0 c.requires.of.1 in
    let all = counts.all in
    let same = is.2 in
    let room = subst (λ (l : LogView). all_calls l.totals < CALL_LIMIT) (sym c.self.view_is) c.requires.room in
    (is.0, is.1, omega (arith, all, same), omega (arith, all, same, room))
