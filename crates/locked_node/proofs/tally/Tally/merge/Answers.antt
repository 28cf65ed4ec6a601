use Rattle.std.proofs.Common.{rules, ◌≡◌, ℕ, length, subst}
use Rattle.locked_node.specs.Adding.{AddedTo}
use Rattle.locked_node.proofs.Tallies.{added_all}
use Rattle.locked_node.proofs.tally.Tally.merge.Goals as goal

pub returns : goal.returns
returns c =
    let long : length c.args.self.now.cells ≡ 479 = search rules in
    let same : length c.args.other.now.cells ≡ 479 = search rules in
    let ended : c.loop-i.i ≡ 479 = search rules in
    added_all c.args.self.now c.args.other.now c.loop-i.self long same
    (subst (λ (n : ℕ). AddedTo 0 n c.args.self.now.cells c.args.other.now.cells c.loop-i.self.cells) ended c.loop-i.invariant) c.requires
