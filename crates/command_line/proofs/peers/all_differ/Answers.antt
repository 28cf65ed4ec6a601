use Rattle.std.proofs.Common.{true, false, sym, ◌∙◌}
use Rattle.command_line.proofs.ArgumentLemmas.{differ_at, differ_nothing, differ_pairs}
use Rattle.command_line.proofs.peers.all_differ.Goals as goal

-- the number comes again
pub returns-then-contains-clause-value : goal.returns-then-contains-clause-value
returns-then-contains-clause-value c =
    let again = rw (c.split_at.ensures.back, c.index-peers-at.is) at
    (sym c.contains.ensures.value ∙ c.if-contains.true) in
    sym (c.loop-at.invariant ∙ differ_at c.args.peers.now c.loop-at.at _ c.loop-at-test.true true
    again)

pub loop-at-preserved : goal.loop-at-preserved
loop-at-preserved c =
    let once = rw (c.split_at.ensures.back, c.index-peers-at.is) at
    (sym c.contains.ensures.value ∙ c.if-contains.false) in
    c.loop-at.invariant ∙ differ_at c.args.peers.now c.loop-at.at _ c.loop-at-test.true false once

pub returns-clause-value : goal.returns-clause-value
returns-clause-value c = sym (c.loop-at.invariant
    ∙ differ_nothing c.args.peers.now c.loop-at.at c.loop-at-test.false)

pub returns-clause-distinct : goal.returns-clause-distinct
returns-clause-distinct c =
    λ _. differ_pairs c.args.peers.now (c.loop-at.invariant
    ∙ differ_nothing c.args.peers.now c.loop-at.at c.loop-at-test.false)
