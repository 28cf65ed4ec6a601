use Rattle.answer.proofs.FileLemmas.{passed_on, SayInOrder-next, IsCheckFault-at}
use Rattle.answer.proofs.check.settings_of.Goals as goal

-- the first file that is refused
pub returns-in_err-node-clause-refused : goal.returns-in_err-node-clause-refused
returns-in_err-node-clause-refused g c =
    passed_on c.from_residual.result c.in_err-node.field-0.0 _ c.from_residual.ensures.1
    (IsCheckFault-at _ c.args.files.now c.loop-file.file-index _
    c.loop-file.nodes.items c.in_err-node.field-0.0 c.loop-file-test.true c.loop-file.invariant
    c.in_err-node.ensures.refused)

pub loop-file-preserved : goal.loop-file-preserved
loop-file-preserved g c =
    rw c.in-Ok.ensures.items
    (SayInOrder-next (g.O.Opener.text c.args.opener.now) c.args.files.now c.loop-file.file-index _
    c.loop-file.nodes.items c.in_ok-node.node c.loop-file-test.true c.loop-file.invariant
    c.in_ok-node.ensures.said)
