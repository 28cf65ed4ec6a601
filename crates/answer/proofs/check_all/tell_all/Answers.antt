use Rattle.std.proofs.Common.{◌∙◌, sym}
use Rattle.answer.proofs.AllFaultLemmas.{TellsAll-next, IsUnread-at, nothing_before}
use Rattle.answer.proofs.FileLemmas.{passed_on, SayInOrder-next}
use Rattle.answer.proofs.check_all.tell_all.Goals as goal

pub returns-in_err-take_file-clause-refused : goal.returns-in_err-take_file-clause-refused
returns-in_err-take_file-clause-refused g c =
    passed_on c.from_residual.result c.in_err-take_file.field-0.0 _ c.from_residual.ensures.1
    (IsUnread-at _ c.args.files.now c.loop-file.file-index _ c.in_err-take_file.field-0.0
    c.loop-file-test.true c.in_err-take_file.ensures.refused)

pub loop-file-preserved : goal.loop-file-preserved
loop-file-preserved g c =
    let before = c.loop-file.invariant in
    let took = c.in_ok-take_file.ensures in
    let told = took.told in
    record {
      told = TellsAll-next (g.O.Opener.text c.args.opener.now) c.args.files.now
          c.loop-file.file-index _ _ _ told.0 c.loop-file-test.true before.told told.1 told.2;
      said = λ none.
          let node = took.said none in
          rw node.2 (SayInOrder-next (g.O.Opener.text c.args.opener.now) c.args.files.now
          c.loop-file.file-index _ _ node.0 c.loop-file-test.true
          (before.said (nothing_before _ told.0 (sym told.2 ∙ none))) node.1);
    }
