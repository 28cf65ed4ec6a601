use Rattle.std.proofs.Common.{refl}
use Rattle.answer.proofs.PrintingLemmas.{written_flushed, written_unflushed}
use Rattle.answer.proofs.answers.write.Goals as goal

pub returns-in-Ok : goal.returns-in-Ok
returns-in-Ok g c =
    let writes = c.if-not-write_whole.ensures.writes refl in
    written_flushed _ _ _ _ _ _ c.args.text.now c.args.status writes.0 _ writes.1
    (c.if-not-write_whole.ensures.whole refl) c.in-Ok.ensures.call c.in-Ok.ensures.bytes

pub returns-in-Err : goal.returns-in-Err
returns-in-Err g c =
    let writes = c.if-not-write_whole.ensures.writes refl in
    written_unflushed _ _ _ _ _ _ c.args.text.now c.args.status writes.0 c.in-Err.field-0 writes.1
    (c.if-not-write_whole.ensures.whole refl) c.in-Err.ensures.call c.in-Err.ensures.bytes
