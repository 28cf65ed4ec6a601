use Rattle.std.proofs.Common.{[], Ok, Err, true, false, refl, arith}
use Rattle.std.proofs.lemmas.List.{drop_all}
use Rattle.peer_forward.proofs.WritingLemmas.{first_failed, first_some, writes_wrote}
use Rattle.peer_forward.proofs.writing.write_whole.Goals as goal

pub returns-then-len-eq0 : goal.returns-then-len-eq0
returns-then-len-eq0 g c =
    let calls = c.write_rest.ensures in
    record {
      whole = writes_wrote _ _ _ _ c.args.bytes.now c.write_rest.result true calls;
      stopped = writes_wrote _ _ _ _ c.args.bytes.now c.write_rest.result false calls;
      writes = calls;
    }

pub returns-in_default : goal.returns-in_default
returns-in_default g c =
    let calls = first_failed _ _ _ _ c.args.bytes.now (Err c.in_default.field-0)
    (omega (arith, c.if-len-eq0.false)) c.if-len-gt-MAX_WRITE.false tt
    c.in_default.ensures.call in
    record {
      whole = writes_wrote _ _ _ _ c.args.bytes.now false true calls;
      stopped = writes_wrote _ _ _ _ c.args.bytes.now false false calls;
      writes = calls;
    }

pub returns-then-count-len : goal.returns-then-count-len
returns-then-count-len g c =
    let none = drop_all c.in-Ok.count c.args.bytes.now (omega (arith, c.if-count-len.true)) in
    let calls = first_some _ _ _ _ _ c.args.bytes.now c.in-Ok.count true
    c.if-len-gt-MAX_WRITE.false
    (omega (arith, c.if-len-eq0.false, c.if-count-len.true)) c.in-Ok.ensures.bound
    c.in-Ok.ensures.call ([], refl, (none, refl)) in
    record {
      whole = writes_wrote _ _ _ _ c.args.bytes.now true true calls;
      stopped = writes_wrote _ _ _ _ c.args.bytes.now true false calls;
      writes = calls;
    }

pub returns-then-count-eq0 : goal.returns-then-count-eq0
returns-then-count-eq0 g c =
    let calls = first_failed _ _ _ _ c.args.bytes.now (Ok c.in-Ok.count)
    (omega (arith, c.if-len-eq0.false)) c.if-len-gt-MAX_WRITE.false c.if-count-eq0.true
    c.in-Ok.ensures.call in
    record {
      whole = writes_wrote _ _ _ _ c.args.bytes.now false true calls;
      stopped = writes_wrote _ _ _ _ c.args.bytes.now false false calls;
      writes = calls;
    }

pub returns : goal.returns
returns g c =
    let rest = c.write_rest-2.ensures in
    let calls = first_some _ _ _ _ _ c.args.bytes.now c.in-Ok.count c.write_rest-2.result
    c.if-len-gt-MAX_WRITE.false (omega (arith, c.if-count-eq0.false)) c.in-Ok.ensures.bound
    c.in-Ok.ensures.call (rest.0, rest.1, rw c.split_at.ensures.back at rest.2) in
    record {
      whole = writes_wrote _ _ _ _ c.args.bytes.now c.write_rest-2.result true calls;
      stopped = writes_wrote _ _ _ _ c.args.bytes.now c.write_rest-2.result false calls;
      writes = calls;
    }
