use Rattle.std.proofs.Common.{[], length, drop, Ok, Err, true, refl, ap, arith, length-drop, length-take}
use Rattle.std.proofs.lemmas.List.{nil_from_length}
use Rattle.peer_forward.proofs.WritingLemmas.{writes_more, writes_failed, writes_last}
use Rattle.peer_forward.proofs.writing.write_rest.Goals as goal

pub returns-in_default : goal.returns-in_default
returns-in_default g c = writes_failed _ _ _ _ _ c.args.bytes.now c.piece.result.now
    c.loop-taken.taken (Err c.in_default.field-0) c.loop-taken.invariant.1 c.loop-taken-test.true
    c.piece.ensures tt c.in_default.ensures.call

pub returns-then-count-eq0 : goal.returns-then-count-eq0
returns-then-count-eq0 g c = writes_failed _ _ _ _ _ c.args.bytes.now c.piece.result.now
    c.loop-taken.taken (Ok c.in-Ok.count) c.loop-taken.invariant.1 c.loop-taken-test.true
    c.piece.ensures c.if-count-eq0.true c.in-Ok.ensures.call

pub loop-taken-preserved : goal.loop-taken-preserved
loop-taken-preserved g c = (
  omega (
    arith,
    c.in-Ok.ensures.bound,
    ap length c.piece.ensures,
    length-take 16384 (drop c.loop-taken.taken c.args.bytes.now),
    length-drop c.loop-taken.taken c.args.bytes.now,
  ),
  writes_more _ _ _ _ _ c.args.bytes.now c.piece.result.now c.loop-taken.taken c.in-Ok.count
      c.loop-taken.invariant.1 c.loop-taken-test.true c.piece.ensures
      (omega (arith, c.if-count-eq0.false)) c.in-Ok.ensures.bound c.in-Ok.ensures.call,
)

pub returns : goal.returns
returns g c =
    let none = nil_from_length (drop c.loop-taken.taken c.args.bytes.now)
    (omega (arith, length-drop c.loop-taken.taken c.args.bytes.now, c.loop-taken-test.false)) in
    writes_last _ _ _ _ _ c.args.bytes.now _ [] true c.loop-taken.invariant.1 refl (none, refl)
