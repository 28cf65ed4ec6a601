use Rattle.std.proofs.Common.{◌≡◌, ◌<◌, ◌∙◌, true, false, length, sym, arith}
use Rattle.std.proofs.KnownBytes.{Appends-kept}
use Rattle.answer.proofs.PrintingLemmas.{stops_failed, stops_full, stops_tired, writes_again, writes_more}
use Rattle.answer.proofs.WritingLemmas.{takes_more, part_taken}
use Rattle.answer.proofs.answers.write_whole.Goals as goal
use Rattle.answer.proofs.answers.write_whole.Goals.{in-Ok+else-count-eq0, in-Err+else-not-is_interrupted}

pub loop-preserved : goal.loop-preserved
loop-preserved g c =
    let kept = c.loop.invariant in
    let left = c.split_at.ensures.back_len in
    let room = c.if-taken-bytes.false in
    let some : 0 < length c.split_at.result.1.now = omega (arith, left, room) in
    elim c.match-write_once.branch [
      | in-Ok+else-count-eq0 w ↦ rw w.taken-is (
        (let bound = w.in-Ok.ensures.bound in omega (arith, bound, left)),
        takes_more _ _ _ c.args.bytes.now c.split_at.result.1.now c.loop.taken w.in-Ok.count
            c.split_at.ensures.back kept.1 w.in-Ok.ensures.bytes,
        writes_more _ _ _ _ _ _ c.args.bytes.now c.split_at.result.1.now c.loop.taken w.in-Ok.count
            c.loop.counter kept.2 c.split_at.ensures.back some (omega (arith, w.if-count-eq0.false))
            w.in-Ok.ensures.call,
      )
      | in-Err+else-not-is_interrupted w ↦ rw w.taken-is (
        kept.0,
        Appends-kept _ _ _ _ kept.1 w.in-Err.ensures.bytes,
        writes_again _ _ _ _ _ _ c.args.bytes.now _ c.split_at.result.1.now w.in-Err.error
            c.loop.counter kept.2 c.split_at.ensures.back some
            (w.is_interrupted.ensures.0 w.if-not-is_interrupted.false) w.in-Err.ensures.call,
      )
    ]

pub returns-clause-part : goal.returns-clause-part
returns-clause-part g c = part_taken _ _ c.args.bytes.now c.loop.taken c.loop.invariant.1

pub returns-clause-stops : goal.returns-clause-stops
returns-clause-stops g c _ =
    let all = c.loop-test.false in
    let most = c.loop.auto.counter-end in
    stops_tired _ _ _ _ _ c.args.bytes.now _ c.loop.counter c.loop.invariant.2
    (omega (arith, all, most))

pub returns-then-count-eq0-clause-stops : goal.returns-then-count-eq0-clause-stops
returns-then-count-eq0-clause-stops g c _ =
    let left = c.split_at.ensures.back_len in
    let room = c.if-taken-bytes.false in
    stops_full _ _ _ _ _ _ c.args.bytes.now _ c.split_at.result.1.now c.loop.counter
    c.loop.invariant.2 c.split_at.ensures.back (omega (arith, left, room))
    (rw c.if-count-eq0.true at c.in-Ok.ensures.call)

pub returns-then-not-is_interrupted-clause-stops : goal.returns-then-not-is_interrupted-clause-stops
returns-then-not-is_interrupted-clause-stops g c _ =
    let left = c.split_at.ensures.back_len in
    let room = c.if-taken-bytes.false in
    stops_failed _ _ _ _ _ _ c.args.bytes.now _ c.split_at.result.1.now c.in-Err.error
    c.loop.counter c.loop.invariant.2 c.split_at.ensures.back (omega (arith, left, room))
    (λ is. let no : false ≡ true = sym c.if-not-is_interrupted.true ∙ c.is_interrupted.ensures.1 is in
    absurd (cc))
    c.in-Err.ensures.call
