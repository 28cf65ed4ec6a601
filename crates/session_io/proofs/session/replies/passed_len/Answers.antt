use Rattle.std.proofs.Common.{◌∙◌, ◌≡◌, ◌-◌, ap, length, length-drop, arith}
use Rattle.session_io.proofs.RunLemmas.{scan_start, scan_more, scan_end}
use Rattle.session_io.proofs.session.replies.passed_len.Goals as goal

pub loop-head-init : goal.loop-head-init
loop-head-init c = (omega arith, scan_start c.args.limit c.args.bytes.now)

pub loop-head-preserved : goal.loop-head-preserved
loop-head-preserved c =
    let is = c.in-Some.ensures in
    let left : length c.split_at.result.1.now ≡ length c.args.bytes.now - c.loop-head.at =
    ap length c.split_at.ensures.back ∙ length-drop c.loop-head.at c.args.bytes.now in (
      omega (arith, c.loop-head.invariant.0, left, is.1),
      scan_more c.args.limit c.args.bytes.now c.loop-head.at c.split_at.result.1.now
          c.in-Some.head c.loop-head.invariant.1 c.split_at.ensures.back is.0 is.1 is.2,
    )

pub returns-clause-frames : goal.returns-clause-frames
returns-clause-frames c =
    scan_end c.args.limit c.args.bytes.now c.loop-head.at c.loop-head.invariant.1
