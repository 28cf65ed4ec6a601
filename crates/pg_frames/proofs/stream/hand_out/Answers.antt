use Rattle.std.proofs.Common.{◌∙◌, ap, arith, length-append, length, refl}
use Rattle.pg_frames.specs.FrameText.{text}
use Rattle.pg_frames.proofs.TextLemmas.{length-text}
use Rattle.pg_frames.proofs.CutLemmas.{Handed-none, Handed-next}
use Rattle.pg_frames.proofs.stream.hand_out.Goals as goal

pub ready-init : goal.ready-init
ready-init c = (Handed-none _ c.args.cutter.now.bytes c.args.frames.now.items, refl)

pub ready-smaller : goal.ready-smaller
ready-smaller c =
    let says = rw c.in-Ok-Some.field-0-is at c.in-Ok-Some.ensures in
    let next = says.frame in
    omega (
      arith,
      ap length next.1,
      length-append (text c.in-Ok-Some.frame) c.next.new.self.bytes,
      length-text c.in-Ok-Some.frame,
    )

pub ready-preserved : goal.ready-preserved
ready-preserved c =
    let says = rw c.in-Ok-Some.field-0-is at c.in-Ok-Some.ensures in
    let next = says.frame in (
      Handed-next _ _ _ _ _ _ c.in-Ok-Some.frame _ _ c.ready.invariant.1 c.ready.invariant.0 next.0
          next.1 c.in_ok-push-in-Ok-Some.ensures.items,
      says.limit ∙ c.ready.invariant.1,
    )
