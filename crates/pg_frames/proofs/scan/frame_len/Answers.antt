use Rattle.std.proofs.Common.{ℕ, IsTrue, subst, arith}
use Rattle.pg_frames.specs.FrameText.{is_type}
use Rattle.pg_frames.proofs.TextLemmas.{no_frame-short, no_frame-part, no_frame-fault}
use Rattle.pg_frames.proofs.CutLemmas.{begins_frame}
use Rattle.pg_frames.proofs.scan.frame_len.Goals as goal

pub returns-in-Err : goal.returns-in-Err
returns-in-Err c = no_frame-fault _ c.args.bytes.now _ c.in-Err.ensures.fault

pub returns-in-Ok-None : goal.returns-in-Ok-None
returns-in-Ok-None c =
    let says = rw c.in-Ok-None.field-0-is at c.in-Ok-None.ensures in
    no_frame-short _ c.args.bytes.now says.short

pub returns-then-bytes-len : goal.returns-then-bytes-len
returns-then-bytes-len c =
    let says = rw c.in-Ok-Some.field-0-is at c.in-Ok-Some.ensures in
    no_frame-part _ c.args.bytes.now (omega (arith, says.header.number))

pub returns-else-bytes-len : goal.returns-else-bytes-len
returns-else-bytes-len c =
    let says = rw c.in-Ok-Some.field-0-is at c.in-Ok-Some.ensures in
    let header = says.header in
    let type_byte = subst (λ (k : ℕ). IsTrue (is_type k)) header.kind header.type_byte in
    begins_frame _ c.args.bytes.now _ (λ i. omega (arith, c.type_inv.bytes i)) header.whole type_byte
    header.number header.low header.high header.fits c.if-bytes-len.false
