use Rattle.std.proofs.Common.{List, ℕ, subst, arith}
use Rattle.pg_frames.specs.Ready.{BeginsFrame}
use Rattle.pg_frames.proofs.CutLemmas.{TakesFirst-fits, StandsFirst-more}
use Rattle.pg_frames.proofs.scan.whole_len.Goals as goal

pub loop-len-smaller : goal.loop-len-smaller
loop-len-smaller c =
    let fits = TakesFirst-fits _ _ _ c.in-Some.ensures in
    omega (arith, fits.0, fits.1, c.split_at.ensures.back_len)

pub loop-len-preserved : goal.loop-len-preserved
loop-len-preserved c =
    let next =
    subst (λ (xs : List ℕ). BeginsFrame c.args.limit xs c.in-Some.len) c.split_at.ensures.back
    c.in-Some.ensures in
    StandsFirst-more _ _ _ _ c.loop-len.invariant next
