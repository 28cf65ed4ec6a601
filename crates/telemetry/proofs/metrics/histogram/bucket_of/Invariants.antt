use Rattle.std.proofs.Common.{ℕ, ◌<◌, slice_index}
use Rattle.telemetry.proofs.metrics.histogram.bucket_of.Given as goal

-- the bounds so far are below the value
abbrev pub invariant-loop-place : goal.invariant-loop-place
invariant-loop-place l = (k : ℕ) → k < l.place → slice_index l.bounds k < l.value
