use Rattle.std.proofs.Common.{subst, sym, List, ℕ}
use Rattle.pg_frames.specs.Ready.{IsReady}
use Rattle.pg_frames.proofs.CutLemmas.{IsReady-none}
use Rattle.pg_frames.proofs.cutter.Cutter.with_limit.Goals as goal

pub invariant_of-result : goal.invariant_of-result
invariant_of-result c =
    subst (λ (xs : List ℕ). IsReady c.args.limit xs 0) (sym c.new.ensures.items)
    (IsReady-none c.args.limit)
