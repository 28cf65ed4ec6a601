use Rattle.std.proofs.Common.{◌∙◌, List, ℕ, ◌+◌, sym, ap, subst, drop}
use Rattle.pg_frames.specs.Ready.{IsReady}
use Rattle.pg_frames.proofs.CutLemmas.{IsReady-more}
use Rattle.pg_frames.proofs.cutter.ready_after.Goals as goal

pub returns : goal.returns
returns c old more is ready =
    let rest = c.split_at.ensures.back
    ∙ ap (drop c.args.ready) (c.as_slice.ensures.value ∙ is) in
    subst (λ (xs : List ℕ). IsReady c.args.limit xs (c.args.ready + c.whole_len.result)) (sym is)
    (IsReady-more c.args.limit old more c.args.ready c.whole_len.result ready
    (subst (λ (xs : List ℕ). IsReady c.args.limit xs c.whole_len.result) rest c.whole_len.ensures))
