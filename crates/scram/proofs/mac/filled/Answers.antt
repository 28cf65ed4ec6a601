use Rattle.std.proofs.Common.{◌++◌, List, ℕ, ap, ◌∙◌, length, replicate, drop}
use Rattle.std.proofs.lemmas.List.{drop-replicate}
use Rattle.scram.proofs.mac.filled.Goals as goal

pub returns : goal.returns
returns c =
    ap (λ (front : List ℕ). front ++ drop (length c.args.short.now) (replicate 64 0)) c.copy_from_slice.ensures.after
    ∙ ap (λ (rest : List ℕ). c.args.short.now ++ rest) (drop-replicate (length c.args.short.now) 64 0)
