use Rattle.std.proofs.Common.{◌∙◌, List, ℕ, sym, ap, subst}
use Rattle.pg_frames.specs.Ready.{IsReady}
use Rattle.pg_frames.proofs.CutLemmas.{IsReady-none}
use Rattle.pg_frames.proofs.cutter.Cutter.take_memory.Goals as goal

pub invariant_of-self : goal.invariant_of-self
invariant_of-self c =
    subst (λ (xs : List ℕ). IsReady c.self.inside.limit xs 0)
    (sym (ap (λ s. s.items) c.replace-store.ensures.after ∙ c.new.ensures.items))
    (IsReady-none c.self.inside.limit)
