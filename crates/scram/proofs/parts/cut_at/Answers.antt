use Rattle.std.proofs.Common.{sym, subst, List, ℕ}
use Rattle.scram.specs.Messages.{Lacks}
use Rattle.scram.proofs.PartsLemmas.{always_none, no_cut, cut_here, parts_of, respelled}
use Rattle.scram.proofs.parts.cut_at.Goals as goal

pub returns-in_err-end-clause-none : goal.returns-in_err-end-clause-none
returns-in_err-end-clause-none c =
    always_none c.from_residual.result (no_cut c.args.byte c.args.text.now c.place_of.result c.place_of.ensures.place c.in_err-end.was)

pub returns-clause-found : goal.returns-clause-found
returns-clause-found c =
    let cut = cut_here c.args.byte c.args.text.now c.in_ok-end.end c.place_of.result c.place_of.ensures.place c.in_ok-end.was in
    let parts = parts_of c.args.byte c.args.text.now c.in_ok-end.end cut in
    (subst (λ (xs : List ℕ). Lacks c.args.byte xs) (sym parts.0) cut.lacks, respelled c.args.byte c.args.text.now cut.front cut.after _ _ cut.spelled parts.0 parts.1)
