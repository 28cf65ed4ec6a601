use Rattle.std.proofs.Common.{rules, Ok, subst}
use Rattle.startup.specs.FirstPacket.{Answers}
use Rattle.startup.proofs.AnswerLemmas.{told_only}
use Rattle.startup.proofs.opening.Opening.read.Goals as goal

pub returns-in_err-first-clause-only : goal.returns-in_err-first-clause-only
returns-in_err-first-clause-only c =
    let found : Answers c.args.self.now c.args.so_far.now c.args.at_end c.from_residual.result = search rules in
    told_only _ _ _ _ found

pub returns-clause-only : goal.returns-clause-only
returns-clause-only c =
    let found : Answers c.args.self.now c.args.so_far.now c.args.at_end (Ok c.in_ok-first.first) = subst (λ r. Answers c.args.self.now c.args.so_far.now c.args.at_end r) c.in_ok-first.was c.judge.ensures in
    told_only _ _ _ _ found
