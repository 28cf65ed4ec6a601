use Rattle.std.proofs.Common.{◌∙◌, ap, length}
use Rattle.std.proofs.lemmas.Result.{MatchResult-weaker}
use Rattle.answer.specs.Texts.{group_text}
use Rattle.answer.proofs.check.check_line.Goals as goal

pub returns-clause-group : goal.returns-clause-group
returns-clause-group g c =
    MatchResult-weaker c.group_line.result c.group_line.ensures
    (λ line told. record {
      nodes = c.in_ok-group.group;
      said = c.in_ok-group.ensures.said;
      group = c.nodes-count.ensures.group;
      text = told ∙ ap group_text (ap length c.nodes-count.ensures.nodes);
    })
    (λ fault _. tt)
