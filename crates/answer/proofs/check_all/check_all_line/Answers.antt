use Rattle.std.proofs.Common.{◌∙◌, ap, length, map, subst, sym}
use Rattle.std.proofs.lemmas.Result.{MatchResult-weaker}
use Rattle.answer.specs.Files.{SayInOrder}
use Rattle.answer.specs.Texts.{group_text}
use Rattle.answer.proofs.AllFaultLemmas.{empty_text, whole_group, whole_unread}
use Rattle.answer.proofs.FileLemmas.{passed_on}
use Rattle.answer.proofs.check_all.check_all_line.Goals as goal

-- a file can't be read
pub returns-in_err-found-clause-refused : goal.returns-in_err-found-clause-refused
returns-in_err-found-clause-refused g c =
    passed_on c.from_residual.result c.in_err-found.field-0.0 _ c.from_residual.ensures.1
    (whole_unread _ _ c.in_err-found.field-0.0 c.in_err-found.ensures.refused)

-- the files have no faults, and make no group
pub returns-in_err-group-clause-refused : goal.returns-in_err-group-clause-refused
returns-in_err-group-clause-refused g c =
    let nothing = empty_text c.in_ok-found.found.report
    (sym c.is_empty.ensures ∙ c.if-not-is_empty.false) in
    passed_on c.from_residual-in_err-group.result c.in_err-group.field-0.0 _ c.from_residual-in_err-group.ensures.1
    (whole_group _ _ _ c.in_err-group.field-0.0 (c.in_ok-found.ensures.said nothing)
    c.in_err-group.ensures.refused)

pub returns-clause-group : goal.returns-clause-group
returns-clause-group g c =
    let nothing = empty_text c.in_ok-found.found.report
    (sym c.is_empty.ensures ∙ c.if-not-is_empty.false) in
    MatchResult-weaker c.group_line.result c.group_line.ensures
    (λ line told. record {
      nodes = c.in_ok-group.group;
      said = subst (SayInOrder (g.O.Opener.text c.args.opener.now)
          (map (λ file. file.now) c.args.files.now)) (sym c.in_ok-group.ensures.group)
          (c.in_ok-found.ensures.said nothing);
      group = c.nodes-count.ensures.group;
      text = told ∙ ap group_text (ap length c.nodes-count.ensures.nodes);
    })
    (λ fault _. tt)
