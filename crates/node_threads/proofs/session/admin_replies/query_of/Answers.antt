use Rattle.std.proofs.Common.{rules}
use Rattle.console.proofs.Texts.{answers_unread}
use Rattle.node_threads.specs.ConsoleSession.{IsTextOf}
use Rattle.node_threads.proofs.session.admin_replies.query_of.Goals as goal

pub returns-in-Err-clause-some : goal.returns-in-Err-clause-some
returns-in-Err-clause-some c =
    let is : IsTextOf c.args.body.now c.in_ok-last.text.now = search rules in (
      c.in_ok-last.text.now,
      is,
      λ view words settings frames.
          answers_unread c.in_ok-last.text.now view words settings frames c.in-Err.ensures.cases.0,
    )
