use Rattle.std.proofs.lemmas.Result.{IfOk-weaker}
use Rattle.node_core.specs.View.{NodeView}
use Rattle.console.specs.Rows.{Answers}
use Rattle.node_threads.proofs.ConsoleLemmas.{reply_fixed, reply_shown, answers_some}
use Rattle.node_threads.proofs.session.admin_replies.reply.Goals as goal

pub returns-in-Some-clause-reply : goal.returns-in-Some-clause-reply
returns-in-Some-clause-reply g c settings is =
    reply_fixed _ c.settings.result.now settings c.args.caller.now c.args.query.now
    c.words-words.result c.in-Some.frames.items c.settings.ensures is c.words-words.ensures.read
    (answers_some (λ frames. (view : NodeView) → Answers c.args.query.now view c.words-words.result
    c.settings.result.now frames.items) _ _ c.in-Some.is c.in_ok-frames.ensures.rows)

pub returns-clause-reply : goal.returns-clause-reply
returns-clause-reply g c =
    IfOk-weaker c.rows.result _ _ (λ frames answers settings is.
    reply_shown _ c.settings-2.result.now settings c.args.caller.now c.args.query.now
    c.words-words.result c.in_ok-view.view frames.items c.settings-2.ensures is
    c.words-words.ensures.read
    (record {
      whole = c.in_ok-view.ensures.whole;
      node = c.in_ok-view.ensures.of;
      since = c.in_ok-view.ensures.numbers;
    })
    answers) c.rows.ensures
