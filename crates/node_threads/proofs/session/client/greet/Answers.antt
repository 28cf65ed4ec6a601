use Rattle.std.proofs.Common.{◌≡◌, rules, inr, Some, refl, subst}
use Rattle.startup.specs.Replies.{login_reporting}
use Rattle.session_io.specs.StreamCalls.{WroteSome}
use Rattle.node_threads.proofs.session.client.greet.Goals as goal

pub returns : goal.returns
returns g c =
    let text : c.as_slice.result.now
    ≡ login_reporting c.args.reports.now (Some c.args.pass.now.key) = search rules in
    let calls = c.if-write_whole.ensures.stopped refl in (
      calls.0,
      calls.1,
      inr (subst (λ xs. WroteSome xs calls.0) text calls.2, c.nothing.ensures),
    )
