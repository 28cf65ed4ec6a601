use Rattle.std.proofs.Common.{ap}
use Rattle.session_io.proofs.EndLemmas.{idle_status, open_status, unknown_status, idle_ends, open_calls, open_goes_on, unclear_ends}
use Rattle.session_io.proofs.session.replies.finish.Goals as goal

pub returns-in-Release-clause-ends : goal.returns-in-Release-clause-ends
returns-in-Release-clause-ends g c =
    let one = ap (λ s. s.outstanding) c.requires.session in
    let idle = idle_status c.args.session.now c.args.status _ one c.in-Release.ensures.act in
    let told = c.finish_idle.ensures.told in (
      told.0,
      told.1,
      λ limit stream written last. idle_ends limit stream written c.args.status c.args.flow.now
          told.0 _ idle
          told.2 last,
    )

pub returns-in-ToClient-clause-goes_on : goal.returns-in-ToClient-clause-goes_on
returns-in-ToClient-clause-goes_on g c none =
    let one = ap (λ s. s.outstanding) c.requires.session in
    let is_open = open_status c.args.session.now c.args.status _ one c.in-ToClient.ensures.act in
    open_goes_on _ _ _ _ c.args.status c.args.flow.now c.finish_in_transaction.result is_open
    c.finish_in_transaction.ensures.told none

pub returns-in-ToClient-clause-ends : goal.returns-in-ToClient-clause-ends
returns-in-ToClient-clause-ends g c =
    let one = ap (λ s. s.outstanding) c.requires.session in
    let is_open = open_status c.args.session.now c.args.status _ one c.in-ToClient.ensures.act in
    open_calls _ _ _ _ c.args.status c.args.flow.now c.finish_in_transaction.result is_open
    c.finish_in_transaction.ensures.told

pub returns-in-Close-clause-ends : goal.returns-in-Close-clause-ends
returns-in-Close-clause-ends g c =
    let one = ap (λ s. s.outstanding) c.requires.session in
    let is = unknown_status c.args.session.now c.args.status _ one c.in-Close.ensures.act in
    let told = c.refuse.ensures in (
      told.0,
      told.1,
      λ limit stream written last. unclear_ends limit stream written c.args.status c.args.flow.now
          _ _ told.0
          is.0 is.1 told.2 last,
    )
