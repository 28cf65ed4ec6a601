use Rattle.std.proofs.Common.{◌∙◌, sym, arith}
use Rattle.std.proofs.lemmas.Bool.Decides.{nat_tests}
use Rattle.client_state.proofs.RequestLemmas.{so_far_nothing, so_far_more, group_is}
use Rattle.client_state.proofs.client_message.is_group.Goals as goal

pub messages-init : goal.messages-init
messages-init c = so_far_nothing c.args.limit c.args.bytes.now

pub split_at-requires : goal.split_at-requires
split_at-requires c = c.messages.invariant.within

pub message_at-requires-clause-gathered : goal.message_at-requires-clause-gathered
message_at-requires-clause-gathered c = c.messages.invariant.fits

pub messages-smaller : goal.messages-smaller
messages-smaller c =
    let begins = c.in-Some.ensures.some in
    omega (arith, begins.1, c.split_at.ensures.back_len, c.messages.invariant.within)

pub messages-preserved : goal.messages-preserved
messages-preserved c =
    let begins = c.in-Some.ensures.some in
    so_far_more c.args.limit c.args.bytes.now c.messages.at c.in-Some.head _
    c.messages.invariant c.split_at.ensures.back begins.0 begins.1
    (sym c.message_at.ensures ∙ c.in-Gathered.is)

pub returns-in-Request : goal.returns-in-Request
returns-in-Request c whole =
    let begins = c.in-Some.ensures.some in
    group_is c.args.limit c.args.bytes.now c.messages.at c.in-Some.head _
    c.messages.invariant c.split_at.ensures.back begins.0 (grind (arith, nat_tests, whole))
    (sym c.message_at.ensures ∙ c.in-Request.is)
