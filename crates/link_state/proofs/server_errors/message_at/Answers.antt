use Rattle.std.proofs.Common.{arith, refl}
use Rattle.link_state.proofs.MessageLemmas.{none_short, none_wrong}
use Rattle.link_state.proofs.FirstErrorLemmas.{front_message}
use Rattle.link_state.proofs.server_errors.message_at.Goals as goal

pub returns-then-bytes-lt-HEAD-clause-none : goal.returns-then-bytes-lt-HEAD-clause-none
returns-then-bytes-lt-HEAD-clause-none c =
    none_short c.args.bytes.now (omega (arith, c.if-bytes-lt-HEAD.true))

pub returns-then-length-lt-FIELD-clause-none : goal.returns-then-length-lt-FIELD-clause-none
returns-then-length-lt-FIELD-clause-none c =
    none_wrong c.args.bytes.now c.length_in-length.result c.length_in-length.ensures
    c.then-length-lt-FIELD.either

pub returns-clause-found : goal.returns-clause-found
returns-clause-found c =
    front_message c.args.bytes.now c.split_at.result.0.now c.split_at.result.1.now _
    c.length_in-length.result (λ i. omega (arith, c.type_inv.bytes i)) c.if-bytes-lt-HEAD.false c.length_in-length.ensures
    c.if-length-lt-FIELD.false c.if-length-bytes.false c.split_at.ensures.front
    c.split_at.ensures.back refl
