use Rattle.std.proofs.Common.{refl}
use Rattle.session_io.proofs.LoginLemmas.{come_few, coming_more, coming_stopped, failed_quietly, key_found}
use Rattle.session_io.proofs.login.server.read_login.Goals as goal

pub returns-in-Done-clause-reads : goal.returns-in-Done-clause-reads
returns-in-Done-clause-reads g c =
    let so_far = c.loop.invariant in
    key_found _ _ _ _ _ c.loop.place c.loop.login c.loop.link.flow c.take_pieces.new.flow
    c.in-Done.key
    c.key_at_end.result so_far (c.in-Done.ensures.takes _ so_far.stream so_far.come)
    c.key_at_end.ensures.up

pub returns-in-Done-clause-stops : goal.returns-in-Done-clause-stops
returns-in-Done-clause-stops g c =
    failed_quietly _ _ _ _ _ _ c.key_at_end.result c.key_at_end.ensures.behind

pub returns-in-Stopped-clause-stops : goal.returns-in-Stopped-clause-stops
returns-in-Stopped-clause-stops g c =
    let so_far = c.loop.invariant in
    coming_stopped _ _ _ _ _ c.loop.place c.loop.login c.loop.link.flow c.take_pieces.new.flow
    c.in-Stopped.stop so_far (c.in-Stopped.ensures.takes _ so_far.stream so_far.come)

pub read_more-requires-clause-few : goal.read_more-requires-clause-few
read_more-requires-clause-few g c =
    let so_far = c.loop.invariant in
    come_few _ so_far.stream c.in-More.now c.take_pieces.new.login c.take_pieces.new.flow
    (c.in-More.ensures.takes _ so_far.stream so_far.come)

pub loop-preserved : goal.loop-preserved
loop-preserved g c =
    let so_far = c.loop.invariant in
    coming_more _ _ _ _ _ _ c.loop.place c.in-More.now c.loop.login c.take_pieces.new.login
    c.loop.link.flow c.take_pieces.new.flow c.read_more.new.link.flow so_far
    (c.in-More.ensures.takes _ so_far.stream so_far.come) (c.if-not-read_more.ensures refl)
