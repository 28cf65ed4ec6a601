use Rattle.std.proofs.Common.{◌∙◌, [], refl, ap}
use Rattle.session_io.proofs.EndLemmas.{unfit_ends}
use Rattle.session_io.proofs.PassingLemmas.{passing_start, passing_more, passing_ends, passing_goes_on, passing_finished, unfit_enough}
use Rattle.pg_frames.specs.Passage.{start}
use Rattle.session_io.proofs.StayLemmas.{leaves_from, leaves_some}
use Rattle.session_io.proofs.session.replies.pass_reply.Goals as goal

pub loop-init : goal.loop-init
loop-init g c = (
  passing_start _ _ _ _ _ _ _ c.args.link.now.flow refl c.requires.between c.requires.written,
  refl,
)

pub read_on-requires-clause-handed : goal.read_on-requires-clause-handed
read_on-requires-clause-handed g c =
    let so_far = c.loop.invariant.0 in
    (_, _, _, c.in-More.ensures.handed _ _ _ so_far.out)

pub returns-in-Some-read_on-clause-ends : goal.returns-in-Some-read_on-clause-ends
returns-in-Some-read_on-clause-ends g c =
    let so_far = c.loop.invariant.0 in
    let out = c.in-More.ensures.handed _ _ _ so_far.out in
    let ends = c.in-Some-read_on.ensures.ends in
    passing_ends _ _ _ _ _ _ _ _ _ _ _ c.args.link.now.flow.bytes _ _ c.in-Some-read_on.stayed
    so_far
    ends.0 ends.2.0 ends.1 ends.2.1 (ends.2.2 _ _ _ out)

pub loop-preserved : goal.loop-preserved
loop-preserved g c =
    let so_far = c.loop.invariant.0 in
    let out = c.in-More.ensures.handed _ _ _ so_far.out in (
      passing_more _ _ _ _ _ _ _ _ _ _ _ c.args.link.now.flow.bytes _ _ _ _ _ so_far out
          c.in-More.ensures.dry (c.read_on.ensures.sound c.in_default.is)
          (c.read_on.ensures.more c.in_default.is),
      c.read_on.ensures.session c.in_default.is ∙ c.in-More.ensures.session ∙ c.loop.invariant.1,
    )

pub finish-requires-clause-handed : goal.finish-requires-clause-handed
finish-requires-clause-handed g c =
    let so_far = c.loop.invariant.0 in
    (_, _, _, c.in-Ready.ensures.handed _ _ _ so_far.out)

pub returns-in-Ready-clause-goes_on : goal.returns-in-Ready-clause-goes_on
returns-in-Ready-clause-goes_on g c none =
    let so_far = c.loop.invariant.0 in
    let last = c.in-Ready.ensures.handed _ _ _ so_far.out in
    let goes = c.finish.ensures.goes_on none in
    passing_goes_on _ _ _ _ _ _ _ _ _ _ _ c.args.link.now.flow.bytes _ _ so_far [] goes.0 refl
    goes.1
    (goes.2 _ _ _ last)

pub returns-in-Ready-clause-ends : goal.returns-in-Ready-clause-ends
returns-in-Ready-clause-ends g c =
    let so_far = c.loop.invariant.0 in
    let last = c.in-Ready.ensures.handed _ _ _ so_far.out in
    passing_finished _ _ _ _ _ _ _ _ _ _ c.args.link.now.flow.bytes _ _ _ c.in-Ready.status
    c.finish.result so_far last c.finish.ensures.ends

pub refuse-requires : goal.refuse-requires
refuse-requires g c =
    let so_far = c.loop.invariant.0 in
    unfit_enough _ _ _ c.in-Refused.error c.hand_out.new.flow
    (c.in-Refused.ensures.handed _ _ _ so_far.out)

pub returns-in-Refused-clause-ends : goal.returns-in-Refused-clause-ends
returns-in-Refused-clause-ends g c =
    let so_far = c.loop.invariant.0 in
    let unfit = c.in-Refused.ensures.handed _ _ _ so_far.out in
    let told = c.refuse.ensures in
    passing_ends _ _ _ _ _ _ _ _ _ _ _ c.args.link.now.flow.bytes _ _ c.refuse.result so_far []
    told.0
    refl told.1 (unfit_ends _ _ _ c.in-Refused.error c.hand_out.new.flow c.refuse.result told.0
    unfit
    told.2)

pub returns-in-Some-read_on-clause-leaves : goal.returns-in-Some-read_on-clause-leaves
returns-in-Some-read_on-clause-leaves g c =
    let so_far = c.loop.invariant.0 in
    let out = c.in-More.ensures.handed _ _ _ so_far.out in
    leaves_from c.args.link.now.flow.limit _ c.in-Some-read_on.stayed c.args.session.now
    c.hand_out.new.session c.read_on.new.session c.read_on.new.link.flow out.limit_is
    (c.in-More.ensures.session ∙ c.loop.invariant.1) c.in-Some-read_on.ensures.leaves

pub returns-in-Ready-clause-drained : goal.returns-in-Ready-clause-drained
returns-in-Ready-clause-drained g c none =
    let so_far = c.loop.invariant.0 in
    let last = c.in-Ready.ensures.handed _ _ _ so_far.out in
    c.finish.ensures.drained none ∙ ap start last.limit_is

pub returns-in-Ready-clause-leaves : goal.returns-in-Ready-clause-leaves
returns-in-Ready-clause-leaves g c =
    let so_far = c.loop.invariant.0 in
    let last = c.in-Ready.ensures.handed _ _ _ so_far.out in
    leaves_some c.args.link.now.flow.limit _ c.finish.result c.args.session.now
    c.hand_out.new.session c.finish.new.session c.finish.new.flow last.limit_is
    (c.in-Ready.ensures.session ∙ c.loop.invariant.1) c.finish.ensures.leaves
