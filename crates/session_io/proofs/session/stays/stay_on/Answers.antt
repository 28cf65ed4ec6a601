use Rattle.std.proofs.Common.{Ok, Err, ◌∙◌, ℕ, List, refl, sym, ap, subst}
use Rattle.pg_frames.specs.Passage.{start}
use Rattle.pg_frames.specs.Pending.{Pending}
use Rattle.client_state.specs.Session.{Session}
use Rattle.session_io.specs.Stay.{Stay}
use Rattle.session_io.proofs.StayLemmas.{staying_start, staying_unsent, staying_replied, staying_deserted, staying_on, asks_again, leaves_from, ends_of, goes_of, asks_of, asks_kept, wrote_same, wrote_some_same}
use Rattle.session_io.proofs.session.stays.stay_on.Goals as goal

pub loop-init : goal.loop-init
loop-init g c = (
  staying_start c.args.session.now.limit _ _ _ _ _ _ c.args.request c.args.link.now.flow.bytes
      c.args.cutter.now.bytes,
  refl,
  c.requires.between,
  c.requires.written,
  c.requires.link,
  c.requires.cutter,
)

pub returns-then-not-write_whole-clause-stay : goal.returns-then-not-write_whole-clause-stay
returns-then-not-write_whole-clause-stay g c =
    let sent = wrote_some_same _ _ _ _ c.as_slice.result.now c.loop.request c.as_slice.ensures
    (c.if-not-write_whole.ensures.stopped refl) in
    staying_unsent c.args.session.now.limit _ _ _ _ _ _ _ _ _ c.args.request
    c.args.link.now.flow.bytes c.args.cutter.now.bytes c.loop.request c.loop.link.flow.bytes
    c.loop.cutter.bytes c.lost.result c.loop.invariant.0 sent c.lost.ensures

pub returns-in-Some-pass_reply-clause-stay : goal.returns-in-Some-pass_reply-clause-stay
returns-in-Some-pass_reply-clause-stay g c =
    let sent = wrote_same _ _ _ _ c.as_slice.result.now c.loop.request c.as_slice.ensures
    (c.if-not-write_whole.ensures.whole refl) in
    let ends =
    ends_of c.args.session.now.limit _ _ _ _ _ _ _ _ _ _ _ c.loop.invariant.4
    c.in-Some-pass_reply.ensures.ends in
    let stays = staying_replied c.args.session.now.limit _ _ _ _ _ _ _ _ _ _ _ c.args.request
    c.args.link.now.flow.bytes c.args.cutter.now.bytes c.loop.request c.loop.link.flow.bytes
    c.loop.cutter.bytes c.in-Some-pass_reply.stayed c.loop.invariant.0 sent ends in (
      stays.0,
      stays.1,
      (
        stays.2.0,
        stays.2.1,
        subst (λ (xs : List ℕ). Stay c.args.session.now.limit c.args.request
            c.args.link.now.flow.bytes c.args.cutter.now.bytes stays.0 stays.2.0
            c.in-Some-pass_reply.stayed xs)
            (sym (ap (λ (p : Pending). p.bytes) c.take_back.ensures.cutter)) stays.2.2,
      ),
    )

pub returns-in-Some-pass_reply-clause-leaves : goal.returns-in-Some-pass_reply-clause-leaves
returns-in-Some-pass_reply-clause-leaves g c =
    leaves_from c.args.session.now.limit _ c.in-Some-pass_reply.stayed c.args.session.now
    c.take_back.new.session c.pass_reply.new.session c.pass_reply.new.link.flow c.loop.invariant.4
    (c.take_back.ensures.session ∙ c.loop.invariant.1) c.in-Some-pass_reply.ensures.leaves

pub loop-preserved : goal.loop-preserved
loop-preserved g c =
    let sent = wrote_same _ _ _ _ c.as_slice.result.now c.loop.request c.as_slice.ensures
    (c.if-not-write_whole.ensures.whole refl) in
    let none = c.in_default.is in
    let same = c.take_back.ensures.session ∙ c.loop.invariant.1 in
    let limit_is =
    ap (λ (s : Session). s.limit) (c.pass_reply.ensures.open none) ∙ ap
    (λ (s : Session). s.limit) same in
    let goes =
    goes_of c.args.session.now.limit _ _ _ _ _ _ _ _ _ _ c.loop.invariant.4
    (c.pass_reply.ensures.goes_on none) in
    let asks = asks_of c.args.session.now.limit _ _ _ _ _ c.loop.cutter.bytes (Ok c.in-Ok.next)
    c.next_request.new.cutter.bytes limit_is
    (asks_kept c.pass_reply.new.session.limit _ _ _ _ c.loop.cutter.bytes
    c.take_back.new.cutter.bytes (Ok c.in-Ok.next) c.next_request.new.cutter.bytes
    (ap (λ (p : Pending). p.bytes) c.take_back.ensures.cutter) c.in-Ok.ensures.asks) in
    let on = staying_on c.args.session.now.limit _ _ _ _ _ _ _ _ _ _ _ _ c.args.request
    c.args.link.now.flow.bytes c.args.cutter.now.bytes c.loop.request c.loop.link.flow.bytes
    c.loop.cutter.bytes c.in-Ok.next c.next_request.new.cutter.bytes c.pass_reply.new.link.flow
    (c.pass_reply.ensures.drained none ∙ ap start c.loop.invariant.4) c.loop.invariant.0 sent goes
    asks in (
      on.0,
      asks_again c.args.session.now c.take_back.new.session c.pass_reply.new.session
          c.next_request.new.session c.requires.session same (c.pass_reply.ensures.open none)
          c.in-Ok.ensures.session,
      on.1,
      on.2,
      on.3,
      c.in-Ok.ensures.limit ∙ ap (λ (p : Pending). p.limit) c.take_back.ensures.cutter
          ∙ c.loop.invariant.5,
    )

pub returns-in-Err-clause-stay : goal.returns-in-Err-clause-stay
returns-in-Err-clause-stay g c =
    let sent = wrote_same _ _ _ _ c.as_slice.result.now c.loop.request c.as_slice.ensures
    (c.if-not-write_whole.ensures.whole refl) in
    let none = c.in_default.is in
    let same = c.take_back.ensures.session ∙ c.loop.invariant.1 in
    let limit_is =
    ap (λ (s : Session). s.limit) (c.pass_reply.ensures.open none) ∙ ap
    (λ (s : Session). s.limit) same in
    let goes =
    goes_of c.args.session.now.limit _ _ _ _ _ _ _ _ _ _ c.loop.invariant.4
    (c.pass_reply.ensures.goes_on none) in
    let asks = asks_of c.args.session.now.limit _ _ _ _ _ c.loop.cutter.bytes (Err c.in-Err.reply)
    c.next_request.new.cutter.bytes limit_is
    (asks_kept c.pass_reply.new.session.limit _ _ _ _ c.loop.cutter.bytes
    c.take_back.new.cutter.bytes (Err c.in-Err.reply) c.next_request.new.cutter.bytes
    (ap (λ (p : Pending). p.bytes) c.take_back.ensures.cutter) c.in-Err.ensures.asks) in
    staying_deserted c.args.session.now.limit _ _ _ _ _ _ _ _ _ _ _ _ c.args.request
    c.args.link.now.flow.bytes c.args.cutter.now.bytes c.loop.request c.loop.link.flow.bytes
    c.loop.cutter.bytes c.in-Err.reply c.next_request.new.cutter.bytes c.loop.invariant.0 sent goes
    asks
