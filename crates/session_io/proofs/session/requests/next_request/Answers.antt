use Rattle.std.proofs.Common.{◌∙◌, ap}
use Rattle.client_state.specs.Session.{Session}
use Rattle.session_io.specs.declared.session.requests.Found.TheVariants.{More, Request, End}
use Rattle.session_io.proofs.AskingLemmas.{awaiting_start, awaiting_more, awaiting_read, asks_request, asks_end, asks_quit, finds_of, quits_of, read_of}
use Rattle.session_io.proofs.session.requests.next_request.Goals as goal

pub loop-init : goal.loop-init
loop-init g c = (
  awaiting_start c.args.session.now.limit _ _ _ c.args.session.now.leased
      c.args.session.now.database c.args.cutter.now.bytes _ c.requires.session,
  c.requires.limit,
)

pub returns-in-Request-clause-asks : goal.returns-in-Request-clause-asks
returns-in-Request-clause-asks g c =
    let so_far = c.loop.invariant.0 in
    let finds =
    finds_of c.args.session.now.limit c.loop.session c.loop.cutter.bytes (Request
    c.in-Request.request)
    c.cut_request.new.session c.cut_request.new.cutter.bytes
    (ap (λ (s : Session). s.limit) so_far.session_is) c.in-Request.ensures.finds in
    (asks_request c.args.session.now.limit _ _ _ _ c.args.session.now.leased
    c.args.session.now.database c.args.cutter.now.bytes c.loop.session c.cut_request.new.session
    c.loop.cutter.bytes c.cut_request.new.cutter.bytes c.in-Request.request so_far finds).0

pub returns-in-End-clause-asks : goal.returns-in-End-clause-asks
returns-in-End-clause-asks g c =
    let so_far = c.loop.invariant.0 in
    let finds =
    finds_of c.args.session.now.limit c.loop.session c.loop.cutter.bytes (End c.in-End.reply)
    c.cut_request.new.session c.cut_request.new.cutter.bytes
    (ap (λ (s : Session). s.limit) so_far.session_is) c.in-End.ensures.finds in
    asks_end c.args.session.now.limit _ _ _ _ c.args.session.now.leased
    c.args.session.now.database c.args.cutter.now.bytes c.loop.session c.cut_request.new.session
    c.loop.cutter.bytes c.cut_request.new.cutter.bytes c.in-End.reply so_far finds

pub returns-in-Some-read_more-clause-asks : goal.returns-in-Some-read_more-clause-asks
returns-in-Some-read_more-clause-asks g c =
    let so_far = c.loop.invariant.0 in
    let finds =
    finds_of c.args.session.now.limit c.loop.session c.loop.cutter.bytes More
    c.cut_request.new.session c.cut_request.new.cutter.bytes
    (ap (λ (s : Session). s.limit) so_far.session_is) c.in-More.ensures.finds in
    let more =
    awaiting_more c.args.session.now.limit _ _ _ _ c.args.session.now.leased
    c.args.session.now.database c.args.cutter.now.bytes c.loop.session c.cut_request.new.session
    c.loop.cutter.bytes c.cut_request.new.cutter.bytes so_far finds in
    let quits =
    quits_of c.args.session.now.limit _ _ _ _ _ c.cut_request.new.cutter.bytes
    c.in-Some-read_more.reply c.read_more.new.cutter.bytes
    (c.in-More.ensures.limit ∙ c.loop.invariant.1) c.in-Some-read_more.ensures.ends in
    asks_quit c.args.session.now.limit _ _ _ _ _ c.args.session.now.leased
    c.args.session.now.database c.args.cutter.now.bytes c.cut_request.new.session
    c.cut_request.new.cutter.bytes c.read_more.new.cutter.bytes c.in-Some-read_more.reply more.0
    more.1 quits

pub loop-preserved : goal.loop-preserved
loop-preserved g c =
    let so_far = c.loop.invariant.0 in
    let finds =
    finds_of c.args.session.now.limit c.loop.session c.loop.cutter.bytes More
    c.cut_request.new.session c.cut_request.new.cutter.bytes
    (ap (λ (s : Session). s.limit) so_far.session_is) c.in-More.ensures.finds in
    let more =
    awaiting_more c.args.session.now.limit _ _ _ _ c.args.session.now.leased
    c.args.session.now.database c.args.cutter.now.bytes c.loop.session c.cut_request.new.session
    c.loop.cutter.bytes c.cut_request.new.cutter.bytes so_far finds in (
      awaiting_read c.args.session.now.limit _ _ _ _ _ c.args.session.now.leased
          c.args.session.now.database c.args.cutter.now.bytes c.cut_request.new.session _
          c.cut_request.new.cutter.bytes _ more.0
          (read_of _ _ _ _ c.cut_request.new.cutter c.read_more.new.cutter
          (c.read_more.ensures.more c.in_default.is)) (c.read_more.ensures.session c.in_default.is),
      c.read_more.ensures.limit ∙ c.in-More.ensures.limit ∙ c.loop.invariant.1,
    )
