use Rattle.std.proofs.Common.{false, Ok, Err, subst}
use Rattle.startup.specs.FirstPacket.{Answers}
use Rattle.startup.specs.Wanted.{Wants, LacksLast}
use Rattle.startup.specs.declared.wanted.Wanted.TheVariants as wanted
use Rattle.session_io.specs.Opening.{Arriving, Looks}
use Rattle.session_io.proofs.OpeningLemmas.{underway_wants, underway_read, underway_asked, refused_for, ends_refused, opens_over, opens_looked, opens_session, no_cancel}
use Rattle.session_io.proofs.login.first_packets.open.Goals as goal

pub returns-in-Err : goal.returns-in-Err
returns-in-Err g c =
    let found = subst (λ text. Answers c.loop.opening text false (Err c.in-Err.error))
    c.as_slice.ensures c.in-Err.ensures.found in
    record {
      opens = opens_over _ _ _ _ c.loop.opening c.loop.text.items c.loop.invariant
          (ends_refused _ _ _ c.loop.opening c.loop.text.items c.in-Err.error
          (refused_for c.loop.opening c.loop.text.items false c.in-Err.error found)
          c.refuse_first.ensures);
    }

pub returns-in-Startup : goal.returns-in-Startup
returns-in-Startup g c =
    let found = subst (λ text. Answers c.loop.opening text false (Ok c.in-Ok.first))
    c.as_slice.ensures c.in-Ok.ensures.found in
    let answer = subst (λ first. Answers c.loop.opening c.loop.text.items false (Ok first))
    c.in-Startup.is found in
    record {
      opens = opens_session _ _ _ c.loop.opening c.loop.text.items c.in-Startup.kind
          c.in-Startup.user c.in-Startup.database c.in-Startup.used c.loop.invariant answer;
    }

pub unreachable-requires : goal.unreachable-requires
unreachable-requires g c =
    let means : Arriving g.row.C.Denot = record {
      wrote = g.C.WriteCalls.wrote;
      gave = g.C.ReadCalls.gave;
      saw = g.C.Requester.saw;
      refused = g.C.Arrival.refused;
    } in
    let found = subst (λ text. Answers c.loop.opening text false (Ok c.in-Ok.first))
    c.as_slice.ensures c.in-Ok.ensures.found in
    let answer = subst (λ first. Answers c.loop.opening c.loop.text.items false (Ok first))
    c.in-Cancel.is found in
    no_cancel means c.args.client.now c.loop.client c.loop.opening c.loop.text.items
    c.in-Cancel.key c.loop.invariant answer

pub loop-preserved-else-not-decline : goal.loop-preserved-else-not-decline
loop-preserved-else-not-decline g c =
    let found = subst (λ text. Answers c.loop.opening text false (Ok c.in-Ok.first))
    c.as_slice.ensures c.in-Ok.ensures.found in
    underway_asked _ _ _ _ c.loop.opening c.read.new.self c.loop.text.items
    c.decline.new.text.items c.in-Ok.first c.loop.invariant c.in-Ssl.is found
    c.in-Ok.ensures.seen c.decline.ensures.text
    (c.decline.ensures.declined c.if-not-decline.false)

pub loop-preserved : goal.loop-preserved
loop-preserved g c =
    let wants = subst (λ text. Wants text (wanted.Read c.in-Read.count)) c.as_slice-in-More.ensures
    (subst (λ w. Wants c.as_slice-in-More.result.now w) c.in-Read.is c.after.ensures) in
    underway_read _ _ _ _ c.read.new.self c.read_more.new.opening c.loop.text.items
    c.read_more.new.text.items c.in-Read.count
    (underway_wants _ _ _ c.loop.opening c.read.new.self c.loop.text.items c.in-Ok.first
    c.loop.invariant c.in-More.is c.in-Ok.ensures.seen) wants
    (c.read_more.ensures.seen c.if-not-read_more.false)
    (c.read_more.ensures.more c.if-not-read_more.false)

pub returns-in-Look : goal.returns-in-Look
returns-in-Look g c =
    let means : Arriving g.row.C.Denot = record {
      wrote = g.C.WriteCalls.wrote;
      gave = g.C.ReadCalls.gave;
      saw = g.C.Requester.saw;
      refused = g.C.Arrival.refused;
    } in
    let lacks = subst LacksLast c.as_slice-in-More.ensures
    (subst (λ w. Wants c.as_slice-in-More.result.now w) c.in-Look.is c.after.ensures) in
    let looks = subst
    (λ text. Looks means c.read.new.self text c.loop.client c.look.result c.look.new.client)
    c.as_slice-in-Look.ensures c.look.ensures.looks in
    record {
      opens = opens_looked means c.args.client.now c.loop.client c.look.new.client c.read.new.self
          c.loop.text.items c.look.result
          (underway_wants means c.args.client.now c.loop.client c.loop.opening c.read.new.self
          c.loop.text.items c.in-Ok.first c.loop.invariant c.in-More.is c.in-Ok.ensures.seen)
          lacks looks;
    }
