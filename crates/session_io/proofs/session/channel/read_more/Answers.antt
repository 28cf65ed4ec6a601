use Rattle.std.proofs.Common.{◌≡◌, ℕ, List, arith}
use Rattle.pg_frames.specs.Passage.{fed}
use Rattle.session_io.proofs.CallLists.{one_read, no_read}
use Rattle.session_io.proofs.session.channel.read_more.Goals as goal

pub returns-then-count-eq0-clause-none : goal.returns-then-count-eq0-clause-none
returns-then-count-eq0-clause-none g c is =
    no_read g.L.WriteCalls.wrote g.L.ReadCalls.gave c.args.link.now.stream
    c.read_from-count.new.stream c.read_from-count.result
    (λ (piece : List ℕ). c.read_from-count.new.self ≡ fed c.args.link.now.flow piece)
    c.read_from-count.ensures c.if-count-eq0.true

pub returns-clause-more : goal.returns-clause-more
returns-clause-more g c is =
    one_read g.L.WriteCalls.wrote g.L.ReadCalls.gave c.args.link.now.stream
    c.read_from-count.new.stream c.read_from-count.result
    (λ (piece : List ℕ). c.read_from-count.new.self ≡ fed c.args.link.now.flow piece)
    c.read_from-count.ensures (omega (arith, c.if-count-eq0.false))
