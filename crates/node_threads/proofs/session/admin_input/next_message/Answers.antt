use Rattle.std.proofs.Common.{◌∙◌, [], Ok, refl, sym, ap}
use Rattle.session_io.proofs.FindingLemmas.{frame_at}
use Rattle.node_threads.proofs.ConsoleLemmas.{reads_same, reads_more, parts_of, awaits_memory, awaits_message, awaits_none}
use Rattle.node_threads.proofs.session.admin_input.next_message.Goals as goal

pub loop-init : goal.loop-init
loop-init g c = (([], refl, refl), refl)

pub returns-in_default-clause-awaits : goal.returns-in_default-clause-awaits
returns-in_default-clause-awaits g c =
    awaits_memory _ _ _ _ _ c.args.cutter.now.bytes c.loop.cutter.bytes _
    (ap (λ p. p.bytes) c.in_default.ensures.memory) c.loop.invariant.0

pub returns-in_default-clause-limit : goal.returns-in_default-clause-limit
returns-in_default-clause-limit g c = c.in_default.ensures.limit ∙ c.loop.invariant.1

pub returns-in-Some-found-clause-awaits : goal.returns-in-Some-found-clause-awaits
returns-in-Some-found-clause-awaits g c =
    awaits_message _ _ _ _ _ _ c.args.cutter.now.bytes c.loop.cutter.bytes _
    c.in-Some-found.message refl
    (frame_at _ _ _ c.in-Some-found.message _ _ c.loop.invariant.1 c.in-Some-found.is
    c.in-Ok.ensures.frame)
    c.loop.invariant.0

pub returns-in-Some-found-clause-limit : goal.returns-in-Some-found-clause-limit
returns-in-Some-found-clause-limit g c = c.in-Ok.ensures.limit ∙ c.loop.invariant.1

pub returns-then-not-read_more-clause-awaits : goal.returns-then-not-read_more-clause-awaits
returns-then-not-read_more-clause-awaits g c =
    let none = c.in-Ok.ensures.none (ap Ok c.in_default-found.is) in
    let on =
    reads_same _ _ _ _ _ c.args.cutter.now.bytes c.loop.cutter.bytes _
    (ap (λ p. p.bytes) (sym none.1)) c.loop.invariant.0 in
    awaits_none _ _ _ _ _ _ c.args.cutter.now.bytes c.next-in-loop.new.self.bytes _ on
    (parts_of _ _ _ _ _ _ c.next-in-loop.new.self.bytes _
    (c.in-Ok.ensures.limit ∙ c.loop.invariant.1) (c.read_more.ensures.ends c.if-not-read_more.true))

pub returns-then-not-read_more-clause-limit : goal.returns-then-not-read_more-clause-limit
returns-then-not-read_more-clause-limit g c =
    c.read_more.ensures.limit ∙ c.in-Ok.ensures.limit ∙ c.loop.invariant.1

pub loop-preserved : goal.loop-preserved
loop-preserved g c =
    let none = c.in-Ok.ensures.none (ap Ok c.in_default-found.is) in
    let on =
    reads_same _ _ _ _ _ c.args.cutter.now.bytes c.loop.cutter.bytes _
    (ap (λ p. p.bytes) (sym none.1)) c.loop.invariant.0 in (
      reads_more _ _ _ _ _ _ _ c.args.cutter.now.bytes c.next-in-loop.new.self.bytes _
          (c.in-Ok.ensures.limit ∙ c.loop.invariant.1) on
          (c.read_more.ensures.more c.if-not-read_more.false),
      c.read_more.ensures.limit ∙ c.in-Ok.ensures.limit ∙ c.loop.invariant.1,
    )
