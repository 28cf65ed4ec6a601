use Rattle.std.proofs.Common.{ap, arith}
use Rattle.node_threads.proofs.ConsoleLemmas.{needs_more, reads_once, parts_faulty, parts_silent, parts_memory}
use Rattle.node_threads.proofs.session.admin_input.read_more.Goals as goal

pub returns-then-is_some-clause-ends : goal.returns-then-is_some-clause-ends
returns-then-is_some-clause-ends g c _ =
    parts_faulty _ _ _ _ _ c.args.cutter.now.bytes c.fault.result c.is_some.result
    c.is_some.ensures c.if-is_some.true c.requires.none c.fault.ensures.stands
    c.refuse.ensures.said

pub returns-then-count-eq0-clause-ends : goal.returns-then-count-eq0-clause-ends
returns-then-count-eq0-clause-ends g c _ =
    let needs =
    needs_more _ c.args.cutter.now.bytes c.fault.result c.is_some.result c.is_some.ensures
    c.if-is_some.false c.requires.none c.fault.ensures.stands in
    parts_silent _ _ _ _ _ c.args.cutter.now.bytes needs
    (c.read_some-count.ensures.none c.if-count-eq0.true)

pub returns-in_default-clause-ends : goal.returns-in_default-clause-ends
returns-in_default-clause-ends g c _ =
    let needs =
    needs_more _ c.args.cutter.now.bytes c.fault.result c.is_some.result c.is_some.ensures
    c.if-is_some.false c.requires.none c.fault.ensures.stands in
    parts_memory _ _ _ _ _ c.args.cutter.now.bytes _ _ needs
    (c.read_some-count.ensures.some (omega (arith, c.if-count-eq0.false)))
    (ap (λ p. p.bytes) c.in_default.ensures.memory)

pub returns-clause-more : goal.returns-clause-more
returns-clause-more g c _ =
    let needs =
    needs_more _ c.args.cutter.now.bytes c.fault.result c.is_some.result c.is_some.ensures
    c.if-is_some.false c.requires.none c.fault.ensures.stands in
    reads_once _ _ _ _ _ c.args.cutter.now.bytes _ _ needs
    (c.read_some-count.ensures.some (omega (arith, c.if-count-eq0.false)))
    (ap (λ p. p.bytes) c.in-Ok.ensures.ok)
