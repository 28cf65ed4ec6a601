use Rattle.std.proofs.Common.{◌≡◌, ◌+◌, ◌∙◌, ◌++◌, true, false, take, length, ap, sym, arith}
use Rattle.std.proofs.KnownBytes.{Consumes-kept, Consumes-trans}
use Rattle.std.proofs.Math.ListN.{length-append}
use Rattle.std.proofs.Math.Seq.{take-length}
use Rattle.answer.proofs.ReadingLemmas.{read_again, read_failed, read_more}
use Rattle.answer.proofs.seed.first_bytes.Goals as goal
use Rattle.answer.proofs.seed.first_bytes.Goals.{in-Ok+in_ok-extend_from_slice-in-Ok, in-Err+else-not-is_interrupted}

pub returns-then-not-is_interrupted-clause-fault :
    goal.returns-then-not-is_interrupted-clause-fault
returns-then-not-is_interrupted-clause-fault g c =
    read_failed _ c.args.input.now c.loop.input c.read_once.new.self c.loop.bytes.items
    c.read_once.new.buffer c.in-Err.error c.no_text.result c.loop.invariant.0
    (λ is. let no : false ≡ true = sym c.if-not-is_interrupted.true ∙ c.is_interrupted.ensures.1 is in
    absurd (cc))
    c.in-Err.ensures.call c.no_text.ensures.memory c.no_text.ensures.failed

pub loop-preserved : goal.loop-preserved
loop-preserved g c =
    let kept = c.loop.invariant in
    elim c.match-read_once.branch [
      | in-Ok+in_ok-extend_from_slice-in-Ok w ↦
          let bound = w.in-Ok.ensures.bound in
          let all : w.in-Ok.field-0 ≡ length c.read_once.new.buffer = omega (arith, bound) in
          let whole : take w.in-Ok.field-0 c.read_once.new.buffer ≡ c.read_once.new.buffer =
          ap (λ n. take n c.read_once.new.buffer) all ∙ take-length c.read_once.new.buffer in
          let grown : w.extend_from_slice.new.self.items
          ≡ c.loop.bytes.items ++ take w.in-Ok.field-0 c.read_once.new.buffer =
          w.in_ok-extend_from_slice-in-Ok.ensures.items
          ∙ ap (λ back. c.loop.bytes.items ++ back) (sym whole) in
          let one : length (c.loop.bytes.items ++ take w.in-Ok.field-0 c.read_once.new.buffer)
          ≡ length c.loop.bytes.items + length c.read_once.new.buffer =
          rw whole (length-append c.loop.bytes.items c.read_once.new.buffer) in
          rw (w.bytes-is, grown) (
            read_more _ c.args.input.now c.loop.input c.read_once.new.self c.loop.bytes.items
                c.read_once.new.buffer w.in-Ok.field-0 kept.0 (omega arith) w.in-Ok.ensures.call,
            Consumes-trans _ _ _ c.loop.bytes.items (take w.in-Ok.field-0 c.read_once.new.buffer)
                kept.1 w.in-Ok.ensures.bytes.0,
            omega arith,
          )
      | in-Err+else-not-is_interrupted w ↦ rw w.bytes-is (
        read_again _ c.args.input.now c.loop.input c.read_once.new.self c.loop.bytes.items
            c.read_once.new.buffer w.in-Err.error kept.0
            (w.is_interrupted.ensures.0 w.if-not-is_interrupted.false) w.in-Err.ensures.call,
        Consumes-kept _ _ _ _ kept.1 w.in-Err.ensures.bytes,
        kept.2,
      )
    ]
