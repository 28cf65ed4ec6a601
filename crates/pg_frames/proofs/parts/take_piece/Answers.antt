use Rattle.std.proofs.Common.{ℕ, ◌∙◌, ◌++◌, ◌<◌, Option, None, length, ap, sym, subst, arith, rules}
use Rattle.pg_frames.specs.declared.error.FrameError.{FrameError}
use Rattle.pg_frames.specs.FrameText.{HasFault}
use Rattle.pg_frames.specs.Passage.{after, HasNoNext}
use Rattle.pg_frames.specs.Parts.{Drained}
use Rattle.pg_frames.proofs.CutLemmas.{none_from}
use Rattle.pg_frames.proofs.FlowLemmas.{cut_once_more, drained_more, some_bytes, no_bytes}
use Rattle.pg_frames.proofs.parts.take_piece.Goals as goal

pub returns-then-is_some : goal.returns-then-is_some
returns-then-is_some c limit stream drained =
    let so = c.loop-rest.invariant limit stream drained in
    let front = c.split_at.result.0.now in
    let back = c.split_at.result.1.now in (
      so.0 ++ front,
      back,
      cut_once_more _ so.0 c.loop-rest.rest.now front back _ so.1 c.split_at.ensures.front
          c.split_at.ensures.back,
      drained_more _ stream so.0 front _ _ _ (c.in_ok-fault.ensures limit (stream ++ so.0) so.2),
      λ none. absurd (search rules),
    )

pub loop-rest-smaller : goal.loop-rest-smaller
loop-rest-smaller c =
    let so = c.loop-rest.invariant c.requires.0 c.requires.1 c.requires.2 in
    let limit_is = so.2.so_far.limit_is in
    let still =
    subst (λ (n : ℕ). HasNoNext n c.loop-rest.flow.left c.loop-rest.flow.bytes) (sym limit_is)
    so.2.still in
    let stands =
    subst (λ (n : ℕ). HasFault n (after c.loop-rest.flow) None) (sym limit_is) so.2.stands in
    let room = c.room.ensures.drained still stands in
    let some = some_bytes c.loop-rest.rest.now (sym c.is_empty.ensures ∙ c.loop-rest-test.true) in
    let shorter : length c.split_at.result.1.now < length c.loop-rest.rest.now =
    omega (arith, some, room, ap length so.2.none_kept, c.min.ensures, c.split_at.ensures.back_len) in
    shorter

pub loop-rest-preserved : goal.loop-rest-preserved
loop-rest-preserved c limit stream drained =
    let so = c.loop-rest.invariant limit stream drained in
    let front = c.split_at.result.0.now in
    let back = c.split_at.result.1.now in
    let more = drained_more _ stream so.0 front _ _ _ (c.in_ok-fault.ensures limit (stream ++ so.0) so.2) in
    let none = none_from _ (sym c.is_some.ensures ∙ c.if-is_some.false) in (
      so.0 ++ front,
      cut_once_more _ so.0 c.loop-rest.rest.now front back _ so.1 c.split_at.ensures.front
          c.split_at.ensures.back,
      subst (λ (fault : Option FrameError). Drained limit (stream ++ (so.0 ++ front))
          c.take_some.new.pieces.items c.take_some.new.flow fault) none more,
    )

pub returns : goal.returns
returns c limit stream drained =
    let so = c.loop-rest.invariant limit stream drained in (
      so.0,
      c.loop-rest.rest.now,
      so.1,
      so.2,
      λ none. no_bytes c.loop-rest.rest.now
          (sym c.is_empty.ensures ∙ c.loop-rest-test.false),
    )
