use Rattle.std.proofs.Common.{arith}
use Rattle.pg_frames.proofs.CutLemmas.{has_next, next_read}
use Rattle.pg_frames.proofs.cutter.Cutter.next.Goals as goal

pub first_frame-requires-clause-header : goal.first_frame-requires-clause-header
first_frame-requires-clause-header c =
    let next = has_next _ _ _ c.self.invariant (omega arith) in
    rw c.as_slice.ensures.value next.header

pub first_frame-requires-clause-low : goal.first_frame-requires-clause-low
first_frame-requires-clause-low c =
    let next = has_next _ _ _ c.self.invariant (omega arith) in
    rw c.as_slice.ensures.value next.low

pub first_frame-requires-clause-whole : goal.first_frame-requires-clause-whole
first_frame-requires-clause-whole c =
    let next = has_next _ _ _ c.self.invariant (omega arith) in
    rw c.as_slice.ensures.value next.whole

pub advance-requires : goal.advance-requires
advance-requires c =
    let says = c.in_ok-frame.ensures in
    let next = next_read _ c.self.invariant (omega arith) c.as_slice.ensures.value says.kind says.body in
    omega (arith, next.within)

pub overflow_sub-self : goal.overflow_sub-self
overflow_sub-self c =
    let says = c.in_ok-frame.ensures in
    let next = next_read _ c.self.invariant (omega arith) c.as_slice.ensures.value says.kind says.body in
    omega (arith, next.fits)

pub invariant_of-self : goal.invariant_of-self
invariant_of-self c = c.self.invariant

pub invariant_of-self-2 : goal.invariant_of-self-2
invariant_of-self-2 c =
    let says = c.in_ok-frame.ensures in
    let next = next_read _ c.self.invariant (omega arith) c.as_slice.ensures.value says.kind says.body in
    rw (c.give_back.ensures.items, c.advance.ensures.items, c.len-len.ensures) next.left

pub returns-clause-frame : goal.returns-clause-frame
returns-clause-frame c =
    let says = c.in_ok-frame.ensures in
    let next = next_read _ c.self.invariant (omega arith) c.as_slice.ensures.value says.kind says.body in
    rw (c.give_back.ensures.items, c.advance.ensures.items, c.len-len.ensures, ← c.self.view_is)
    (next.is, next.whole)
