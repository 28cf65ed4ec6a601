use Rattle.std.proofs.Common.{◌≡◌, ◌∙◌, ◌+◌, List, ℕ, Option, None, take, sym, subst}
use Rattle.std.proofs.lemmas.List.{take_all}
use Rattle.std.specs.List.{flat_map}
use Rattle.std.specs.Borrow.{Bor}
use Rattle.pg_frames.specs.declared.error.FrameError.{FrameError}
use Rattle.pg_frames.specs.Parts.{Drained}
use Rattle.pg_frames.proofs.CutLemmas.{none_from, joined-more, joined-all}
use Rattle.pg_frames.proofs.FlowLemmas.{drained_start, drained_cut, handed_through, handed_once, rejoined, all_taken}
use Rattle.pg_frames.proofs.parts.cut_in_parts_within.Goals as goal

pub loop-piece-init : goal.loop-piece-init
loop-piece-init c = drained_start _ _ _ c.new-pieces.ensures.items c.in-Ok.ensures.ok

pub returns-then-is_some-clause-parts : goal.returns-then-is_some-clause-parts
returns-then-is_some-clause-parts c =
    let taken = c.in_ok-fault.ensures _ _ c.loop-piece.invariant in
    let now : Bor (List ℕ) → List ℕ = λ piece. piece.now in
    let joined =
    joined-more now c.args.stream.now c.loop-piece.piece-index _ c.loop-piece-test.true in
    let all = joined-all now c.args.stream.now (c.loop-piece.piece-index + 1) in
    handed_through _ _ _ _ _ _ _ (sym c.is_some.ensures ∙ c.if-is_some.true) taken.3
    (rejoined _ taken.0 taken.1 _ _ _ _ taken.2 joined all)

pub returns-then-is_some-clause-only : goal.returns-then-is_some-clause-only
returns-then-is_some-clause-only c frames rest cuts =
    let found = returns-then-is_some-clause-parts c in
    handed_once _ _ found.0 frames found.1 rest _ _ found.2 found.3 found.4 cuts

pub loop-piece-preserved : goal.loop-piece-preserved
loop-piece-preserved c =
    let taken = c.in_ok-fault.ensures _ _ c.loop-piece.invariant in
    let none = none_from _ (sym c.is_some.ensures ∙ c.if-is_some.false) in
    let now : Bor (List ℕ) → List ℕ = λ piece. piece.now in
    let joined =
    joined-more now c.args.stream.now c.loop-piece.piece-index _ c.loop-piece-test.true in
    let through = all_taken _ taken.0 taken.1 _ _ taken.2 (taken.4 none) joined in
    let here =
    subst (λ (xs : List ℕ). Drained c.args.limit xs c.take_piece.new.pieces.items c.take_piece.new.flow
    c.in_ok-fault.fault) through taken.3 in
    subst (λ (fault : Option FrameError). Drained c.args.limit
    (flat_map now (take (c.loop-piece.piece-index + 1) c.args.stream.now))
    c.take_piece.new.pieces.items c.take_piece.new.flow fault) none here

pub returns-clause-parts : goal.returns-clause-parts
returns-clause-parts c =
    let all : take c.loop-piece.piece-index c.args.stream.now ≡ c.args.stream.now =
    take_all c.loop-piece.piece-index c.args.stream.now c.loop-piece-test.false in
    let here =
    subst (λ (pieces : List (Bor (List ℕ))). Drained c.args.limit (flat_map (λ piece. piece.now) pieces)
    c.loop-piece.pieces.items c.loop-piece.flow None) all c.loop-piece.invariant in
    drained_cut _ _ _ _ None here

pub returns-clause-only : goal.returns-clause-only
returns-clause-only c frames rest cuts =
    let found = returns-clause-parts c in
    handed_once _ _ found.0 frames found.1 rest _ None found.2 found.3 found.4 cuts
