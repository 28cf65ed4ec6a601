use Rattle.std.proofs.Common.{◌≡◌, ◌∙◌, ◌++◌, ◌+◌, List, ℕ, take, drop, sym, ap, subst}
use Rattle.std.proofs.lemmas.List.{take_all}
use Rattle.std.specs.List.{flat_map}
use Rattle.std.specs.Borrow.{Bor}
use Rattle.pg_frames.specs.FrameText.{Cuts}
use Rattle.pg_frames.proofs.CutLemmas.{so_far_start, taken_on, told_once, joined-more, joined-all, none_from, cut_through_some}
use Rattle.pg_frames.proofs.stream.cut_within.Goals as goal

pub loop-piece-init : goal.loop-piece-init
loop-piece-init c = (
  so_far_start _ _ _ c.new-frames.ensures.items (ap (λ p. p.bytes) c.with_limit-cutter.ensures),
  ap (λ p. p.limit) c.with_limit-cutter.ensures,
)

pub loop-piece-preserved : goal.loop-piece-preserved
loop-piece-preserved c =
    let so_far = c.loop-piece.invariant in
    let taken = taken_on _ _ _ _ _ _ _ _ _ so_far.1 so_far.0 c.in_ok-fault.ensures.taken in
    let now : Bor (List ℕ) → List ℕ = λ piece. piece.now in
    let joined =
    joined-more now c.args.pieces.now c.loop-piece.piece-index _ c.loop-piece-test.true in (
      record {
        cuts = subst (λ (xs : List ℕ). Cuts c.args.limit xs c.take_piece.new.frames.items
            c.take_piece.new.cutter.bytes) (sym joined) taken.0;
        none = sym taken.1 ∙ none_from _ (sym c.is_some.ensures ∙ c.if-is_some.false);
      },
      c.in_ok-fault.ensures.limit ∙ so_far.1,
    )

pub returns-then-is_some-clause-cut : goal.returns-then-is_some-clause-cut
returns-then-is_some-clause-cut c =
    let so_far = c.loop-piece.invariant in
    let taken = taken_on _ _ _ _ _ _ _ _ _ so_far.1 so_far.0 c.in_ok-fault.ensures.taken in
    let now : Bor (List ℕ) → List ℕ = λ piece. piece.now in
    let joined =
    joined-more now c.args.pieces.now c.loop-piece.piece-index _ c.loop-piece-test.true in
    let all = joined-all now c.args.pieces.now (c.loop-piece.piece-index + 1) in
    cut_through_some _ _ _ _ _ _ _ (sym c.is_some.ensures ∙ c.if-is_some.true) taken.0 taken.1
    (ap (λ xs. xs ++ flat_map now (drop (c.loop-piece.piece-index + 1) c.args.pieces.now))
    (sym joined) ∙ all)

pub returns-then-is_some-clause-only : goal.returns-then-is_some-clause-only
returns-then-is_some-clause-only c =
    let found = returns-then-is_some-clause-cut c in
    told_once _ _ _ found.0 _ found.1 found.2

pub returns-clause-cut : goal.returns-clause-cut
returns-clause-cut c =
    let now : Bor (List ℕ) → List ℕ = λ piece. piece.now in
    let all : take c.loop-piece.piece-index c.args.pieces.now ≡ c.args.pieces.now =
    take_all c.loop-piece.piece-index c.args.pieces.now c.loop-piece-test.false in
    let so_far = c.loop-piece.invariant in (
      c.loop-piece.cutter.bytes,
      subst (λ (xs : List ℕ). Cuts c.args.limit xs c.loop-piece.frames.items
          c.loop-piece.cutter.bytes) (ap (flat_map now) all) so_far.0.cuts,
      sym so_far.0.none,
    )

pub returns-clause-only : goal.returns-clause-only
returns-clause-only c =
    let found = returns-clause-cut c in
    told_once _ _ _ found.0 _ found.1 found.2
