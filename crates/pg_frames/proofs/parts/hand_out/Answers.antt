use Rattle.std.proofs.Common.{ℕ, List, Option, ◌++◌, ◌∷◌, [], ◌∙◌, ap, sym, subst}
use Rattle.pg_frames.specs.declared.piece.Piece.{Piece}
use Rattle.pg_frames.specs.declared.parts.OwnedPiece.{OwnedPiece}
use Rattle.pg_frames.specs.Passage.{Passage, Hands, HasNoNext}
use Rattle.pg_frames.specs.Parts.{SoFar}
use Rattle.pg_frames.proofs.FlowLemmas.{so_far_piece}
use Rattle.pg_frames.proofs.parts.hand_out.Goals as goal

pub loop-piece-preserved : goal.loop-piece-preserved
loop-piece-preserved c limit stream start =
    let new = c.next.follows.lender-at-none in
    let hands =
    subst (λ (found : Option Piece). Hands c.loop-piece.flow found new) c.in-Some.is
    c.next.follows.holds-at-none in
    let more =
    so_far_piece _ stream c.loop-piece.pieces.items c.loop-piece.flow new c.in-Some.piece
    (c.loop-piece.invariant limit stream start) hands in
    subst (λ (xs : List OwnedPiece). SoFar limit stream xs new)
    (sym (c.in_ok-push.ensures.items
    ∙ ap (λ p. c.loop-piece.pieces.items ++ p ∷ []) c.in_ok-piece.ensures)) more

pub returns-in_default : goal.returns-in_default
returns-in_default c limit stream start =
    let here = c.loop-piece.invariant limit stream start in
    let new = c.next.follows.lender-at-none in
    let hands =
    subst (λ (found : Option Piece). Hands c.loop-piece.flow found new) c.in_default.is
    c.next.follows.holds-at-none in
    let flow = c.loop-piece.flow in
    subst (λ (p : Passage). SoFar limit stream c.loop-piece.pieces.items p
    × HasNoNext limit p.left p.bytes) (sym hands.0)
    (here, subst (λ (n : ℕ). HasNoNext n flow.left flow.bytes) here.limit_is hands.1)
