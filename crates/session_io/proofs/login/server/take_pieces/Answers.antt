use Rattle.std.proofs.Common.{Option, sym, subst}
use Rattle.pg_frames.specs.declared.piece.Piece.{Piece}
use Rattle.pg_frames.specs.Passage.{Hands}
use Rattle.session_io.specs.declared.login.place.Mark.{Mark}
use Rattle.session_io.specs.LoggingIn.{Handed}
use Rattle.session_io.proofs.LoginLemmas.{handed_piece}
use Rattle.session_io.proofs.login.server.take_pieces.Goals as goal

pub returns-in-Done-clause-takes : goal.returns-in-Done-clause-takes
returns-in-Done-clause-takes c limit stream come =
    let new = c.next.follows.lender-at-none in
    let hands =
    subst (λ (found : Option Piece). Hands c.loop-piece.flow found new) c.in-Some.is
    c.next.follows.holds-at-none in
    c.in-Done.ensures.takes limit stream c.loop-piece.flow (c.loop-piece.invariant.0 limit stream
    come)
    (subst (λ (m : Mark). Handed c.loop-piece.flow m new) (sym c.of-mark.ensures)
    (handed_piece c.loop-piece.flow new c.in-Some.piece hands))

pub returns-in-Stopped-clause-takes : goal.returns-in-Stopped-clause-takes
returns-in-Stopped-clause-takes c limit stream come =
    let new = c.next.follows.lender-at-none in
    let hands =
    subst (λ (found : Option Piece). Hands c.loop-piece.flow found new) c.in-Some.is
    c.next.follows.holds-at-none in
    c.in-Stopped.ensures.takes limit stream c.loop-piece.flow (c.loop-piece.invariant.0 limit stream
    come)
    (subst (λ (m : Mark). Handed c.loop-piece.flow m new) (sym c.of-mark.ensures)
    (handed_piece c.loop-piece.flow new c.in-Some.piece hands))
