use Rattle.std.proofs.Common.{◌≡◌, ◌∙◌, Option, sym, subst}
use Rattle.pg_frames.specs.declared.piece.Piece.{Piece}
use Rattle.pg_frames.specs.Passage.{Hands}
use Rattle.client_state.specs.Session.{Session}
use Rattle.session_io.specs.Progress.{asking}
use Rattle.session_io.proofs.HandingLemmas.{hands_piece, piece_session}
use Rattle.session_io.proofs.session.replies.hand_out.Goals as goal

-- the session waits for its reply still
is_asking : (old now : Session) → old ≡ asking old.limit old.database → now ≡ old
    → now ≡ asking now.limit now.database
is_asking old now is same = subst (λ (s : Session). s ≡ asking s.limit s.database) (sym same) is

pub loop-status-preserved : goal.loop-status-preserved
loop-status-preserved c =
    let new = c.next.follows.lender-at-none in
    let hands =
    subst (λ (found : Option Piece). Hands c.pass_frames.new.flow found new) c.in-Some-next.is
    c.next.follows.holds-at-none in
    let is = is_asking _ _ c.requires c.loop-status.invariant.1 in (
      λ limit stream written start. hands_piece limit stream written c.loop-status.place
          c.pass_frames.new.flow new
          c.in-Some-next.piece _ _ _ is (c.pass_frames.ensures.more c.in_default.is limit stream written
          c.loop-status.place
          (c.loop-status.invariant.0 limit stream written start)) hands
          c.in-More.ensures,
      piece_session _ _ _ _ _ is c.in-More.ensures ∙ c.loop-status.invariant.1,
    )

pub returns-in-Ready-clause-handed : goal.returns-in-Ready-clause-handed
returns-in-Ready-clause-handed c limit stream written start =
    let new = c.next.follows.lender-at-none in
    let hands =
    subst (λ (found : Option Piece). Hands c.pass_frames.new.flow found new) c.in-Some-next.is
    c.next.follows.holds-at-none in
    let is = is_asking _ _ c.requires c.loop-status.invariant.1 in
    hands_piece limit stream written c.loop-status.place c.pass_frames.new.flow new c.in-Some-next.piece
    _ _ _ is
    (c.pass_frames.ensures.more c.in_default.is limit stream written c.loop-status.place
    (c.loop-status.invariant.0 limit stream written start)) hands c.in-Ready.ensures

pub returns-in-Refused-clause-handed : goal.returns-in-Refused-clause-handed
returns-in-Refused-clause-handed c limit stream written start =
    let new = c.next.follows.lender-at-none in
    let hands =
    subst (λ (found : Option Piece). Hands c.pass_frames.new.flow found new) c.in-Some-next.is
    c.next.follows.holds-at-none in
    let is = is_asking _ _ c.requires c.loop-status.invariant.1 in
    hands_piece limit stream written c.loop-status.place c.pass_frames.new.flow new c.in-Some-next.piece
    _ _ _ is
    (c.pass_frames.ensures.more c.in_default.is limit stream written c.loop-status.place
    (c.loop-status.invariant.0 limit stream written start)) hands c.in-Refused.ensures

pub returns-in-Some-clause-handed : goal.returns-in-Some-clause-handed
returns-in-Some-clause-handed c limit stream written start =
    c.in-Some.ensures.ready limit stream written c.loop-status.place
    (c.loop-status.invariant.0 limit stream written start)
