use Rattle.std.proofs.Common.{◌∙◌, sym, ap}
use Rattle.tracked_links.specs.Heard.{HearingState}
use Rattle.tracked_links.proofs.HearingLemmas.{heard_piece, heard_until_stopped}
use Rattle.tracked_links.proofs.hearing.Hearing.hear.Goals as goal

pub pieces-preserved : goal.pieces-preserved
pieces-preserved c = record {
  heard = λ before h. heard_piece c.pieces.self c.hear_front-rest.new.self _ c.pieces.rest.now c.hear_front-rest.ensures.heard.0 c.hear_front-rest.result.now
      c.hear_front-rest.ensures.heard.1 c.hear_front-rest.ensures.heard.2 (c.pieces.invariant.heard before h);
  names = c.hear_front-rest.ensures.names ∙ c.pieces.invariant.names;
}

pub returns-else-not-self-clause-heard : goal.returns-else-not-self-clause-heard
returns-else-not-self-clause-heard c =
    λ before h. heard_until_stopped c.pieces.self _ c.pieces.rest.now
    (sym (ap (λ (s : HearingState). s.stopped) c.self.view_is) ∙ c.if-not-self.false) (c.pieces.invariant.heard before h)
