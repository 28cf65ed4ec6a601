use Rattle.std.proofs.Common.{◌∙◌, sym, ap}
use Rattle.link_state.specs.Watch.{WatchState}
use Rattle.link_state.proofs.WatchLemmas.{seen_piece, seen_until_stopped}
use Rattle.link_state.proofs.watch.Watch.read.Goals as goal

pub pieces-preserved : goal.pieces-preserved
pieces-preserved c = record {
  seen = λ before h. seen_piece c.pieces.self c.read_front-rest.new.self _ c.pieces.rest.now c.read_front-rest.ensures.seen.0 c.read_front-rest.result.now
      c.read_front-rest.ensures.seen.1 c.read_front-rest.ensures.seen.2 (c.pieces.invariant.seen before h);
  told = c.read_front-rest.ensures.told ∙ c.pieces.invariant.told;
}

pub returns-else-not-self-clause-seen : goal.returns-else-not-self-clause-seen
returns-else-not-self-clause-seen c =
    λ before h. seen_until_stopped c.pieces.self _ c.pieces.rest.now
    (sym (ap (λ (w : WatchState). w.stopped) c.self.view_is) ∙ c.if-not-self.false) (c.pieces.invariant.seen before h)
