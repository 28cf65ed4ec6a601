use Rattle.std.proofs.Common.{refl, sym, subst, ◌∙◌}
use Rattle.std.proofs.lemmas.Option.{slice_get_read}
use Rattle.ini_config.specs.Group.{PeersDiffer}
use Rattle.world.proofs.FirstStarts.{never_had}
use Rattle.world.proofs.state.starting.starts_of.Goals as goal

pub push-requires-clause-new : goal.push-requires-clause-new
push-requires-clause-new c = λ had.
    never_had c.nodes-settings-items.result.now c.loop-settings.settings-index c.reserve.new.self.rows c.settings-item.result
    (subst PeersDiffer (sym c.nodes-settings-items.ensures.nodes) c.nodes-settings-items.ensures.group.distinct)
    (slice_get_read c.nodes-settings-items.result.now _ c.loop-settings.settings-index c.settings-item.result refl c.loop-settings-test.true c.settings-item.is)
    (c.reserve.ensures.rows ∙ c.loop-settings.invariant)
    (rw (← c.peer_id.ensures) had)
