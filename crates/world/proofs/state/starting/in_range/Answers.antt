use Rattle.std.proofs.Common.{ℕ, ◌<◌, ◌≤◌, ◌^◌, refl, subst, ◌∙◌}
use Rattle.std.proofs.lemmas.Option.{slice_get_read}
use Rattle.world.proofs.FirstStarts.{range_more, range_all}
use Rattle.world.proofs.state.starting.in_range.Goals as goal

pub loop-settings-preserved : goal.loop-settings-preserved
loop-settings-preserved c =
    range_more c.args.nodes.now c.loop-settings.settings-index c.settings-item.result
    (slice_get_read c.args.nodes.now _ c.loop-settings.settings-index c.settings-item.result refl c.loop-settings-test.true c.settings-item.is)
    (subst (λ (n : ℕ). n < 2 ^ 14) (c.get.ensures.value ∙ c.peer_id.ensures) c.get.ensures.range)
    (subst (λ (n : ℕ). n ≤ 2 ^ 16) c.max_client_conn.ensures.value c.max_client_conn.ensures.range.1)
    c.loop-settings.invariant

pub returns : goal.returns
returns c = range_all c.args.nodes.now c.loop-settings.settings-index c.loop-settings-test.false c.loop-settings.invariant
