use Rattle.std.proofs.Common.{List, map, refl, sym, subst}
use Rattle.std.proofs.lemmas.Option.{slice_get_read}
use Rattle.ini_config.specs.Node.{NodeSettings}
use Rattle.ini_config.specs.Group.{IsGroup}
use Rattle.world.specs.WorldRun.{AreFresh}
use Rattle.world.proofs.Cores.{made_more, made_all, made_kept}
use Rattle.world.proofs.nodes.Nodes.new.Goals as goal

pub loop-settings-preserved : goal.loop-settings-preserved
loop-settings-preserved c =
    rw c.in_ok-push.ensures.items
    (made_more (λ core. core.view) c.nodes-settings-items.result.now c.loop-settings.settings-index c.loop-settings.cores.items
    c.settings-item.result c.in_ok-core.core
    (slice_get_read c.nodes-settings-items.result.now _ c.loop-settings.settings-index c.settings-item.result refl c.loop-settings-test.true c.settings-item.is)
    c.in_ok-core.ensures.fresh c.known.ensures c.loop-settings.invariant)

pub invariant_of-result : goal.invariant_of-result
invariant_of-result c =
    made_kept c.nodes-settings-items.result.now c.loop-settings.settings-index (map (λ core. core.view) c.loop-settings.cores.items)
    (subst IsGroup (sym c.nodes-settings-items.ensures.nodes) c.nodes-settings-items.ensures.group) c.loop-settings-test.false c.loop-settings.invariant

pub returns : goal.returns
returns c =
    subst (λ (group : List NodeSettings). AreFresh group (map (λ core. core.view) c.loop-settings.cores.items)) c.nodes-settings-items.ensures.nodes
    (made_all c.nodes-settings-items.result.now c.loop-settings.settings-index (map (λ core. core.view) c.loop-settings.cores.items)
    c.loop-settings-test.false c.loop-settings.invariant.0)
