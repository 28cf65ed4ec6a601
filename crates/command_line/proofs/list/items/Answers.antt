use Rattle.std.proofs.Common.{sym, ◌∙◌, ap, map}
use Rattle.std.proofs.lemmas.List.Elements.{All-push}
use Rattle.command_line.proofs.ArgumentLemmas.{each_done, each_read, each_refused, refused_finds}
use Rattle.command_line.proofs.list.items.Goals as goal

-- an item can't be read
pub returns-in_err-item-clause-value : goal.returns-in_err-item-clause-value
returns-in_err-item-clause-value g c =
    let all = sym c.in_ok-texts.ensures
    ∙ ap (map (λ t. t.now)) (sym c.deref-text-items.ensures.value) in
    refused_finds _ c.from_residual-in_err-item.result _ c.from_residual-in_err-item.ensures.0
    (rw all (each_refused g.T.Item.item_of c.deref-text-items.result.now c.loop-text.text-index _
    c.loop-text.items.items _ c.loop-text-test.true c.loop-text.invariant.value
    c.in_err-item.ensures.value))

pub loop-text-preserved : goal.loop-text-preserved
loop-text-preserved g c =
    let kept = c.loop-text.invariant in
    let pushed = c.in_ok-push.ensures.items in
    record {
      value = rw pushed (each_read g.T.Item.item_of c.deref-text-items.result.now
          c.loop-text.text-index _ c.loop-text.items.items c.in_ok-item.item _ c.loop-text-test.true
          kept.value c.in_ok-item.ensures.value);
      holds = rw pushed (All-push g.T.Item.holds c.loop-text.items.items c.in_ok-item.item
          kept.holds c.in_ok-item.ensures.holds);
    }

pub returns-clause-value : goal.returns-clause-value
returns-clause-value g c =
    let all = sym c.in_ok-texts.ensures
    ∙ ap (map (λ t. t.now)) (sym c.deref-text-items.ensures.value) in
    rw all (each_done g.T.Item.item_of c.deref-text-items.result.now c.loop-text.text-index
    c.loop-text.items.items _ c.loop-text-test.false c.loop-text.invariant.value)
