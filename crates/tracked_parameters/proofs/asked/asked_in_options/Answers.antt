use Rattle.std.proofs.Common.{◌∙◌, ℕ, ◌+◌, false, Option, List, drop, sym, ap, subst}
use Rattle.std.specs.Prelude.{Vec}
use Rattle.std.specs.declared.alloc.Global.{Global}
use Rattle.std.specs.List.{AllByRecursion}
use Rattle.std.proofs.lemmas.List.{drop_all}
use Rattle.startup.specs.StartupMessage.{HasNoZero}
use Rattle.tracked_parameters.specs.Asked.{after_all}
use Rattle.tracked_parameters.specs.Options.{settings_in}
use Rattle.tracked_parameters.specs.Values.{no_values}
use Rattle.tracked_parameters.specs.StoredReports.{all_items}
use Rattle.tracked_parameters.proofs.OptionLemmas.{arguments_text, argument_at, arguments_more}
use Rattle.tracked_parameters.proofs.asked.asked_in_options.Goals as goal

pub loop-argument-init : goal.loop-argument-init
loop-argument-init c =
    let names = c.args.names.now in
    let all = c.deref-argument-items.result.now in
    let arguments = ap all_items c.deref-argument-items.ensures.value ∙ c.in_ok-arguments.ensures in
    record {
      values = ap (λ (vs : List (Option (List ℕ))). after_all names vs (settings_in false (all_items all))) c.in_ok-values.ensures.values
          ∙ ap (λ (ws : List (List ℕ)). after_all names (no_values names) (settings_in false ws)) arguments;
      fit = c.in_ok-values.ensures.fit;
      texts = subst (AllByRecursion HasNoZero) (sym arguments) (arguments_text c.args.options.now c.requires);
    }

pub ask-requires-clause-text : goal.ask-requires-clause-text
ask-requires-clause-text c =
    argument_at c.deref-argument-items.result.now c.loop-argument.argument-index c.argument-item.result c.deref.result.now c.loop-argument.invariant.texts c.loop-argument-test.true c.argument-item.is c.deref.ensures.value

pub loop-argument-preserved : goal.loop-argument-preserved
loop-argument-preserved c =
    let all = c.deref-argument-items.result.now in
    let place = c.loop-argument.argument-index in
    let more = arguments_more all place c.argument-item.result c.deref.result.now c.loop-argument-test.true c.argument-item.is c.deref.ensures.value in
    record {
      values = c.in_ok-awaited.ensures.ok (all_items (drop (place + 1) all))
          ∙ ap (λ (ws : List (List ℕ)). after_all c.args.names.now c.loop-argument.values (settings_in c.loop-argument.awaited ws)) more
          ∙ c.loop-argument.invariant.values;
      fit = c.in_ok-awaited.ensures.fit;
      texts = c.loop-argument.invariant.texts;
    }

pub returns-clause-values : goal.returns-clause-values
returns-clause-values c =
    let all = c.deref-argument-items.result.now in
    let none = drop_all c.loop-argument.argument-index all c.loop-argument-test.false in
    sym (ap (λ (xs : List (Vec ℕ Global)). after_all c.args.names.now c.loop-argument.values (settings_in c.loop-argument.awaited (all_items xs))) none) ∙ c.loop-argument.invariant.values
