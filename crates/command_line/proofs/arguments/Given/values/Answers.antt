use Rattle.std.proofs.Common.{◌∙◌, rules, tests}
use Rattle.std.proofs.lemmas.Iterator.{YieldsList-from_map_by, YieldsList-from_slice}
use Rattle.std.proofs.lemmas.Iterator.Consumers.{YieldsList-at, YieldsList-from_filter, map_from_collect}
use Rattle.std.proofs.lemmas.Result.{IfOk-weaker}
use Rattle.command_line.specs.Options.{same_option}
use Rattle.command_line.proofs.ArgumentLemmas.{values_read}
use Rattle.command_line.proofs.arguments.Given.values.Goals as goal

pub returns : goal.returns
returns c =
    IfOk-weaker c.collect.result _ _ (λ values is. is
    ∙ values_read c.args.name c.args.self.now.options.items)
    (map_from_collect _ c.collect.ensures.ran
    (YieldsList-from_map_by _ (λ v. v.now) (λ option. option.value.now)
    (YieldsList-at c.map.ensures.source
    (YieldsList-from_filter _ (λ option. same_option c.args.name option.name)
    (YieldsList-at c.filter.ensures.source
    (YieldsList-from_slice c.args.self.now.options.items cc)) c.filter.ensures.closure
    (λ x r q k. search (rules, tests)))) c.map.ensures.closure (λ x r q k. search (rules, tests))))
