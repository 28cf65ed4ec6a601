use Rattle.std.proofs.Common.{refl, ◌∙◌}
use Rattle.std.proofs.lemmas.List.{drop_all}
use Rattle.command_line.proofs.ArgumentLemmas.{gives_nothing, joined_nothing}
use Rattle.command_line.proofs.arguments.Given.read.Goals as goal

pub returns : goal.returns
returns c =
    let gives = c.loop-at.invariant.gives in
    gives ∙ rw (
      drop_all c.loop-at.at c.args.arguments.now c.loop-at-test.false,
      gives_nothing c.args.command,
      joined_nothing _,
    ) refl
