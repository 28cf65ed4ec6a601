use Rattle.std.proofs.Common.{◌∙◌, ap}
use Rattle.std.proofs.lemmas.Result.{MatchResult-weaker}
use Rattle.world_script.specs.Outcome.{outcome}
use Rattle.answer.proofs.outcome.run_text.Goals as goal

pub returns : goal.returns
returns c =
    let world = c.in_ok-world.world in
    MatchResult-weaker c.text_of.result c.text_of.ensures
    (λ text is. record {
      took = c.in_ok-world.took.items;
      world = world;
      run = c.in_ok-world.ensures.run;
      safe = c.in_ok-world.ensures.safe;
      text_is = is ∙ ap (λ took. outcome took world.interrupts) c.deref.ensures.value;
    })
    (λ fault is. is)
