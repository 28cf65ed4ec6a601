use Rattle.std.proofs.Common.{◌∙◌, refl}
use Rattle.node_threads.specs.Balance.{nothing}
use Rattle.node_threads.specs.Meaning.{moment}
use Rattle.node_threads.proofs.Balancing.{moves_on, moves_nothing}
use Rattle.node_threads.proofs.ServingLemmas.{stays_unmade, stays_ungreeted, serving_greeted, serving_next, serving_last}
use Rattle.node_threads.proofs.session.client.serve_pass.Goals as goal

pub returns-in_default-clause-stays : goal.returns-in_default-clause-stays
returns-in_default-clause-stays g c =
    stays_unmade _ _ _ _ _ c.error.result c.args.cutter.now.bytes _ c.error.ensures

pub returns-in-Some-clause-stays : goal.returns-in-Some-clause-stays
returns-in-Some-clause-stays g c =
    stays_ungreeted _ _ _ _ _ _ c.in-Some.end c.args.cutter.now.bytes _ c.in-Some.ensures

pub loop-init : goal.loop-init
loop-init g c = (
  moves_nothing nothing _ _ refl,
  c.with_limit-session.ensures,
  serving_greeted _ _ _ _ _ _ c.args.cutter.now.bytes _ c.greet.result c.in_default-greet.is c.greet.ensures,
  c.requires.cutter,
)

pub loop-preserved : goal.loop-preserved
loop-preserved g c =
    let on = serving_next _ _ _ _ c.args.database _ _ _ _
    (moment c.loop.cutter.bytes c.loop.caller) _ c.loop.session _ c.serve_request-ended.result c.loop.invariant.1 c.in_default-ended.is
    c.serve_request-ended.ensures.session c.loop.invariant.2 c.serve_request-ended.ensures.serves
    in (
      moves_on nothing nothing nothing _ _ _ c.loop.invariant.0
          c.serve_request-ended.ensures.balanced,
      on.0,
      on.1,
      c.serve_request-ended.ensures.limit ∙ c.loop.invariant.3,
    )

pub returns-in-Some-ended-clause-stays : goal.returns-in-Some-ended-clause-stays
returns-in-Some-ended-clause-stays g c =
    serving_last _ _ _ _ c.args.database _ _ _ _
    (moment c.loop.cutter.bytes c.loop.caller) _ c.loop.session c.serve_request-ended.result c.in-Some-ended.end c.loop.invariant.1
    c.in-Some-ended.is c.loop.invariant.2 c.serve_request-ended.ensures.serves
