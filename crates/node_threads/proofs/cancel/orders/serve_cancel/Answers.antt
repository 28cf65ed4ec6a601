use Rattle.std.proofs.Common.{refl}
use Rattle.node_core.specs.declared.exchange.Order.TheVariants as order
use Rattle.node_threads.proofs.CarryingLemmas.{same-packet}
use Rattle.node_threads.proofs.Balancing.{order-balanced, order-once, report-balanced, report-once}
use Rattle.node_threads.proofs.cancel.orders.serve_cancel.Goals as goal

pub returns-in-Serve-clause-served : goal.returns-in-Serve-clause-served
returns-in-Serve-clause-served g c = record {
  given = order.Serve c.in-Serve.ticket c.in-Serve.database c.in-Serve.server;
  end = c.serve-outcome.result;
  between = _;
  asked = c.in-Serve.ensures.counted;
  settled = c.serve-outcome.ensures.told;
  counted = (_, c.count.ensures.counted, (_, c.count_outcome.ensures.counted, refl));
  told = c.serve-outcome.ensures.finished.0;
  verdict = same-packet _ _ _ _ _ _ _ _ c.server_request-packet.ensures
      c.serve-outcome.ensures.finished.1;
  finished = c.serve-outcome.ensures.finished.2;
}

pub returns-in-Serve-clause-balanced : goal.returns-in-Serve-clause-balanced
returns-in-Serve-clause-balanced g c =
    report-balanced _ _ _ _ _ _ c.in-Serve.ticket c.serve-outcome.result c.in-Serve.ensures.counted refl
    c.serve-outcome.ensures.told

pub returns-in-Serve-clause-once : goal.returns-in-Serve-clause-once
returns-in-Serve-clause-once g c =
    report-once _ _ _ _ _ _ c.in-Serve.ticket c.serve-outcome.result c.in-Serve.ensures.counted
    c.serve-outcome.ensures.told

pub returns-in-Forward-clause-balanced : goal.returns-in-Forward-clause-balanced
returns-in-Forward-clause-balanced g c =
    order-balanced _ _ _ _ _ c.in-Forward.ensures.counted refl

pub returns-in-Forward-clause-once : goal.returns-in-Forward-clause-once
returns-in-Forward-clause-once g c =
    order-once _ _ _ _ _ c.in-Forward.ensures.counted

pub returns-in-Unwait-clause-balanced : goal.returns-in-Unwait-clause-balanced
returns-in-Unwait-clause-balanced g c =
    order-balanced _ _ _ _ _ c.in-Unwait.ensures.counted refl

pub returns-in-Unwait-clause-once : goal.returns-in-Unwait-clause-once
returns-in-Unwait-clause-once g c =
    order-once _ _ _ _ _ c.in-Unwait.ensures.counted

pub returns-in-Refused-clause-balanced : goal.returns-in-Refused-clause-balanced
returns-in-Refused-clause-balanced g c =
    order-balanced _ _ _ _ _ c.in-Refused.ensures.counted refl

pub returns-in-Refused-clause-once : goal.returns-in-Refused-clause-once
returns-in-Refused-clause-once g c =
    order-once _ _ _ _ _ c.in-Refused.ensures.counted
