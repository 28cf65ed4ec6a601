use Rattle.std.proofs.Common.{rules, inl, inr, refl}
use Rattle.node_threads.specs.Balance.{a_permit, nothing}
use Rattle.node_threads.proofs.Balancing.{moves_on, up_moves, up_failed_moves}
use Rattle.node_threads.proofs.LeaseLemmas.{went_up}
use Rattle.node_threads.proofs.session.leases.put_up.Goals as goal

pub returns-in-Exhausted : goal.returns-in-Exhausted
returns-in-Exhausted g c = record {
  at = tt;
  link = tt;
  key = tt;
  moves = moves_on a_permit a_permit nothing _ _ _
      (up_moves c.args.permit c.args.opened.key _ _ _ _ _ c.in-Exhausted.ensures.counted)
      (up_failed_moves c.in-Exhausted.permit _ _ _ _ _ c.up_failed-reply.ensures.counted);
  opened = inr (inl (
    c.in-Exhausted.permit,
    _,
    went_up _ _ _ _ _ _ c.in-Exhausted.ensures.counted,
    (_, c.up_failed-reply.ensures.counted),
    refl,
  ));
}

pub returns-in-Up-clause-opened : goal.returns-in-Up-clause-opened
returns-in-Up-clause-opened g c = (search rules, went_up _ _ _ _ _ _ c.in-Up.ensures.counted)

pub returns-in-Stale-clause-opened : goal.returns-in-Stale-clause-opened
returns-in-Stale-clause-opened g c =
    inl (_, refl, went_up _ _ _ _ _ _ c.in-Stale.ensures.counted)

pub returns-clause-opened : goal.returns-clause-opened
returns-clause-opened g c =
    inl (_, refl, went_up _ _ _ _ _ _ c.in-AtEnd.ensures.counted)
