use Rattle.std.proofs.Common.{refl}
use Rattle.link_pool.proofs.Handing.{of_held, vacated}
use Rattle.link_pool.proofs.pool.Pool.close.Goals as goal

pub change-requires-clause-slot : goal.change-requires-clause-slot
change-requires-clause-slot g c =
    let of = of_held c.args.self.now.view c.details-details.result _ _ c.held.ensures.whole c.in-Some.ensures.held in of.within

pub change-requires-clause-whole : goal.change-requires-clause-whole
change-requires-clause-whole g c =
    vacated c.args.self.now.view c.details-details.result.at _ c.held.ensures.whole (of_held c.args.self.now.view c.details-details.result _ _ c.held.ensures.whole c.in-Some.ensures.held) refl
