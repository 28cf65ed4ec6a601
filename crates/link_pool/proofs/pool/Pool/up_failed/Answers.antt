use Rattle.std.proofs.Common.{refl}
use Rattle.link_pool.proofs.Handing.{of_open, vacated}
use Rattle.link_pool.proofs.pool.Pool.up_failed.Goals as goal

pub change-requires-clause-slot : goal.change-requires-clause-slot
change-requires-clause-slot g c =
    let of = of_open c.args.self.now.view c.spend-permit.result c.in-Some.slot c.opener.ensures.whole c.in-Some.ensures.kept in of.within

pub change-requires-clause-whole : goal.change-requires-clause-whole
change-requires-clause-whole g c =
    vacated c.args.self.now.view c.spend-permit.result.at c.in-Some.slot c.opener.ensures.whole (of_open c.args.self.now.view c.spend-permit.result c.in-Some.slot c.opener.ensures.whole c.in-Some.ensures.kept) refl
