use Rattle.std.proofs.Common.{rules, ◌≡◌, Some, slice_get, refl}
use Rattle.link_pool.specs.declared.place.Claim.TheVariants as claim
use Rattle.link_pool.proofs.Whole.{reclaimed}
use Rattle.link_pool.proofs.pool.Pool.take_cancelled.Goals as goal

pub set_claim-requires-clause-whole : goal.set_claim-requires-clause-whole
set_claim-requires-clause-whole g c =
    let had : slice_get c.args.self.now.view.claims c.args.slot ≡ Some claim.Cancelled = search rules in
    reclaimed c.args.self.now.view c.args.slot claim.Cancelled claim.Nothing c.claim.ensures.whole had (λ k. refl) (λ d. refl)
