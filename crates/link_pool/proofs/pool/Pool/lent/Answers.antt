use Rattle.std.proofs.Common.{◌≡◌, Some, slice_get, sym, ap, subst, ◌∙◌}
use Rattle.lease.specs.declared.link_place.LinkPlace.{LinkPlace}
use Rattle.link_pool.specs.declared.place.Claim.TheVariants as claim
use Rattle.link_pool.specs.Pool.{PoolView}
use Rattle.link_pool.specs.OnePlace.{IsPool}
use Rattle.link_pool.specs.Parts.{IsLent}
use Rattle.link_pool.proofs.Handing.{its_place, lent_link, claimed_link}
use Rattle.link_pool.proofs.pool.Pool.lent.Goals as goal

pub returns-in_default-link_at-clause-none : goal.returns-in_default-link_at-clause-none
returns-in_default-link_at-clause-none g c =
    let v : PoolView = c.args.self.now.view in
    let whole : IsPool v = c.claim.ensures.whole in
    let h : slice_get v.claims c.args.slot ≡ Some (claim.Link c.in-Some-link.at) = sym c.claim.ensures.value ∙ c.in-Some.is ∙ ap Some c.in-Some-link.ensures.link in
    let claimed = claimed_link v c.args.slot c.in-Some-link.at whole h in
    absurd (c.in_default-link_at.ensures.none claimed.link claimed.is)

pub returns-clause-lent : goal.returns-clause-lent
returns-clause-lent g c =
    let v : PoolView = c.args.self.now.view in
    let whole : IsPool v = c.claim.ensures.whole in
    let h : slice_get v.claims c.args.slot ≡ Some (claim.Link c.in-Some-link.at) = sym c.claim.ensures.value ∙ c.in-Some.is ∙ ap Some c.in-Some-link.ensures.link in
    let there = c.in-Some-link_at.ensures.link in
    subst (λ (k : LinkPlace). IsLent c.args.slot k c.in-Some-link_at.link v) (sym (its_place v c.in-Some-link.at c.in-Some-link_at.link whole there)) (lent_link v c.args.slot c.in-Some-link.at c.in-Some-link_at.link whole h there)
