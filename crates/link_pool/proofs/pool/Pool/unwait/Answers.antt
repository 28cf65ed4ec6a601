use Rattle.std.proofs.Common.{◌≡◌, ◌∙◌, ℕ, Some, slice_get}
use Rattle.link_pool.specs.declared.place.Claim.TheVariants as claim
use Rattle.link_pool.specs.Pool.{PoolView}
use Rattle.link_pool.proofs.Asking.{cancelled_whole, cancelled_after}
use Rattle.link_pool.proofs.pool.Pool.unwait.Goals as goal

pub set_claim-requires-clause-whole : goal.set_claim-requires-clause-whole
set_claim-requires-clause-whole g c =
    let v : PoolView = c.args.self.now.view in
    let d : ℕ = c.in-Some-Waiting.field-0-0 in
    let e = c.claim.ensures.value in
    let i = c.in-Some-Waiting.is in
    let j = c.in-Some-Waiting.field-0-is in
    let has : slice_get v.claims c.args.slot ≡ Some (claim.Waiting d) = cc (e, i, j) in
    cancelled_whole v c.leave_queue.new.self.view c.args.slot d has c.leave_queue.ensures.view c.leave_queue.ensures.whole

pub returns-in-Some-Waiting-clause-step : goal.returns-in-Some-Waiting-clause-step
returns-in-Some-Waiting-clause-step g c =
    let v : PoolView = c.args.self.now.view in
    let d : ℕ = c.in-Some-Waiting.field-0-0 in
    let e = c.claim.ensures.value in
    let i = c.in-Some-Waiting.is in
    let j = c.in-Some-Waiting.field-0-is in
    let has : slice_get v.claims c.args.slot ≡ Some (claim.Waiting d) = cc (e, i, j) in
    c.set_claim.ensures.view ∙ cancelled_after v c.leave_queue.new.self.view c.args.slot d has c.leave_queue.ensures.view
