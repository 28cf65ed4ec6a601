use Rattle.std.proofs.Common.{rules, ◌≡◌, None, Some, length, vec_len, sym, ap, subst, arith, ◌∙◌, refl, length-set}
use Rattle.lease.specs.declared.link_place.LinkPlace.{LinkPlace}
use Rattle.link_pool.specs.declared.entry.Entry.TheVariants as entry
use Rattle.link_pool.specs.declared.place.Claim.TheVariants as claim
use Rattle.link_pool.specs.Pool.{PoolView, free_in, free_at, keep}
use Rattle.link_pool.specs.Stacks.{top, under_top}
use Rattle.link_pool.specs.OnePlace.{IsPool}
use Rattle.link_pool.specs.PoolOf.{pool_of}
use Rattle.link_pool.proofs.Entries.{free_seen, pool_seen, pool_within, read_at, wrote_placed, wrote_streamed, stays}
use Rattle.link_pool.proofs.Whole.{next_is_free}
use Rattle.link_pool.proofs.pool.Pool.keep.Goals as goal

pub index_mut-pool-requires : goal.index_mut-pool-requires
index_mut-pool-requires g c =
    let pools = c.self.inside.pools.items in
    let v : PoolView = (pool_of c.self.inside).view in
    let permit = c.args.permit.now in
    let at : LinkPlace = permit.at in
    let next : top (free_at v at.database) ≡ Some at.index = subst (λ w. top (free_at w.view at.database) ≡ Some at.index) (sym c.self.view_is) c.requires.next in
    let is = free_seen pools at (next_is_free v at c.self.invariant.0 next) in
    let within = pool_within pools at entry.Free is in
    let len : vec_len c.self.inside.pools ≡ length c.self.inside.pools.items = search rules in
    let index = c.get-2.ensures in
    omega (arith, within, len, index)

pub keep-requires : goal.keep-requires
keep-requires g c =
    let pools = c.self.inside.pools.items in
    let v : PoolView = (pool_of c.self.inside).view in
    let permit = c.args.permit.now in
    let at : LinkPlace = permit.at in
    let next : top (free_at v at.database) ≡ Some at.index = subst (λ w. top (free_at w.view at.database) ≡ Some at.index) (sym c.self.view_is) c.requires.next in
    let is = free_seen pools at (next_is_free v at c.self.invariant.0 next) in
    let pool = c.index_mut-pool.result.now in
    let there = read_at pools at c.get-2.result pool entry.Free c.get-2.ensures is c.index_mut-pool.ensures.value in
    ap (λ o. top (free_in o)) (sym (pool_seen pools at.database pool there)) ∙ next

pub invariant_of-self : goal.invariant_of-self
invariant_of-self g c =
    let pools = c.self.inside.pools.items in
    let v : PoolView = (pool_of c.self.inside).view in
    let permit = c.args.permit.now in
    let at : LinkPlace = permit.at in
    let next : top (free_at v at.database) ≡ Some at.index = subst (λ w. top (free_at w.view at.database) ≡ Some at.index) (sym c.self.view_is) c.requires.next in
    let is = free_seen pools at (next_is_free v at c.self.invariant.0 next) in
    let pool = c.index_mut-pool.result.now in
    let there = read_at pools at c.get-2.result pool entry.Free c.get-2.ensures is c.index_mut-pool.ensures.value in
    let now = entry.Open permit c.args.slot in
    let seen = wrote_placed pools at c.get-2.result pool c.keep.new.self now under_top c.get-2.ensures there c.keep.ensures in (
      rw (seen, c.get.ensures) (subst (λ w. IsPool (keep w.view c.args.slot permit)) (sym c.self.view_is) c.requires.whole),
      c.self.invariant.1 ∙ sym (length-set c.self.inside.claims.items c.get.result (claim.Open at)),
    )

pub returns : goal.returns
returns g c =
    let pools = c.self.inside.pools.items in
    let v : PoolView = (pool_of c.self.inside).view in
    let permit = c.args.permit.now in
    let at : LinkPlace = permit.at in
    let next : top (free_at v at.database) ≡ Some at.index = subst (λ w. top (free_at w.view at.database) ≡ Some at.index) (sym c.self.view_is) c.requires.next in
    let is = free_seen pools at (next_is_free v at c.self.invariant.0 next) in
    let pool = c.index_mut-pool.result.now in
    let there = read_at pools at c.get-2.result pool entry.Free c.get-2.ensures is c.index_mut-pool.ensures.value in
    let now = entry.Open permit c.args.slot in
    let seen = wrote_placed pools at c.get-2.result pool c.keep.new.self now under_top c.get-2.ensures there c.keep.ensures in
    let kept = wrote_streamed pools at c.get-2.result pool c.keep.new.self now under_top c.get-2.ensures there c.keep.ensures in
    record {
      view = rw (← c.self.view_is, seen, c.get.ensures) refl;
      streams = rw (← c.self.view_is, kept) (stays pools at entry.Free None is refl);
      whole = (invariant_of-self g c).0;
    }
