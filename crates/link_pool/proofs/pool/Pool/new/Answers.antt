use Rattle.std.proofs.Common.{rules, ◌≡◌, ℕ, ◌++◌, ◌∷◌, [], sym, ap, ◌∙◌, arith, refl, map, replicate, get_or, take, take_all}
use Rattle.std.proofs.lemmas.List.{map-append, take_more, length-replicate}
use Rattle.link_pool.specs.declared.place.Claim.TheVariants as claim
use Rattle.link_pool.specs.Entries.{new_links}
use Rattle.link_pool.proofs.NewLinks.{new_seen, new_stored, whole_fresh}
use Rattle.link_pool.proofs.pool.Pool.new.Goals as goal

pub loop-size-preserved : goal.loop-size-preserved
loop-size-preserved g c =
    let room = c.loop-size.invariant.room in
    let count = c.loop-size.invariant.count in
    let capacity = c.push_reserved.ensures.capacity in
    let len = c.push_reserved.ensures.len in
    let size : ℕ = get_or c.args.pool_sizes.now c.loop-size.size-index 0 in
    record {
      room = omega (arith, room, capacity);
      count = omega (arith, count, len);
      made = c.push_reserved.ensures.items
          ∙ ap (λ p. c.loop-size.pools.items ++ p ∷ []) c.in_ok-new.ensures
          ∙ ap (λ ps. ps ++ new_links size ∷ []) c.loop-size.invariant.made
          ∙ sym (map-append (λ n. new_links n) (take c.loop-size.size-index c.args.pool_sizes.now) (size ∷ []))
          ∙ ap (map (λ n. new_links n)) (sym (take_more c.args.pool_sizes.now c.loop-size.size-index 0 c.loop-size-test.true));
    }

pub invariant_of-result : goal.invariant_of-result
invariant_of-result g c =
    let claims : c.in_ok-claims.claims.items ≡ replicate c.args.slots claim.Nothing = search rules in
    let all : take c.loop-size.size-index c.args.pool_sizes.now ≡ c.args.pool_sizes.now = take_all c.loop-size.size-index c.args.pool_sizes.now c.loop-size-test.false in
    (rw (claims, c.in_ok-queues.ensures, c.loop-size.invariant.made, all, new_seen g.row.S.Denot c.args.pool_sizes.now, c.new-3.ensures, c.new-4.ensures, c.new-5.ensures) (whole_fresh c.args.me c.args.pool_sizes.now c.args.slots), rw (claims, c.in_ok-queues.ensures) (sym (length-replicate c.args.slots claim.Nothing)))

pub returns : goal.returns
returns g c =
    let claims : c.in_ok-claims.claims.items ≡ replicate c.args.slots claim.Nothing = search rules in
    let all : take c.loop-size.size-index c.args.pool_sizes.now ≡ c.args.pool_sizes.now = take_all c.loop-size.size-index c.args.pool_sizes.now c.loop-size-test.false in
    record {
      view = rw (claims, c.in_ok-queues.ensures, c.loop-size.invariant.made, all, new_seen g.row.S.Denot c.args.pool_sizes.now, c.new-3.ensures, c.new-4.ensures, c.new-5.ensures) refl;
      streams = rw (c.loop-size.invariant.made, all) (new_stored g.row.S.Denot c.args.pool_sizes.now);
    }
