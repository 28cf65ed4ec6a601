use Rattle.std.proofs.Common.{◌≡◌, true, sym, subst, ◌∙◌, refl, length-set}
use Rattle.link_pool.specs.Pool.{place_at}
use Rattle.link_pool.specs.OnePlace.{IsPool}
use Rattle.link_pool.specs.Entries.{stream_of}
use Rattle.link_pool.specs.Parts.{is_taken, with_client}
use Rattle.link_pool.proofs.Entries.{taken_seen, read_at, wrote_place, wrote_stream, stores}
use Rattle.link_pool.proofs.pool.Pool.change.Goals as goal

pub invariant_of-self : goal.invariant_of-self
invariant_of-self g c =
    let pools = c.self.inside.pools.items in
    let at = c.args.at.now in
    let bare = taken_seen pools at (subst (λ w. is_taken (place_at w.view at) ≡ true) (sym c.self.view_is) c.requires.taken) in
    let there = read_at pools at c.get-2.result c.index_mut-pool.result.now bare.was c.get-2.ensures bare.is c.index_mut-pool.ensures.value in
    let seen = wrote_place pools at c.get-2.result c.index_mut-pool.result.now c.put.new.self c.args.entry c.get-2.ensures there c.put.ensures in
    (rw (seen, c.get.ensures, c.claim.ensures) (subst (λ w. IsPool (with_client w.view at c.args.slot c.args.entry)) (sym c.self.view_is) c.requires.whole), c.self.invariant.1 ∙ sym (length-set c.self.inside.claims.items c.get.result c.claim.result))

pub returns : goal.returns
returns g c =
    let pools = c.self.inside.pools.items in
    let at = c.args.at.now in
    let bare = taken_seen pools at (subst (λ w. is_taken (place_at w.view at) ≡ true) (sym c.self.view_is) c.requires.taken) in
    let there = read_at pools at c.get-2.result c.index_mut-pool.result.now bare.was c.get-2.ensures bare.is c.index_mut-pool.ensures.value in
    let seen = wrote_place pools at c.get-2.result c.index_mut-pool.result.now c.put.new.self c.args.entry c.get-2.ensures there c.put.ensures in
    let kept = wrote_stream pools at c.get-2.result c.index_mut-pool.result.now c.put.new.self c.args.entry c.get-2.ensures there c.put.ensures in
    record {
      view = rw (← c.self.view_is, seen, c.get.ensures, c.claim.ensures) refl;
      streams = rw (← c.self.view_is, kept) (stores pools at bare.was (stream_of c.args.entry) bare.is bare.no_stream);
      whole = (invariant_of-self g c).0;
    }
