use Rattle.std.proofs.Common.{◌≡◌, ℕ, Some, sym, subst, ◌∙◌}
use Rattle.link_pool.specs.declared.place.{Place.Place}
use Rattle.std.proofs.lemmas.Option.{none-some, same_Some}
use Rattle.world.specs.LinkEvents.{IsLeased}
use Rattle.world.proofs.Asked.{key_there, process_there}
use Rattle.world.proofs.state.State.process_of.Goals as goal

pub unreachable-requires-in_default-server_key : goal.unreachable-requires-in_default-server_key
unreachable-requires-in_default-server_key c =
    let has = rw (← c.self.view_is) at c.requires in
    let is = c.in-Some.ensures.found in
    let there = key_there _ c.args.lease.now has is.0 c.in-Some.core.now.view c.in-Some.ensures.apart is.1 in
    let read : c.place.result ≡ Some (Place.Link has.link) = rw (c.place.ensures.value, c.links.ensures) there in
    none-some has.link.key (sym c.in_default-server_key.is ∙ c.server_key.ensures has.link read)

pub unreachable-requires-in_default-server_of : goal.unreachable-requires-in_default-server_of
unreachable-requires-in_default-server_of c =
    let has = rw (← c.self.view_is) at c.requires in
    c.in_default-server_of.ensures.none has.backend.server has.server

pub unreachable-requires-in_default-find : goal.unreachable-requires-in_default-find
unreachable-requires-in_default-find c =
    let has = rw (← c.self.view_is) at c.requires in
    let is = c.in-Some.ensures.found in
    let there = key_there _ c.args.lease.now has is.0 c.in-Some.core.now.view c.in-Some.ensures.apart is.1 in
    let read : c.place.result ≡ Some (Place.Link has.link) = rw (c.place.ensures.value, c.links.ensures) there in
    let key = same_Some c.in-Some-server_key.key has.link.key
    (sym c.in-Some-server_key.is ∙ c.server_key.ensures has.link read) in
    let named = process_there _ c.args.lease.now has c.in-Some-server_of.server c.in-Some-server_key.key key
    (c.in-Some-server_of.ensures.one has.backend.server c.in-Some-server_of.server has.server
    c.in-Some-server_of.ensures.found) in
    none-some has.at (c.in_default-find.ensures.only has.at has.backend named)

pub returns : goal.returns
returns c =
    let has = rw (← c.self.view_is) at c.requires in
    let is = c.in-Some.ensures.found in
    let there = key_there _ c.args.lease.now has is.0 c.in-Some.core.now.view c.in-Some.ensures.apart is.1 in
    let read : c.place.result ≡ Some (Place.Link has.link) = rw (c.place.ensures.value, c.links.ensures) there in
    let key = same_Some c.in-Some-server_key.key has.link.key
    (sym c.in-Some-server_key.is ∙ c.server_key.ensures has.link read) in
    let named = process_there _ c.args.lease.now has c.in-Some-server_of.server c.in-Some-server_key.key key
    (c.in-Some-server_of.ensures.one has.backend.server c.in-Some-server_of.server has.server
    c.in-Some-server_of.ensures.found) in
    let at : c.in-Some-find.at ≡ has.at = same_Some c.in-Some-find.at has.at
    (c.in-Some-find.ensures.only has.at has.backend named) in
    let leased = subst (λ (n : ℕ). IsLeased c.self.inside.backends.rows c.args.lease.now n has.backend) (sym at) has.leased in
    rw (← c.self.view_is) (has.backend, leased)
