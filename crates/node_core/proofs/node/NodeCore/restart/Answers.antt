use Rattle.std.proofs.Common.{rules, ◌≡◌, ◌∙◌, ℕ, ap, sym, None, replicate, length, vec_len, arith}
use Rattle.std.specs.Option.{is_some}
use Rattle.std.proofs.lemmas.List.{length-map}
use Rattle.link_pool.specs.declared.place.Claim.{Claim}
use Rattle.node_core.specs.ViewOf.{node_of}
use Rattle.node_core.proofs.Clients.{none_view, has_lengths}
use Rattle.node_core.proofs.Links.{sizes_emptied}
use Rattle.node_core.proofs.node.NodeCore.restart.Goals as goal

pub invariant_of-self : goal.invariant_of-self
invariant_of-self g c =
    let node = (node_of c.self.inside).view in
    let known = c.self.invariant in
    let slots = vec_len c.self.inside.clients in
    let len : slots ≡ length node.clients = search rules in
    let free : c.fill.new.self.items ≡ replicate slots None = search rules in
    let entries : length node.keys.entries ≡ slots =
    sym (length-map node.keys.entries is_some) ∙ ap length known.live
    ∙ length-map node.clients is_some ∙ sym len in
    let claims = sym (has_lengths node.clients node.links.claims known.has) ∙ sym len in
    let step = c.in-Restarted.ensures.step.0 in
    let clear = c.clear.ensures in
    none_view _ slots (clear.peer ∙ known.own.0) (rw step known.own.1) clear.next
    (clear.free ∙ ap (λ (n : ℕ). replicate n None) entries) free
    (rw step (ap (λ (n : ℕ). replicate n Claim.Nothing) claims))
    (rw step (sizes_emptied node.links.pools ∙ known.sized))
    (known.numbers.0, let zero_is = c.new-self-inside.ensures in omega (arith, zero_is))
