use Rattle.std.proofs.Common.{◌≡◌, ◌<◌, length, arith, sym, ap, ◌∙◌, subst}
use Rattle.std.specs.Prelude.{All, AllPairs}
use Rattle.std.proofs.lemmas.List.{length-map}
use Rattle.world_script.specs.Peers.{NodeLine, numbers_of, peers_of}
use Rattle.world_script.proofs.PeerLemmas.{peers-fewer, peers-above_zero, peers-differ}
use Rattle.world_script.proofs.peers.settings_among.Goals as goal

peers-are : (c : goal.After-clients) → c.in_ok-peers.peers.items ≡ peers_of c.args.node.now.number (numbers_of c.args.nodes.now)
peers-are c = c.in_ok-peers.ensures ∙ ap (λ n. peers_of n (numbers_of c.args.nodes.now)) c.number.ensures

pub plain-requires-clause-peers : goal.plain-requires-clause-peers
plain-requires-clause-peers c =
    let numbers = numbers_of c.args.nodes.now in
    omega (arith, ap length (peers-are c), peers-fewer c.args.node.now.number numbers c.requires.among, length-map c.args.nodes.now (λ (n : NodeLine). n.number), c.requires.few)

pub plain-requires-clause-numbered : goal.plain-requires-clause-numbered
plain-requires-clause-numbered c = subst (All (λ n. 0 < n)) (sym (peers-are c)) (peers-above_zero c.args.node.now.number (numbers_of c.args.nodes.now))

pub plain-requires-clause-distinct : goal.plain-requires-clause-distinct
plain-requires-clause-distinct c = subst (AllPairs (λ a b. a ≡ b → ⊥)) (sym (peers-are c)) (peers-differ c.args.node.now.number (numbers_of c.args.nodes.now))
