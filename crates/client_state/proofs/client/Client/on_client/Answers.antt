use Rattle.std.proofs.Common.{◌≡◌, sym, ap, length, arith}
use Rattle.client_state.specs.Session.{Session}
use Rattle.client_state.specs.declared.client_message.ClientMessage.TheVariants.{Gathered}
use Rattle.client_state.specs.ClientMessage.{client_message}
use Rattle.client_state.proofs.MessageLemmas.{part_fits}
use Rattle.client_state.proofs.client.Client.on_client.Goals as goal

pub gather-requires : goal.gather-requires
gather-requires c =
    let gathered : length c.self.inside.gathered.items ≡ length c.args.self.now.gathered =
    ap (λ (s : Session). length s.gathered) c.self.view_is in
    let limit : c.self.inside.limit ≡ c.args.self.now.limit =
    ap (λ (s : Session). s.limit) c.self.view_is in
    let is : client_message c.self.inside.limit c.len.result c.args.frame.now ≡ Gathered = sym c.in-Gathered.ensures in
    omega (
      arith,
      gathered,
      limit,
      c.len.ensures,
      part_fits c.self.inside.limit c.len.result c.args.frame.now is,
    )
