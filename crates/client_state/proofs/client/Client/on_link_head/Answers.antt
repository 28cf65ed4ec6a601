use Rattle.client_state.proofs.client.Client.on_link_head.Goals as goal

pub close-requires : goal.close-requires
close-requires c = c.of_link.ensures.above c.args.self.now.limit
