use Rattle.std.proofs.lemmas.Option.{same_Some, none-some}
use Rattle.world.proofs.Orders.{same_target}
use Rattle.world.proofs.state.arrivals.target_of.Goals as goal

pub returns-in_err-server : goal.returns-in_err-server
returns-in_err-server c server place backend one is_server is_backend =
    absurd (c.in_err-server.ensures.none server is_server)

pub returns-in_err-backend : goal.returns-in_err-backend
returns-in_err-backend c server place backend one is_server is_backend =
    let same = one c.args.node c.args.database server c.in_ok-server.server is_server c.in_ok-server.ensures.found in
    absurd (none-some place (c.in_err-backend.ensures.only place backend (rw same at is_backend)))

pub returns : goal.returns
returns c server place backend one is_server is_backend =
    let same = one c.args.node c.args.database server c.in_ok-server.server is_server c.in_ok-server.ensures.found in
    same_target server c.in_ok-server.server c.in_ok-backend.backend place same
    (same_Some c.in_ok-backend.backend place (c.in_ok-backend.ensures.only place backend (rw same at is_backend)))
