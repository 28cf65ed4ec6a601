use Rattle.std.proofs.Common.{◌∙◌, Ok, ap}
use Rattle.session_io.proofs.login.server.take_body.Goals as goal

pub returns-in-Up : goal.returns-in-Up
returns-in-Up c frames frame reached =
    (c.on_body.ensures.up frames frame reached c.in-Up.key).0 (c.in-Ok.is ∙ ap Ok c.in-Up.is)
