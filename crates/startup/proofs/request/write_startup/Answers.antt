use Rattle.startup.proofs.RequestLemmas.{session_begun}
use Rattle.startup.proofs.request.write_startup.Goals as goal

pub returns-clause-read : goal.returns-clause-read
returns-clause-read c =
    λ named seen after at_end. session_begun c.args.user.now c.args.database.now after (record { utf8 = c.utf8.user; no_zero = c.requires.user }) named (record { utf8 = c.utf8.database; no_zero = c.requires.database }) c.requires.short seen at_end
