use Rattle.pg_frames.specs.Passage.{Passage}
use Rattle.std.proofs.Common.{◌∙◌, ap, refl}
use Rattle.session_io.proofs.LoginLemmas.{logged_in}
use Rattle.session_io.proofs.RefusedLemmas.{refused_so}
use Rattle.session_io.proofs.login.server.log_in.Goals as goal

pub returns-in-Ok-read_login-clause-logs_in : goal.returns-in-Ok-read_login-clause-logs_in
returns-in-Ok-read_login-clause-logs_in g c =
    logged_in _ _ _ _ _ _ _ c.first_bytes.result.now c.args.user.now c.args.database.now
    c.in-Ok-read_login.key
    (ap (λ (p : Passage). p.limit) c.in-Ok-with_limit.ensures.ok)
    (c.first_bytes.ensures ∙ c.in-Ok.ensures.request) (c.if-not-write_whole.ensures.whole refl)
    c.in-Ok-read_login.ensures.reads

pub returns-clause-refused : goal.returns-clause-refused
returns-clause-refused g c =
    refused_so _ _ _ _ c.read_login.new.link.stream c.cause_of.new.link.stream _ _
    c.first_bytes.result.now c.args.user.now c.args.database.now c.in-Err.stop c.cause_of.result
    c.read_login.new.link.flow
    (ap (λ (p : Passage). p.limit) c.in-Ok-with_limit.ensures.ok)
    (c.first_bytes.ensures ∙ c.in-Ok.ensures.request) (c.if-not-write_whole.ensures.whole refl)
    c.in-Err.ensures.stops c.cause_of.ensures.tells
