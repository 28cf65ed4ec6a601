use Rattle.std.proofs.Common.{arith, ◌-◌, ◌∙◌, take, drop}
use Rattle.std.proofs.lemmas.Result.{err_from_is_err_and}
use Rattle.startup.specs.Kinds.{Seen}
use Rattle.startup.specs.FirstPacket.{StartsWith, Decides, Startup}
use Rattle.startup.specs.StartupMessage.{unless_empty}
use Rattle.startup.specs.declared.startup_error.StartupError.TheVariants.{BadText, NoUser}
use Rattle.startup.proofs.ParameterLemmas.{empty}
use Rattle.startup.proofs.DecisionLemmas.{undecided_startup}
use Rattle.startup.proofs.AnswerLemmas.{refused, undecided, starts_with_body, begun, unnamed, wanting, told_startup}
use Rattle.startup.proofs.session.read_startup.Goals as goal
use Rattle.startup.proofs.session.read_startup.Goals.{After-read, Else-is_empty}

pub returns-then-so_far-used : goal.returns-then-so_far-used
returns-then-so_far-used c =
    λ seen. undecided seen c.args.so_far.now c.args.at_end c.unfinished.result (undecided_startup c.args.kind seen c.args.so_far.now c.requires.stands c.requires.code (omega (arith, c.requires.length))) c.unfinished.ensures

-- the whole packet stands
starts : (c : After-read) → StartsWith c.args.kind c.args.so_far.now (take (c.args.header.length - 8) (drop 8 c.args.so_far.now))
starts c =
    starts_with_body c.args.kind c.args.so_far.now c.args.header.length (record { below = λ i. omega (arith, c.type_inv.so_far i) }) c.requires.stands c.requires.code c.requires.length (omega arith)

-- it begins a session
session : (c : Else-is_empty) → StartsWith c.args.kind c.args.so_far.now (take (c.args.header.length - 8) (drop 8 c.args.so_far.now)) → (seen : Seen) → Decides seen c.args.so_far.now (Startup c.args.kind c.in-Some.session.user.now (unless_empty c.in-Some.session.database.now c.in-Some.session.user.now) c.args.header.length)
session c whole =
    begun c.args.kind c.args.so_far.now c.args.header.length c.in-Some.session whole c.requires.stands c.requires.length (omega arith) c.in-Some.ensures.found c.if-is_empty.ensures

pub returns-in_default : goal.returns-in_default
returns-in_default c =
    λ seen. refused seen c.args.so_far.now c.args.at_end BadText (c.args.kind, take (c.args.header.length - 8) (drop 8 c.args.so_far.now), starts (goal.at.returns-in_default c).After-read, c.in_default.ensures.none)

pub returns-then-is_empty : goal.returns-then-is_empty
returns-then-is_empty c =
    λ seen. refused seen c.args.so_far.now c.args.at_end NoUser (unnamed c.args.kind c.args.so_far.now (take (c.args.header.length - 8) (drop 8 c.args.so_far.now)) c.in-Some.session (starts (goal.at.returns-then-is_empty c).After-read) c.in-Some.ensures.found (empty c.in-Some.session.user.now c.if-is_empty.ensures) seen)

pub returns-in_err-user : goal.returns-in_err-user
returns-in_err-user c =
    let exit = err_from_is_err_and c.from_residual.result c.from_residual.ensures.1 in
    λ seen. rw (exit.1, exit.2) (wanting c.args.kind seen c.args.so_far.now c.args.at_end _ _ _ (session (goal.at.returns-in_err-user c).Else-is_empty (starts (goal.at.returns-in_err-user c).After-read) seen))

pub returns-in_err-database : goal.returns-in_err-database
returns-in_err-database c =
    let exit = err_from_is_err_and c.from_residual-in_err-database.result c.from_residual-in_err-database.ensures.1 in
    λ seen. rw (exit.1, exit.2) (wanting c.args.kind seen c.args.so_far.now c.args.at_end _ _ _ (session (goal.at.returns-in_err-database c).Else-is_empty (starts (goal.at.returns-in_err-database c).After-read) seen))

pub returns : goal.returns
returns c =
    λ seen. told_startup c.args.kind seen c.args.so_far.now c.args.at_end _ _ c.args.header.length c.in_ok-user.user c.in_ok-database.database (session (goal.at.returns c).Else-is_empty (starts (goal.at.returns c).After-read) seen) c.in_ok-user.ensures.ok (c.in_ok-database.ensures.ok ∙ c.database_or_user.ensures)
