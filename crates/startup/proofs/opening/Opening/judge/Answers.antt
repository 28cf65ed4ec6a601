use Rattle.std.proofs.Common.{arith, ℕ, ◌≡◌, ◌≢◌, ◌∙◌, None, Ok, Option, refl, inl, inr, sym, subst}
use Rattle.std.proofs.lemmas.Result.{err_from_is_err_and}
use Rattle.pg_ids.specs.declared.any_key.Kind.{Kind}
use Rattle.pg_ids.specs.declared.any_key.Kind.TheVariants.{Short, Long}
use Rattle.startup.specs.Packet.{startup_code, ssl_code, gss_code}
use Rattle.startup.specs.FirstPacket.{Answers, HasHeader, code_of, length_of}
use Rattle.startup.specs.Header.{IsHeaderRead}
use Rattle.startup.specs.declared.first.First.TheVariants.{Ssl, Gss}
use Rattle.startup.specs.declared.header.Header.{Header}
use Rattle.startup.specs.declared.startup_error.StartupError.TheVariants.{BadVersion}
use Rattle.startup.proofs.AnswerLemmas.{refused, undecided, header_refused, begins_alone, negotiated}
use Rattle.startup.proofs.DecisionLemmas.{undecided_cut}
use Rattle.startup.proofs.PacketLemmas.{AreBytes}
use Rattle.startup.proofs.opening.Opening.judge.Goals as goal
use Rattle.startup.proofs.opening.Opening.judge.Goals.{In-Some}

-- the header stands
header : (c : In-Some) → HasHeader c.args.so_far.now × (c.in-Some.header.length ≡ length_of c.args.so_far.now) × (c.in-Some.header.code ≡ code_of c.args.so_far.now)
header c = subst (λ (o : Option Header). IsHeaderRead c.args.so_far.now (Ok o)) c.in-Some.is c.in_ok-header.ensures

bytes : (c : In-Some) → AreBytes c.args.so_far.now
bytes c = record { below = λ i. omega (arith, c.type_inv.so_far i) }

pub returns-in_err-header : goal.returns-in_err-header
returns-in_err-header c =
    let exit = err_from_is_err_and c.from_residual.result c.from_residual.ensures.1 in
    rw (exit.1, exit.2) (header_refused c.args.self.now c.args.so_far.now c.args.at_end c.in_err-header.field-0.0 c.in_err-header.ensures)

pub returns-in_default : goal.returns-in_default
returns-in_default c =
    let read : IsHeaderRead c.args.so_far.now (Ok None) =
    subst (λ (o : Option Header). IsHeaderRead c.args.so_far.now (Ok o)) c.in_default.is c.in_ok-header.ensures in
    undecided c.args.self.now c.args.so_far.now c.args.at_end c.unfinished.result (undecided_cut c.args.self.now c.args.so_far.now read) c.unfinished.ensures

pub returns-in-80877103 : goal.returns-in-80877103
returns-in-80877103 c =
    let read = header (goal.at.returns-in-80877103 c).In-Some in
    let code : code_of c.args.so_far.now ≡ ssl_code = sym read.2 ∙ c.in-80877103.is in
    subst (λ seen. Answers seen c.args.so_far.now c.args.at_end c.read_negotiation.result) c.self.view_is (negotiated c.self.inside.ssl _ c.args.so_far.now c.args.at_end c.in-Some.header.length Ssl c.read_negotiation.result (read.0, inl (code, refl)) read.1 (λ first eight. (first, begins_alone c.args.so_far.now ssl_code (bytes (goal.at.returns-in-80877103 c).In-Some) read.0 code eight)) c.read_negotiation.ensures)

pub returns-in-80877104 : goal.returns-in-80877104
returns-in-80877104 c =
    let read = header (goal.at.returns-in-80877104 c).In-Some in
    let code : code_of c.args.so_far.now ≡ gss_code = sym read.2 ∙ c.in-80877104.is in
    subst (λ seen. Answers seen c.args.so_far.now c.args.at_end c.read_negotiation-in-80877104.result) c.self.view_is (negotiated c.self.inside.gss _ c.args.so_far.now c.args.at_end c.in-Some.header.length Gss c.read_negotiation-in-80877104.result (read.0, inr (code, refl)) read.1 (λ first eight. (first, begins_alone c.args.so_far.now gss_code (bytes (goal.at.returns-in-80877104 c).In-Some) read.0 code eight)) c.read_negotiation-in-80877104.ensures)

-- no StartupMessage of either kind
no_kind : (code : ℕ) → code ≢ startup_code Short → code ≢ startup_code Long → (kind : Kind) → code ≢ startup_code kind
no_kind code short long Short = short
no_kind code short long Long = long

pub returns-in_default-code : goal.returns-in_default-code
returns-in_default-code c =
    let read = header (goal.at.returns-in_default-code c).In-Some in
    let other = c.in_default-code in
    refused c.args.self.now c.args.so_far.now c.args.at_end BadVersion (read.0, no_kind (code_of c.args.so_far.now) (omega (arith, read.2)) (omega (arith, read.2)), omega (arith, read.2), omega (arith, read.2), omega (arith, read.2))
