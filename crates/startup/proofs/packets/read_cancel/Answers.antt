use Rattle.std.proofs.Common.{arith, ◌≡◌, ℕ, ◌∙◌, refl, ap, inl, take, drop}
use Rattle.pg_ids.specs.AnyKey.{any_key_bytes}
use Rattle.startup.specs.FirstPacket.{Cancel}
use Rattle.startup.specs.declared.startup_error.StartupError.TheVariants.{BadCancelLength}
use Rattle.startup.proofs.AnswerLemmas.{refused, undecided, cancelled}
use Rattle.startup.proofs.DecisionLemmas.{undecided_cancel}
use Rattle.startup.proofs.packets.read_cancel.Goals as goal

pub returns-in_default : goal.returns-in_default
returns-in_default c =
    let none = c.in_default.ensures.none in
    λ seen. refused seen c.args.so_far.now c.args.at_end BadCancelLength (c.requires.stands, c.requires.code, λ e. none.0 (c.requires.length ∙ e), λ e. none.1 (c.requires.length ∙ e))

pub returns-then-so_far-used : goal.returns-then-so_far-used
returns-then-so_far-used c =
    let found = c.in-Some.ensures.found in
    λ seen. undecided seen c.args.so_far.now c.args.at_end c.unfinished.result (undecided_cancel seen _ c.in-Some.size c.requires.stands c.requires.code found.0 (omega (arith, c.requires.length, found.1)) (omega arith)) c.unfinished.ensures

pub returns : goal.returns
returns c =
    let text = c.args.so_far.now in
    let found = c.in-Some.ensures.found in
    let size = c.in-Some.size in
    let key = any_key_bytes c.read_key-key.result in
    let is : key ≡ take size (drop 8 text) =
    c.read_key-key.ensures ∙ ap (λ (n : ℕ). take n (drop 8 text)) (omega arith) in
    λ seen. record {
      outcome = Cancel key;
      is = inl (cancelled text key size (record { below = λ i. omega (arith, c.type_inv.so_far i) }) c.requires.code found.0 (omega (arith, c.requires.length, found.1)) (omega arith) is);
      told = refl;
    }
