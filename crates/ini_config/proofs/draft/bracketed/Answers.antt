use Rattle.std.proofs.Common.{Some, Bor, List, ℕ, arith, sym, ap, ◌∙◌}
use Rattle.std.specs.Option.{option_map}
use Rattle.std.proofs.lemmas.Str.Pattern.{strip_prefix_char, strip_suffix_char}
use Rattle.ini_config.proofs.SectionLines.{bracketed-no_first, bracketed-after}
use Rattle.ini_config.proofs.draft.bracketed.Goals as goal

pub returns-in_err-strip_prefix : goal.returns-in_err-strip_prefix
unfolding lib.Utf8.encode
returns-in_err-strip_prefix c = ap (option_map (λ (x : Bor (List ℕ)). x.now)) c.from_residual.ensures ∙ sym (bracketed-no_first c.args.line.now c.in_err-strip_prefix.ensures.cases)

pub returns : goal.returns
returns c =
    let rest = c.in_ok-strip_prefix.field-0 in
    bracketed-after c.args.line.now rest.now c.strip_suffix.result
    (strip_prefix_char 91 c.args.line.now (Some rest) c.in_ok-strip_prefix.ensures.cases (omega arith))
    (strip_suffix_char 93 rest.now c.strip_suffix.result c.strip_suffix.ensures.cases (omega arith))
