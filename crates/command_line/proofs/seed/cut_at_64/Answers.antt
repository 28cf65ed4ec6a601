use Rattle.std.proofs.Common.{◌≡◌, ◌∙◌, ap, drop, length, min, rules, take}
use Rattle.std.proofs.lemmas.List.{drop_min, take_min}
use Rattle.command_line.proofs.seed.cut_at_64.Goals as goal

pub returns-clause-first : goal.returns-clause-first
returns-clause-first c =
    let least : c.min.result ≡ min 64 (length c.args.bytes.now) = search rules in
    c.split_at.ensures.front ∙ ap (λ n. take n c.args.bytes.now) least
    ∙ take_min 64 c.args.bytes.now

pub returns-clause-behind : goal.returns-clause-behind
returns-clause-behind c =
    let least : c.min.result ≡ min 64 (length c.args.bytes.now) = search rules in
    c.split_at.ensures.back ∙ ap (λ n. drop n c.args.bytes.now) least
    ∙ drop_min 64 c.args.bytes.now
