use Rattle.std.proofs.Common.{◌<◌, length, get_or, map, drop, sym, ◌∙◌, arith}
use Rattle.std.proofs.lemmas.Bool.Decides.{nat_tests}
use Rattle.command_line.proofs.ArgumentLemmas.{awaits_none, first_text, no_text, takes_no_value}
use Rattle.command_line.proofs.arguments.next_value.Goals as goal

pub returns-then-is_empty-clause-none : goal.returns-then-is_empty-clause-none
returns-then-is_empty-clause-none c = λ name.
    let none = sym c.is_empty.ensures ∙ c.if-is_empty.true in
    awaits_none c.args.command name c.args.arguments.now (grind (arith, nat_tests))

pub returns-then-not-is_plain-clause-none : goal.returns-then-not-is_plain-clause-none
returns-then-not-is_plain-clause-none c = λ name.
    let none = sym c.is_empty.ensures ∙ c.if-is_empty.false in
    let some : 0 < length c.args.arguments.now = grind (arith, nat_tests) in
    rw (first_text c.args.arguments.now some)
    (takes_no_value c.args.command name (get_or c.args.arguments.now 0 no_text).now
    (map (λ w. w.now) (drop 1 c.args.arguments.now))
    (sym c.is_plain.ensures ∙ c.if-not-is_plain.true))
