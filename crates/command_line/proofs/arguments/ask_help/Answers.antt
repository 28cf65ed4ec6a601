use Rattle.std.proofs.Common.{true, false, refl, sym, ◌∙◌}
use Rattle.command_line.proofs.ArgumentLemmas.{help_at, help_nothing}
use Rattle.command_line.proofs.arguments.ask_help.Goals as goal
use Rattle.command_line.proofs.arguments.ask_help.Goals.{then-eq-2-via-then-eq-2, then-eq-2-via-else-eq-2+then-eq-3}

-- the options end here
pub returns-then-eq : goal.returns-then-eq
returns-then-eq c =
    sym (c.loop-argument.invariant
    ∙ help_at c.args.arguments.now c.loop-argument.argument-index _ true _ _
    c.loop-argument-test.true (sym c.eq.ensures ∙ c.if-eq.true) refl refl)

pub returns-then-eq-2 : goal.returns-then-eq-2
returns-then-eq-2 c =
    let on = sym c.eq.ensures ∙ c.if-eq.false in
    let short = sym c.eq-in-loop-argument.ensures in
    elim c.then-eq-2.branch [
      | then-eq-2-via-then-eq-2 w ↦ sym (c.loop-argument.invariant
          ∙ help_at c.args.arguments.now c.loop-argument.argument-index _ false true _
          c.loop-argument-test.true on (short ∙ w.if-eq-2.true) refl)
      | then-eq-2-via-else-eq-2+then-eq-3 w ↦ sym
          (c.loop-argument.invariant
          ∙ help_at c.args.arguments.now c.loop-argument.argument-index _ false false true
          c.loop-argument-test.true on (short ∙ w.if-eq-2.false)
          (sym w.eq-else-eq-2.ensures ∙ w.if-eq-3.true))
    ]

pub loop-argument-preserved : goal.loop-argument-preserved
loop-argument-preserved c =
    let on = sym c.eq.ensures ∙ c.if-eq.false in
    let short = sym c.eq-in-loop-argument.ensures ∙ c.if-eq-2.false in
    let long = sym c.eq-else-eq-2.ensures ∙ c.if-eq-3.false in
    c.loop-argument.invariant
    ∙ help_at c.args.arguments.now c.loop-argument.argument-index _ false false false
    c.loop-argument-test.true on short long

pub returns : goal.returns
returns c = sym (c.loop-argument.invariant
    ∙ help_nothing c.args.arguments.now c.loop-argument.argument-index c.loop-argument-test.false)
