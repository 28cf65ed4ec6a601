use Rattle.std.proofs.Common.{inr, ap, sym, ◌∙◌}
use Rattle.command_line.specs.Arguments.{shape_in, given_in}
use Rattle.command_line.proofs.ArgumentLemmas.{first_alone, first_end, first_flag, first_plain, first_two, first_unknown, first_whole, refused_takes}
use Rattle.command_line.proofs.arguments.Given.take.Goals as goal
use Rattle.command_line.proofs.arguments.Given.take.Goals.{in-Flag+in_ok-push-in-Flag, in-Plain+in_ok-push_plain-in-Plain, in-Whole+in_ok-push-in-Whole}

pub returns-in-End-clause-taken : goal.returns-in-End-clause-taken
returns-in-End-clause-taken c =
    first_end c.args.command c.args.arguments.now c.requires (given_in c.args.self.now)
    (given_in c.take_plain.new.self) c.split_at.result.1.now c.split_at.ensures.back
    (sym c.read.ensures ∙ ap shape_in c.in-End.is) c.in_ok-take_plain-in-End.ensures

pub returns-in_err-next_value-in-Alone-clause-taken :
    goal.returns-in_err-next_value-in-Alone-clause-taken
returns-in_err-next_value-in-Alone-clause-taken c =
    refused_takes c.args.command (given_in c.args.self.now) (given_in c.args.self.now) c.args.arguments.now
    c.from_residual-in_err-next_value-in-Alone.result
    c.from_residual-in_err-next_value-in-Alone.ensures.0
    (first_alone c.args.command c.args.arguments.now c.requires (given_in c.args.self.now)
    (given_in c.args.self.now) c.split_at.result.1.now c.split_at.ensures.back c.in-Alone.name
    (sym c.read.ensures ∙ ap shape_in c.in-Alone.is)
    (c.in_err-next_value-in-Alone.ensures.none c.in-Alone.name))

pub returns-in-Alone-clause-taken : goal.returns-in-Alone-clause-taken
returns-in-Alone-clause-taken c =
    let found = c.in_ok-next_value-in-Alone.ensures.found in
    first_two c.args.command c.args.arguments.now c.requires (given_in c.args.self.now) (given_in c.push.new.self)
    c.split_at.result.1.now c.split_at.ensures.back c.in-Alone.name
    c.in_ok-next_value-in-Alone.field-0.now (sym c.read.ensures ∙ ap shape_in c.in-Alone.is)
    found.1 found.0 c.in_ok-push-in-Alone.ensures

pub returns-in-Unknown-clause-taken : goal.returns-in-Unknown-clause-taken
returns-in-Unknown-clause-taken c =
    inr (first_unknown c.args.command c.args.arguments.now c.requires (given_in c.args.self.now)
    (given_in c.args.self.now) (sym c.read.ensures ∙ ap shape_in c.in-Unknown.is))

pub returns-clause-taken : goal.returns-clause-taken
returns-clause-taken c =
    elim c.match-read.branch [
      | in-Plain+in_ok-push_plain-in-Plain w ↦ rw w.self-is
          (first_plain c.args.command c.args.arguments.now c.requires (given_in c.args.self.now)
          (given_in w.push_plain.new.self) (sym c.read.ensures ∙ ap shape_in w.in-Plain.is)
          w.in_ok-push_plain-in-Plain.ensures)
      | in-Flag+in_ok-push-in-Flag w ↦ rw w.self-is
          (first_flag c.args.command c.args.arguments.now c.requires (given_in c.args.self.now)
          (given_in w.push-in-Flag.new.self) w.in-Flag.name
          (sym c.read.ensures ∙ ap shape_in w.in-Flag.is) w.in_ok-push-in-Flag.ensures)
      | in-Whole+in_ok-push-in-Whole w ↦ rw w.self-is
          (first_whole c.args.command c.args.arguments.now c.requires (given_in c.args.self.now)
          (given_in w.push-in-Whole.new.self) w.in-Whole.name w.in-Whole.value.now
          (sym c.read.ensures ∙ ap shape_in w.in-Whole.is) w.in_ok-push-in-Whole.ensures)
    ]
