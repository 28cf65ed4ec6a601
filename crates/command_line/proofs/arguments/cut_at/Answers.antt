use Rattle.std.proofs.Common.{refl}
use Rattle.std.proofs.lemmas.Str.Pattern.{split_once_first}
use Rattle.command_line.proofs.ArgumentLemmas.{cut_read}
use Rattle.command_line.proofs.arguments.cut_at.Goals as goal

pub returns-in-Some : goal.returns-in-Some
returns-in-Some c = rw c.in-Some.is at
    (cut_read c.args.mark c.args.text.now c.args.text c.split_once.result
    (split_once_first c.args.mark c.args.text.now c.split_once.result c.split_once.ensures.cases
    c.requires))

pub returns-in-None : goal.returns-in-None
returns-in-None c = (rw c.in-None.is at
    (cut_read c.args.mark c.args.text.now c.args.text c.split_once.result
    (split_once_first c.args.mark c.args.text.now c.split_once.result c.split_once.ensures.cases
    c.requires))) refl
