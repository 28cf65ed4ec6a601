use Rattle.std.proofs.Common.{arith}
use Rattle.std.proofs.lemmas.Str.Pattern.{split_once_first}
use Rattle.ini_config.proofs.TextLemmas.{cut_read}
use Rattle.ini_config.proofs.text.cut_at_equals.Goals as goal

pub returns : goal.returns
returns c = rw c.ok_or.ensures.value (cut_read c.args.text.now c.split_once.result (split_once_first 61 c.args.text.now c.split_once.result c.split_once.ensures.cases (omega arith)))
