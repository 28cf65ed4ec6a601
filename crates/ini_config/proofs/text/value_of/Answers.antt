use Rattle.ini_config.proofs.Numbers.{value_parsed}
use Rattle.ini_config.proofs.text.value_of.Goals as goal

pub returns : goal.returns
returns c = rw c.ok.ensures.value (value_parsed c.args.digits.now c.parse.result c.requires c.parse.ensures.value.0)
