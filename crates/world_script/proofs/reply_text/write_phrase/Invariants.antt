use Rattle.std.proofs.Common.{◌≡◌, ◌++◌, take}
use Rattle.std.specs.String.{string_bytes}
use Rattle.world_script.specs.Outcome.{phrase}
use Rattle.world_script.proofs.reply_text.write_phrase.Given as goal

abbrev pub invariant-loop-number : goal.invariant-loop-number
invariant-loop-number l = string_bytes l.text
    ≡ string_bytes l.fn.text ++ phrase l.word (take l.number-index l.numbers)
