use Rattle.std.proofs.Common.{map, take}
use Rattle.answer.specs.Files.{SayInOrder}
use Rattle.answer.proofs.check.settings_of.Given as goal

-- the files so far
abbrev pub invariant-loop-file : goal.invariant-loop-file
invariant-loop-file g l =
    SayInOrder (g.O.Opener.text l.opener) (map (λ file. file.now) (take l.file-index l.files))
    l.nodes.items
