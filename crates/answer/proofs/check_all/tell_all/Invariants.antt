use Rattle.std.proofs.Common.{◌≡◌, [], map, string_bytes, take}
use Rattle.answer.specs.AllFaults.{TellsAll}
use Rattle.answer.specs.Files.{SayInOrder}
use Rattle.answer.proofs.check_all.tell_all.Given as goal

-- the files so far
abbrev pub invariant-loop-file : goal.invariant-loop-file
invariant-loop-file g l = record {
  told : TellsAll (g.O.Opener.text l.opener) (map (λ file. file.now) (take l.file-index l.files))
      (string_bytes l.found.report);
  said : string_bytes l.found.report ≡ [] → SayInOrder (g.O.Opener.text l.opener)
      (map (λ file. file.now) (take l.file-index l.files)) l.found.nodes.items;
}
