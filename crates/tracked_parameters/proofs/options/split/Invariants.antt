use Rattle.std.proofs.Common.{◌≡◌, drop}
use Rattle.tracked_parameters.specs.Options.{arguments}
use Rattle.tracked_parameters.specs.StoredReports.{arguments_with}
use Rattle.tracked_parameters.proofs.options.split.Given as goal

-- what is left completes the arguments
abbrev pub invariant-loop-byte : goal.invariant-loop-byte
invariant-loop-byte l = arguments_with l.splitter (drop l.byte-index l.text) ≡ arguments l.text
