use Rattle.std.proofs.Common.{◌≡◌, encode_utf8_all, take}
use Rattle.std.specs.String.{string_bytes}
use Rattle.scram.proofs.preparation.encoded.Given as goal

abbrev pub invariant-loop-c : goal.invariant-loop-c
invariant-loop-c l = string_bytes l.text ≡ encode_utf8_all (take l.c-index l.characters)
