use Rattle.std.proofs.Common.{◌≤◌, length}
use Rattle.world_script.specs.Script.{statements}
use Rattle.world_script.proofs.LineLemmas.{ReadTo}
use Rattle.world_script.proofs.script.read_script.Given as goal

abbrev pub invariant-loop-place : goal.invariant-loop-place
invariant-loop-place l = record {
  few : length l.draft.nodes.items ≤ 65;
  read : ReadTo (statements l.text) l.place l.draft.nodes.items l.draft.events.items;
}
