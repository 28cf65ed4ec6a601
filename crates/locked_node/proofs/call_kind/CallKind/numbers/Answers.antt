use Rattle.std.proofs.Common.{◌+◌, ◌*◌, refl, sym, ap, ◌∙◌}
use Rattle.std.specs.Prelude.{slice_index}
use Rattle.locked_node.specs.declared.call_kind.CallKind.{CallKind}
use Rattle.locked_node.specs.declared.call_kind.TheConstants.{REST, KEYS}
use Rattle.locked_node.specs.CallNumbers.{answer_index, key_width}
use Rattle.locked_node.proofs.Widths.{wide}
use Rattle.locked_node.proofs.call_kind.CallKind.numbers.Goals as goal

pub returns-clause-fixed : goal.returns-clause-fixed
returns-clause-fixed c = λ old new call step e.
    wide old new call step
    ∙ ap (λ (k : CallKind). slice_index REST (answer_index k.answer) + slice_index KEYS (answer_index k.answer) * key_width k.key) e
    ∙ sym (rw (c.index-answer.ensures.value, c.key_width.ensures) refl)
