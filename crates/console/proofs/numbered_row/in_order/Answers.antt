use Rattle.std.proofs.Common.{rules}
use Rattle.std.proofs.lemmas.Result.{IfOk-weaker}
use Rattle.std.proofs.lemmas.List.Sorted.{IsNonDecreasingBy-from_sort_by_key}
use Rattle.console.specs.declared.numbered_row.NumberedRow.{NumberedRow}
use Rattle.console.proofs.numbered_row.in_order.Goals as goal

pub returns : goal.returns
returns c = IfOk-weaker c.frames_of.result _ _ (λ frames e. record {
  listed = c.sort_by_key.new.self.items;
  each = c.sort_by_key.ensures.permutation;
  rising = IsNonDecreasingBy-from_sort_by_key (λ (row : NumberedRow). row.number) _ c.in_ok-sort_by_key.ensures.sorted (λ a r q k. search rules);
  frames_are = e;
}) c.frames_of.ensures
