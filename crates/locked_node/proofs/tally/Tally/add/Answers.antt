use Rattle.std.proofs.Common.{rules, ◌≡◌, ◌+◌, List, ℕ, length, get_or, set, sym, ap, ◌∙◌, subst, arith}
use Rattle.locked_node.specs.Adding.{AddedTo}
use Rattle.locked_node.specs.CallNumbers.{index_of}
use Rattle.locked_node.specs.Totals.{calls_at}
use Rattle.locked_node.specs.declared.tally.TheConstants.{START}
use Rattle.locked_node.proofs.Cells.{calls_le}
use Rattle.locked_node.proofs.Tallies.{count_left, counts_call}
use Rattle.locked_node.proofs.tally.Tally.add.Goals as goal

pub overflow_add-self : goal.overflow_add-self
overflow_add-self c =
    let kind = index_of c.args.note.now.kind in
    let place = c.start-start.ensures.place in
    let numbers = c.as_slice.result.now in
    let now = c.add_all.new.cells in
    let added = subst (λ (n : ℕ). AddedTo (n + 1) (length numbers) c.args.self.now.cells numbers now) place c.add_all.ensures in
    let left = subst (λ (n : ℕ). get_or now n 0 ≡ calls_at c.args.self.now kind) (sym place)
    (count_left c.args.self.now kind (length numbers) numbers now c.start-start.ensures.kind added) in
    let few = calls_le c.args.self.now kind c.start-start.ensures.kind in
    let room = c.requires.room in
    omega (arith, left, few, room)

pub returns : goal.returns
returns c = λ call is.
    let kind = index_of c.args.note.now.kind in
    let place = c.start-start.ensures.place in
    let numbers = c.as_slice.result.now in
    let now = c.add_all.new.cells in
    let long : length now ≡ 479 = search rules in
    let added = subst (λ (n : ℕ). AddedTo (n + 1) (length numbers) c.args.self.now.cells numbers now) place c.add_all.ensures in
    counts_call c.args.self.now _ now kind call long c.start-start.ensures.kind (ap index_of is.kind)
    (subst (λ (ns : List ℕ). AddedTo (get_or START kind 0 + 1) (length ns) c.args.self.now.cells ns now) (c.as_slice.ensures.value ∙ is.numbers) added)
    (ap (λ (n : ℕ). set now n (get_or now n 0 + 1)) place)
