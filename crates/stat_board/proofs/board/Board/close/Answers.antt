use Rattle.std.proofs.Common.{ℕ, List, sym, ap, ◌∙◌, arith}
use Rattle.std.specs.Prelude.{sum, slice_index}
use Rattle.stat_board.proofs.Counting.{all_counted, all_within, counted_below}
use Rattle.stat_board.proofs.board.Board.close.Goals as goal

pub returns-clause-whole : goal.returns-clause-whole
returns-clause-whole c = λ whole.
    let last = c.close_with-closed.ensures.values.2 in let seat = c.into_place.ensures in
    let a = seat.allowance in let b = ap sum seat.counts in
    c.words_of-words.ensures ∙ (sym last.2 ∙ (all_counted last.0 last.1.0 _ _ last.1.1 seat.row (omega (arith, a, b, whole)) ∙ seat.counts))

pub returns-clause-counted : goal.returns-clause-counted
returns-clause-counted c = λ place.
    let last = c.close_with-closed.ensures.values.2 in
    let a = counted_below last.0 last.1.0 _ _ last.1.1 place in
    let b = ap (λ (l : List ℕ). slice_index l place) c.into_place.ensures.counts in
    let w = ap (λ (l : List ℕ). slice_index l place) (c.words_of-words.ensures ∙ sym last.2) in
    omega (arith, a, b, w)

pub returns-clause-most : goal.returns-clause-most
returns-clause-most c =
    let last = c.close_with-closed.ensures.values.2 in
    let a = all_within last.0 last.1.0 _ _ last.1.1 in
    let b = c.into_place.ensures.allowance in
    let w = ap sum (c.words_of-words.ensures ∙ sym last.2) in
    omega (arith, a, b, w)
