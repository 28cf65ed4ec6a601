use Rattle.std.proofs.Common.{ap, subst, arith}
use Rattle.std.specs.Prelude.{sum}
use Rattle.stat_board.specs.Counts.{IsWithin}
use Rattle.stat_board.proofs.Rows.{sum_added}
use Rattle.stat_board.proofs.seat.BoardSeat.join.Goals as goal

pub sums-self-inside-requires : goal.sums-self-inside-requires
sums-self-inside-requires c =
    let a = ap sum c.self.invariant.counts in
    let b = ap sum c.other.invariant.counts in
    let both = sum_added c.self.inside.place.me.0.counts c.other.inside.place.me.0.counts in
    let within = subst (λ me. IsWithin me.0) c.unite.ensures.both c.unite.ensures.within in
    omega (arith, a, b, both, within)
