use Rattle.std.proofs.Common.{◌≡◌, List, ap, refl, sym, subst, ◌∙◌}
use Rattle.std.proofs.lemmas.Option.{same_Some}
use Rattle.std.proofs.lemmas.Bool.{false≢true}
use Rattle.world.specs.World.{World, Forward}
use Rattle.world.specs.Admissible.{IsAnswered}
use Rattle.world.specs.declared.table.Found.{Found}
use Rattle.world.specs.contracts.state.State.{the_view}
use Rattle.world.proofs.state.State.end_forward.Goals as goal

pub returns-then-not-is_answered : goal.returns-then-not-is_answered
returns-then-not-is_answered c = (
  λ may.
      let other = rw (← c.self.view_is) at may in
      let one = same_Some c.in-Some.found (record { place = other.place; row = other.forward })
      (c.in-Some.ensures.only other.place other.forward other.is.there other.is.named) in
      let row : c.in-Some.found.row ≡ other.forward = ap (λ (z : Found Forward). z.row) one in
      let same : other.arrival ≡ c.in-Some-accepted.arrival = same_Some other.arrival c.in-Some-accepted.arrival
      (sym other.accepted ∙ ap (λ (z : Forward). z.accepted) (sym row) ∙ c.in-Some-accepted.is) in
      let answered = subst (λ (w : World). IsAnswered w.arrivals w.connections w.forwards c.in-Some-accepted.arrival) c.self.view_is
      (subst (IsAnswered c.self.inside.arrivals.items c.self.inside.connections.rows c.self.inside.forwards.rows) same other.answered) in
      false≢true (sym c.if-not-is_answered.true ∙ c.is_answered.ensures.1 answered),
  refl,
)

pub returns : goal.returns
returns c =
    let found = c.in-Some.found in
    let answered = rw (← c.self.view_is) at (c.is_answered.ensures.0 c.if-not-is_answered.false) in
    let rows = rw (c.ending.ensures) at c.set.ensures.rows in
    rw (← c.self.view_is) (
      record {
        place = found.place;
        forward = found.row;
        is = record { there = c.in-Some.ensures.found; named = c.in-Some.ensures.key };
        arrival = c.in-Some-accepted.arrival;
        accepted = c.in-Some-accepted.is;
        going = c.if-forward.false;
        answered = answered;
      },
      (
        record {
          place = found.place;
          forward = found.row;
          is = record { there = c.in-Some.ensures.found; named = c.in-Some.ensures.key };
          after = ap (λ (fs : List Forward). let w : World = the_view c.self.inside in
              let x : World = record w { forwards = fs } in x) rows;
        },
        refl,
      ),
    )
