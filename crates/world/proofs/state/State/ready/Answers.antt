use Rattle.std.proofs.Common.{◌≡◌, ap, refl, sym, ◌∙◌, arith}
use Rattle.std.specs.List.{slice_get}
use Rattle.std.proofs.lemmas.Option.{none-some, same_Some}
use Rattle.world.specs.Wire.{backend_of}
use Rattle.world.specs.World.{Backend}
use Rattle.world.specs.Facts.{load_of}
use Rattle.world.specs.contracts.state.State.{the_view}
use Rattle.world.proofs.Requesting.{held_backend, gets_ready, positive}
use Rattle.world.proofs.state.State.ready.Goals as goal

pub returns-in_default : goal.returns-in_default
returns-in_default c = (λ may. c.in_default.ensures.only may.has.0 may.place may.outstanding may.has.1, refl)

pub returns-in_default-get : goal.returns-in_default-get
returns-in_default-get c = (
  λ may.
      let f = rw (← c.self.view_is) at c.requires in
      let found = rw (← c.self.view_is) at c.in-Some.ensures.found in
      let held = c.in-Some.held in
      let b = held_backend _ f held.place held.hand.at held.hand.outstanding held.session held.hand.lease found.there c.in-Some.ensures.hand in
      none-some b.0 (c.in_default-get.ensures ∙ b.1.there),
  refl,
)

pub returns-then-process-eq0 : goal.returns-then-process-eq0
returns-then-process-eq0 c = (
  λ may.
      let other = rw (← c.self.view_is) at may in
      let at = (c.in-Some.ensures.only may.has.0 may.place may.outstanding may.has.1).0 in
      let one : backend_of c.in-Some-get.process ≡ other.backend = same_Some _ other.backend
      (c.in-Some-get.ensures ∙ ap (slice_get c.self.inside.backends.rows) at ∙ other.there) in
      let some = other.readies in
      let none = c.if-process-eq0.true in
      let same = ap (λ (b : Backend). b.readies) one in
      omega (arith, some, none, same),
  refl,
)

pub overflow_sub-outstanding : goal.overflow_sub-outstanding
overflow_sub-outstanding c =
    let f = rw (← c.self.view_is) at c.requires in
    let found = rw (← c.self.view_is) at c.in-Some.ensures.found in
    let held = c.in-Some.held in
    let b = held_backend _ f held.place held.hand.at held.hand.outstanding held.session held.hand.lease found.there c.in-Some.ensures.hand in
    let one : b.0 ≡ backend_of c.in-Some-get.process = same_Some b.0 _ (sym b.1.there ∙ sym c.in-Some-get.ensures) in
    let load : held.hand.outstanding ≡ load_of (backend_of c.in-Some-get.process) = b.1.load ∙ ap load_of one in
    let some = positive c.in-Some-get.process.readies c.if-process-eq0.false in
    omega (arith, load, some)

pub returns : goal.returns
returns c =
    let found = rw (← c.self.view_is) at c.in-Some.ensures.found in
    let held = c.in-Some.held in
    let some = positive c.in-Some-get.process.readies c.if-process-eq0.false in
    rw (← c.self.view_is) (gets_ready (the_view c.self.inside) _ c.args.label held.place held.hand.at held.hand.outstanding held.session held.hand.lease
    (backend_of c.in-Some-get.process) c.ready.new.self.rows found c.in-Some.ensures.stays c.in-Some.ensures.hand (sym c.in-Some-get.ensures) some
    (c.ready.ensures (backend_of c.in-Some-get.process) (sym c.in-Some-get.ensures)) c.put_in_hand.ensures)
