use Rattle.std.proofs.Common.{◌≡◌, ℕ, refl, ap, ◌∙◌, arith}
use Rattle.world.specs.World.{Hand}
use Rattle.world.proofs.Possible.{session_node}
use Rattle.world.proofs.state.State.release.Goals as goal

pub release-reply-requires : goal.release-reply-requires
release-reply-requires c =
    let f = rw (← c.self.view_is) at c.requires in
    let is = rw (← c.self.view_is) at c.in-Some.ensures.found in
    record { has = session_node _ f c.in-Some.held.place c.in-Some.held.session is.there }

pub returns-in_default : goal.returns-in_default
returns-in_default c = (λ has. c.in_default.ensures.only has.1.0 has.0 0 has.1.1, refl)

pub returns-then-held-gt0 : goal.returns-then-held-gt0
returns-then-held-gt0 c = (
  λ has.
      let none = (c.in-Some.ensures.only has.1.0 has.0 0 has.1.1).1 in
      let some = c.if-held-gt0.true in
      omega (arith, none, some),
  refl,
)

pub returns : goal.returns
returns c =
    let s = c.in-Some.held.session in
    let hand = c.in-Some.held.hand in
    let found = rw (← c.self.view_is) at c.in-Some.ensures.found in
    let few = c.if-held-gt0.false in
    let none : hand.outstanding ≡ 0 = omega (arith, few) in
    let holds : s.hand ≡ Hand.Lease hand.lease hand.at 0 = c.in-Some.ensures.hand
    ∙ ap (λ (n : ℕ). Hand.Lease hand.lease hand.at n) none in
    rw (← c.self.view_is) (
      (
        hand.at,
        (
          hand.lease,
          record {
            place = c.in-Some.held.place;
            session = s;
            is = found;
            stays = c.in-Some.ensures.stays;
            holds = holds;
          },
        ),
      ),
      record {
        place = c.in-Some.held.place;
        at = hand.at;
        session = s;
        lease = hand.lease;
        nodes = c.release-reply.new.self;
        given = c.release-reply.result;
        hand = holds;
        step = record { is = found; step = c.release-reply.ensures };
        said_is = c.releasing.ensures;
        after = c.put_in_hand.ensures;
      },
    )
