use Rattle.std.proofs.Common.{refl}
use Rattle.world.proofs.Possible.{session_node}
use Rattle.world.proofs.state.State.close.Goals as goal

pub close-reply-requires : goal.close-reply-requires
close-reply-requires c =
    let f = rw (← c.self.view_is) at c.requires in
    let is = rw (← c.self.view_is) at c.in-Some.ensures.found in
    record { has = session_node _ f c.in-Some.held.place c.in-Some.held.session is.there }

pub returns-in_default : goal.returns-in_default
returns-in_default c = (λ has. c.in_default.ensures.only has.2.0 has.0 has.1 has.2.1, refl)

pub returns : goal.returns
returns c =
    let s = c.in-Some.held.session in
    let hand = c.in-Some.held.hand in
    let found = rw (← c.self.view_is) at c.in-Some.ensures.found in
    rw (← c.self.view_is) (
      (
        hand.at,
        hand.outstanding,
        (
          hand.lease,
          record {
            place = c.in-Some.held.place;
            session = s;
            is = found;
            stays = c.in-Some.ensures.stays;
            holds = c.in-Some.ensures.hand;
          },
        ),
      ),
      record {
        place = c.in-Some.held.place;
        at = hand.at;
        outstanding = hand.outstanding;
        session = s;
        lease = hand.lease;
        nodes = c.close-reply.new.self;
        given = c.close-reply.result;
        hand = c.in-Some.ensures.hand;
        step = record { is = found; step = c.close-reply.ensures };
        said_is = c.closing.ensures;
        after = c.put_in_hand.ensures;
      },
    )
