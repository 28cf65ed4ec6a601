use Rattle.world.proofs.Possible.{session_node}
use Rattle.world.proofs.state.State.up_failed.Goals as goal

pub up_failed-reply-requires : goal.up_failed-reply-requires
up_failed-reply-requires c =
    let f = rw (← c.self.view_is) at c.requires in
    let is = rw (← c.self.view_is) at c.in-Some.ensures.found in
    record { has = session_node _ f c.in-Some.opening.place c.in-Some.opening.session is.there }

pub returns : goal.returns
returns c =
    let s = c.in-Some.opening.session in
    let found = rw (← c.self.view_is) at c.in-Some.ensures.found in
    rw (← c.self.view_is) (
      (
        c.in-Some.opening.permit,
        record {
          place = c.in-Some.opening.place;
          session = s;
          is = found;
          stays = c.in-Some.ensures.stays;
          holds = c.in-Some.ensures.hand;
        },
      ),
      record {
        place = c.in-Some.opening.place;
        session = s;
        permit = c.in-Some.opening.permit;
        nodes = c.up_failed-reply.new.self;
        given = c.up_failed-reply.result;
        hand = c.in-Some.ensures.hand;
        step = record { is = found; step = c.up_failed-reply.ensures };
        said_is = c.failing.ensures;
        after = c.put_in_hand.ensures;
      },
    )
