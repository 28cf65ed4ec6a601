use Rattle.std.proofs.Common.{◌≡◌, rules, List, length, refl, ap, sym, subst, ◌∙◌}
use Rattle.world.specs.declared.reply.Reply.{Reply}
use Rattle.world.specs.World.{World, Arrival, Connection, Taken}
use Rattle.world.specs.Changes.{and_then}
use Rattle.world.specs.Facts.{AreWhole, Facts}
use Rattle.world.specs.contracts.state.State.{the_view}
use Rattle.world.proofs.Orders.{IsOrdered, IsNoted, order_taken, target_there, connection_to, new_connection, new_origin, refused_comes, unwait_comes, serve_comes}
use Rattle.world.proofs.state.State.arrive.Goals as goal
use Rattle.world.proofs.state.State.arrive.Goals.{After-note_arrival}

-- the number of the arrival
next : (c : After-note_arrival) → c.len.result ≡ length c.self.inside.arrivals.items
next c =
    let long : c.len.result ≡ length c.make_room.new.arrivals.items = search rules in
    long ∙ ap length c.make_room.ensures.arrivals

-- the order
ordered : (c : After-note_arrival) → IsOrdered (the_view c.self.inside) c.args.node c.args.key c.cancel.result c.cancel.new.self
ordered c = record {
  facts = subst Facts (sym c.self.view_is) c.requires.facts;
  whole = subst (λ (w : World). AreWhole w.nodes) (sym c.self.view_is) c.requires.whole;
  is_key = c.requires.key;
  step = c.cancel.ensures;
}

pub unreachable-requires : goal.unreachable-requires
unreachable-requires c =
    let at = (goal.at.unreachable-requires c).After-note_arrival in
    target_there (the_view c.self.inside) c.args.node c.args.key c.cancel.result c.cancel.new.self c.in-Serve.ticket c.in-Serve.database c.in-Serve.server_key
    c.owner_of.result c.len.result c.target_of.result (ordered at) c.in-Serve.is c.owner_of.ensures (next at)
    c.target_of.ensures c.in_default.is

pub connect-requires-clause-new : goal.connect-requires-clause-new
connect-requires-clause-new c place other there same =
    let at = (goal.at.connect-requires-clause-new c).After-note_arrival in
    new_connection (the_view c.self.inside) (ordered at).facts c.len.result c.make_room.new.connections.rows (next at) c.make_room.ensures.connections place other there same

pub send_on-requires-clause-origin : goal.send_on-requires-clause-origin
send_on-requires-clause-origin c place other there same =
    let at = (goal.at.send_on-requires-clause-origin c).After-note_arrival in
    new_origin (the_view c.self.inside) (ordered at).facts c.len.result c.make_room.new.forwards.rows (next at) c.make_room.ensures.forwards place other there same

-- what was noted
noted : (c : After-note_arrival) → IsNoted (the_view c.self.inside) c.args.self.now c.args.flight c.args.node c.args.key c.cancel.result c.cancel.new.self c.owner_of.result c.len.result c.note_taken.new.taken.items c.note_arrival.new.arrivals.items
noted c = record {
  same = c.self.view_is;
  ordered = ordered c;
  finds = c.owner_of.ensures;
  next = next c;
  taken_is = order_taken (the_view c.self.inside) c.args.node c.args.key c.cancel.result c.cancel.new.self c.owner_of.result c.note_taken.new.taken.items
      (ordered c) c.owner_of.ensures
      (λ label takes is. c.note_taken.ensures.yes label takes is
      ∙ ap (λ (l : List Taken). and_then l (record { node = c.args.node; key = c.args.key; label = label })) c.make_room.ensures.taken)
      (λ other. c.note_taken.ensures.no other ∙ c.make_room.ensures.taken);
  came = c.note_arrival.ensures
      ∙ ap (λ (l : List Arrival). and_then l (record {
        flight = c.args.flight;
        node = c.args.node;
        key = c.args.key;
        order = c.cancel.result;
      })) c.make_room.ensures.arrivals;
}

pub returns-in-Some-clause-arrives : goal.returns-in-Some-clause-arrives
returns-in-Some-clause-arrives c =
    let at = (goal.at.returns-in-Some-clause-arrives c).After-note_arrival in
    serve_comes (the_view c.self.inside) c.args.self.now c.args.flight c.args.node c.args.key c.cancel.result c.cancel.new.self c.owner_of.result c.len.result
    c.note_taken.new.taken.items c.note_arrival.new.arrivals.items (noted at) c.connect.new.connections.rows c.make_room.new.forwards.rows c.make_room.new.flights.items c.connect.result
    c.in-Serve.ticket c.in-Serve.database c.in-Serve.server_key c.target_of.result c.in-Some.target c.in-Serve.is c.target_of.ensures c.in-Some.is
    (c.connect.ensures.said ∙ ap (λ (l : List Connection). Reply.Serve c.len.result (length l)) c.make_room.ensures.connections)
    (c.connect.ensures.rows ∙ ap (λ (l : List Connection). and_then l (connection_to c.in-Some.target c.in-Serve.server_key c.in-Serve.ticket c.owner_of.result c.len.result)) c.make_room.ensures.connections)
    c.make_room.ensures.forwards c.make_room.ensures.flights

pub returns-in-Unwait-clause-arrives : goal.returns-in-Unwait-clause-arrives
returns-in-Unwait-clause-arrives c =
    let at = (goal.at.returns-in-Unwait-clause-arrives c).After-note_arrival in
    unwait_comes (the_view c.self.inside) c.args.self.now c.args.flight c.args.node c.args.key c.cancel.result c.cancel.new.self c.owner_of.result c.len.result
    c.note_taken.new.taken.items c.note_arrival.new.arrivals.items (noted at) c.make_room.new.connections.rows c.make_room.new.forwards.rows c.make_room.new.flights.items _
    c.in-Unwait.field-0 c.in-Unwait.is refl c.make_room.ensures.connections c.make_room.ensures.forwards c.make_room.ensures.flights

pub returns-in-Refused-clause-arrives : goal.returns-in-Refused-clause-arrives
returns-in-Refused-clause-arrives c =
    let at = (goal.at.returns-in-Refused-clause-arrives c).After-note_arrival in
    refused_comes (the_view c.self.inside) c.args.self.now c.args.flight c.args.node c.args.key c.cancel.result c.cancel.new.self c.owner_of.result c.len.result
    c.note_taken.new.taken.items c.note_arrival.new.arrivals.items (noted at) c.make_room.new.connections.rows c.make_room.new.forwards.rows c.make_room.new.flights.items _
    c.in-Refused.reason c.in-Refused.is refl c.make_room.ensures.connections c.make_room.ensures.forwards c.make_room.ensures.flights
