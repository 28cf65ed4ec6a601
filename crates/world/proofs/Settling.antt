-- Whatever is settled stays so, and of what is settled nothing is to come.
use Rattle.std.proofs.Common.{◌≡◌, ℕ, true, List, Option, Some, refl, ap, sym, subst, ◌∙◌}
use Rattle.std.specs.List.{slice_get}
use Rattle.std.proofs.lemmas.Option.{same_Some}
use Rattle.lease.specs.declared.ticket.TicketRecord.{TicketRecord}
use Rattle.node_core.specs.declared.exchange.Order.{Order}
use Rattle.world.specs.World.{World, Arrival, Connection, Forward}
use Rattle.world.specs.Settled.{IsNowhere, HasEnded, LedTo, Settled, ComesOf, NothingToCome, EndedIsSettled}
use Rattle.world.specs.Facts.{Process, IsServed, IsForwarded, AreConnections, AreForwards, Facts, processes_of, lasts_of}

-- arrivals stay, cancel connections stay for their arrivals and ended, and forward connections lead
-- where they led
pub record GoesOn (came come : List Arrival) (was now : List Connection) (led lead : List Forward) : Type 0 where
  pub arrivals : (i : ℕ) (a : Arrival) → slice_get came i ≡ Some a → slice_get come i ≡ Some a
  pub connections : (i : ℕ) (c : Connection) → slice_get was i ≡ Some c
      → (d : Connection) × (slice_get now i ≡ Some d) × (d.arrival ≡ c.arrival)
      × (c.ended ≡ true → d.ended ≡ true)
  pub forwards : (i : ℕ) (f : Forward) → slice_get led i ≡ Some f
      → (g : Forward) × (slice_get lead i ≡ Some g) × (g.origin ≡ f.origin)
      × ((n : ℕ) → f.accepted ≡ Some n → g.accepted ≡ Some n)

-- where nothing changes
pub all_same : (came : List Arrival) (was : List Connection) (led : List Forward)
    → GoesOn came came was was led led
all_same came was led = record {
  arrivals = λ i a h. h;
  connections = λ i c h. (c, h, refl, λ e. e);
  forwards = λ i f h. (f, h, refl, λ n e. e);
}

pub has_ended_still : {came come : List Arrival} {was now : List Connection} {led lead : List Forward}
    → GoesOn came come was now led lead → (n : ℕ) → HasEnded was n → HasEnded now n
has_ended_still on n h =
    let more = on.connections h.place h.connection h.there in
    record {
      place = h.place;
      connection = more.0;
      there = more.1;
      for = more.2 ∙ h.for;
      ended = more.3 h.ended;
    }

pub led_still : {came come : List Arrival} {was now : List Connection} {led lead : List Forward}
    → GoesOn came come was now led lead → (n m : ℕ) → LedTo led n m → LedTo lead n m
led_still on n m h =
    let more = on.forwards h.place h.forward h.there in
    record {
      place = h.place;
      forward = more.0;
      there = more.1;
      from = more.2 ∙ h.from;
      to = more.3 m h.to;
    }

-- what is settled stays settled
pub settled_still : {came come : List Arrival} {was now : List Connection} {led lead : List Forward}
    → GoesOn came come was now led lead → (n : ℕ) → Settled came was led n → Settled come now lead n
settled_still on n (Settled.Nowhere a arrival there nowhere) =
    Settled.Nowhere a arrival (on.arrivals a arrival there) nowhere
settled_still on n (Settled.Ended a ended) = Settled.Ended a (has_ended_still on a ended)
settled_still on n (Settled.Forwarded a onward way rest) =
    Settled.Forwarded a onward (led_still on a onward way) (settled_still on onward rest)

-- an order that sends a request to a server sends it neither nowhere nor on
served_somewhere : (ticket : TicketRecord) (key : List ℕ) (o : Order TicketRecord)
    → IsServed ticket key o → IsNowhere o → ⊥
served_somewhere ticket key (Order.Serve t d k) served nowhere = nowhere
served_somewhere ticket key (Order.Forward to packet) served nowhere = nowhere
served_somewhere ticket key (Order.Unwait slot) served nowhere = served
served_somewhere ticket key (Order.Refused reason) served nowhere = served

served_here : (ticket : TicketRecord) (key : List ℕ) (o : Order TicketRecord)
    → IsServed ticket key o → IsForwarded o → ⊥
served_here ticket key (Order.Serve t d k) served forwarded = forwarded
served_here ticket key (Order.Forward to packet) served forwarded = served
served_here ticket key (Order.Unwait slot) served forwarded = served
served_here ticket key (Order.Refused reason) served forwarded = served

forwarded_somewhere : (o : Order TicketRecord) → IsForwarded o → IsNowhere o → ⊥
forwarded_somewhere (Order.Serve t d k) forwarded nowhere = nowhere
forwarded_somewhere (Order.Forward to packet) forwarded nowhere = nowhere
forwarded_somewhere (Order.Unwait slot) forwarded nowhere = forwarded
forwarded_somewhere (Order.Refused reason) forwarded nowhere = forwarded

-- what is known of cancel connections and forwards
module _ (flights : List (List ℕ)) (arrivals : List Arrival) (processes : List Process) (lasts : List (Option ℕ)) (connections : List Connection) (forwards : List Forward)
    (cs : AreConnections arrivals processes lasts connections) (fs : AreForwards flights arrivals connections forwards) where
  -- an arrival with a cancel connection, or with a forward connection, at its place
  of_connection : (n i : ℕ) (c : Connection) → slice_get connections i ≡ Some c → c.arrival ≡ n
      → (came : Arrival) × (slice_get arrivals n ≡ Some came)
      × IsServed c.ticket c.key came.order
  of_connection n i c there is =
      let served = (cs.each i c there).served in
      (served.0, ap (slice_get arrivals) (sym is) ∙ served.1, served.2)

  of_forward : (n m : ℕ) → LedTo forwards n m
      → (came : Arrival) × (slice_get arrivals n ≡ Some came) × IsForwarded came.order
  of_forward n m way =
      let from = (fs.each way.place way.forward way.there).origin in
      (from.0, ap (slice_get arrivals) (sym way.from) ∙ from.1, from.2)

  -- no arrival has two of: an order that leads nowhere, a cancel connection, a forward connection
  not_nowhere : (n i : ℕ) (c : Connection) (came : Arrival) → slice_get connections i ≡ Some c
      → c.arrival ≡ n → slice_get arrivals n ≡ Some came → IsNowhere came.order → ⊥
  not_nowhere n i c came there is at nowhere =
      let served = of_connection n i c there is in
      let one : served.0 ≡ came = same_Some served.0 came (sym served.1 ∙ at) in
      served_somewhere c.ticket c.key served.0.order served.2
      (subst (λ (a : Arrival). IsNowhere a.order) (sym one) nowhere)

  not_both : (n m i : ℕ) (c : Connection) → slice_get connections i ≡ Some c → c.arrival ≡ n
      → LedTo forwards n m → ⊥
  not_both n m i c there is way =
      let served = of_connection n i c there is in
      let on = of_forward n m way in
      let one : served.0 ≡ on.0 = same_Some served.0 on.0 (sym served.1 ∙ on.1) in
      served_here c.ticket c.key served.0.order served.2
      (subst (λ (a : Arrival). IsForwarded a.order) (sym one) on.2)

  not_on : (n m : ℕ) (came : Arrival) → LedTo forwards n m → slice_get arrivals n ≡ Some came
      → IsNowhere came.order → ⊥
  not_on n m came way at nowhere =
      let on = of_forward n m way in
      let one : on.0 ≡ came = same_Some on.0 came (sym on.1 ∙ at) in
      forwarded_somewhere on.0.order on.2
      (subst (λ (a : Arrival). IsNowhere a.order) (sym one) nowhere)

  -- an arrival leads to one arrival
  one_way : (n a b : ℕ) → LedTo forwards n a → LedTo forwards n b → a ≡ b
  one_way n a b x y =
      let place : x.place ≡ y.place =
      fs.one_origin x.place y.place x.forward y.forward x.there y.there (x.from ∙ sym y.from) in
      let one : x.forward ≡ y.forward = same_Some x.forward y.forward
      (sym x.there ∙ ap (slice_get forwards) place ∙ y.there) in
      same_Some a b (sym x.to ∙ ap (λ (f : Forward). f.accepted) one ∙ y.to)

  -- what comes of a settled arrival is ended
  all_ended : (n later i : ℕ) (c : Connection) → Settled arrivals connections forwards n
      → ComesOf forwards n later → slice_get connections i ≡ Some c → c.arrival ≡ later
      → c.ended ≡ true
  all_ended n later i c (Settled.Nowhere a came at nowhere) (ComesOf.Itself b) there is =
      absurd (not_nowhere a i c came there is at nowhere)
  all_ended n later i c (Settled.Nowhere a came at nowhere) (ComesOf.Onward b m l way rest) there is =
      absurd (not_on a m came way at nowhere)
  all_ended n later i c (Settled.Ended a ended) (ComesOf.Itself b) there is =
      let place : i ≡ ended.place =
      cs.apart i ended.place c ended.connection there ended.there (is ∙ sym ended.for) in
      let one : c ≡ ended.connection = same_Some c ended.connection
      (sym there ∙ ap (slice_get connections) place ∙ ended.there) in
      ap (λ (x : Connection). x.ended) one ∙ ended.ended
  all_ended n later i c (Settled.Ended a ended) (ComesOf.Onward b m l way rest) there is =
      absurd (not_both a m ended.place ended.connection ended.there ended.for way)
  all_ended n later i c (Settled.Forwarded a m way more) (ComesOf.Itself b) there is =
      absurd (not_both a m i c there is way)
  all_ended n later i c (Settled.Forwarded a m way more) (ComesOf.Onward b k l other rest) there is =
      all_ended m later i c more
      (subst (λ (x : ℕ). ComesOf forwards x later) (one_way a k m other way) rest) there is

-- of a settled arrival nothing is to come
pub nothing_to_come : (w : World) → Facts w → NothingToCome w
nothing_to_come w f n later i c settled comes there is =
    all_ended w.flights w.arrivals (processes_of w) (lasts_of w) w.connections w.forwards
    f.connections f.forwards n later i c settled comes there is

-- an arrival on a forward connection that was ended is settled, and so is the one forwarded
pub ended_is_settled : (w : World) → Facts w → EndedIsSettled w
ended_is_settled w f i forward there ended =
    let on = (f.forwards.each i forward there).ended ended in
    let way : LedTo w.forwards forward.origin on.0 = record {
      place = i;
      forward = forward;
      there = there;
      from = refl;
      to = on.1;
    } in
    (on.0, on.1, on.2, Settled.Forwarded forward.origin on.0 way on.2)
