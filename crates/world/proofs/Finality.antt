-- What is settled is settled for good: no later interruption is for it.
use Rattle.std.proofs.Common.{◌≡◌, ℕ, ⊎_elim, Bool, true, false, List, [], ◌∷◌, Option, Some, None, get_or, Result, Ok, Err, length, ◌<◌, ◌≤◌, refl, ap, sym, subst, ◌∙◌, arith, length-append}
use Rattle.std.proofs.Math.ListN.{set}
use Rattle.std.specs.List.{slice_get}
use Rattle.std.proofs.lemmas.Option.{same_Some, none-some, slice_get-get_or}
use Rattle.std.proofs.lemmas.Bool.{cases_eq, cases_lt}
use Rattle.pg_ids.specs.declared.any_key.{AnyKey.AnyKey}
use Rattle.lease.specs.declared.{pass.PassRecord.PassRecord, ticket.TicketRecord.TicketRecord}
use Rattle.link_pool.specs.declared.replies.{AcquireReply.AcquireReply, UpReply.UpReply, RestartReply.RestartReply}
use Rattle.node_core.specs.declared.refusal.JoinRefusal.{JoinRefusal}
use Rattle.node_core.specs.declared.exchange.Order.{Order}
use Rattle.node_core.specs.NodeStep.{Asked}
use Rattle.node_core.specs.View.{NodeView}
use Rattle.world.specs.declared.event.Event.{Event}
use Rattle.world.specs.declared.reply.{Reply.Reply, Took.Took}
use Rattle.world.specs.World.{World, Arrival, Backend, Connection, Forward, Interrupt, Report, Server, Session}
use Rattle.world.specs.Changes.{and_then, with_nodes, with_connection, with_forward}
use Rattle.world.specs.Admissible.{Admissible, StandsAt}
use Rattle.world.specs.LinkEvents.{Joins, Acquires, Opened, GoesUp}
use Rattle.world.specs.CancelEvents.{new_forward, bound_by, Makes, Arrives, Comes, Strikes, Acts, StartsAnew}
use Rattle.world.specs.WorldRun.{Does, WorldStep}
use Rattle.world.specs.Settled.{LedTo, IsSettled, ComesOf, SettledStays}
use Rattle.world.specs.Facts.{Facts}
use Rattle.world.proofs.Lists.{set_here, set_there, set_cases, kept_behind, added_cases, before_end}
use Rattle.world.proofs.Settling.{GoesOn, all_same, settled_still, nothing_to_come}
use Rattle.world.proofs.Forwarding.{one_forward}
use Rattle.world.proofs.Accepting.{arrival_adds, bound_is, same_forward}

-- requests go on, and a forward connection leads to an arrival of before only if it did before
pub record Grows (came come : List Arrival) (was now : List Connection) (led lead : List Forward) : Type 0 where
  pub on : GoesOn came come was now led lead
  pub back : (i n : ℕ) (g : Forward) → slice_get lead i ≡ Some g → g.accepted ≡ Some n
      → n < length came
      → (f : Forward) × (slice_get led i ≡ Some f) × (f.origin ≡ g.origin) × (f.accepted ≡ Some n)
  pub longer : length came ≤ length come

abbrev pub RequestsGrow : World → World → Type 0
RequestsGrow old new =
    Grows old.arrivals new.arrivals old.connections new.connections old.forwards new.forwards

-- requests go on, and nothing was interrupted
abbrev pub Follows : World → World → Type 0
Follows old new = RequestsGrow old new × (new.interrupts ≡ old.interrupts)

-- what is settled stays so
quietly : (old new : World) → Follows old new → SettledStays old new
quietly old new h = record {
  still = λ n s. settled_still h.0.on n s;
  quiet = λ n later place struck settled comes past at is.
      let below = before_end old.interrupts place struck
      (ap (λ (is : List Interrupt). slice_get is place) (sym h.1) ∙ at) in
      absurd (omega (arith, below, past));
}

-- from one world to a later one: what is settled stays so, requests go on, and what was interrupted
-- is known still
pub record Passes (old new : World) : Type 0 where
  pub stays : SettledStays old new
  pub grows : RequestsGrow old new
  pub kept : (i : ℕ) (struck : Interrupt) → slice_get old.interrupts i ≡ Some struck
      → slice_get new.interrupts i ≡ Some struck

passes_quietly : (old new : World) → Follows old new → Passes old new
passes_quietly old new h = record {
  stays = quietly old new h;
  grows = h.0;
  kept = λ i struck at. ap (λ (is : List Interrupt). slice_get is i) h.1 ∙ at;
}

-- nothing of requests changes
grows_not : (came : List Arrival) (was : List Connection) (led : List Forward) → Grows came came was was led led
grows_not came was led = record {
  on = all_same came was led;
  back = λ i n g at e below. (g, at, refl, e);
  longer = omega arith;
}

unchanged : (old : World) → Follows old old
unchanged old = (grows_not old.arrivals old.connections old.forwards, refl)

-- forward connections are as they were
grows_by : (came come : List Arrival) (was now : List Connection) (led : List Forward) → GoesOn came come was now led led
    → length came ≤ length come → Grows came come was now led led
grows_by came come was now led on longer = record {
  on = on;
  back = λ i n g at e below. (g, at, refl, e);
  longer = longer;
}

-- one connection changes
connection_on : (w : World) (k : ℕ) (c d : Connection) → slice_get w.connections k ≡ Some c
    → d.arrival ≡ c.arrival → (c.ended ≡ true → d.ended ≡ true)
    → GoesOn w.arrivals w.arrivals w.connections (set w.connections k d) w.forwards w.forwards
connection_on w k c d there arrival ended = record {
  arrivals = λ i a h. h;
  connections = λ i y h. ⊎_elim
      (λ same. let one : y ≡ c = same_Some y c (sym h ∙ ap (slice_get w.connections) same ∙ there) in (
        d,
        ap (slice_get (set w.connections k d)) same ∙ set_here w.connections k c d there,
        arrival ∙ ap (λ (z : Connection). z.arrival) (sym one),
        λ e. ended (ap (λ (z : Connection). z.ended) (sym one) ∙ e),
      ))
      (λ apart. (y, set_there w.connections k i d apart ∙ h, refl, λ e. e))
      (cases_eq i k);
  forwards = λ i f h. (f, h, refl, λ n e. e);
}

connection_grows : (w : World) (k : ℕ) (c d : Connection) → slice_get w.connections k ≡ Some c
    → d.arrival ≡ c.arrival → (c.ended ≡ true → d.ended ≡ true)
    → Grows w.arrivals w.arrivals w.connections (set w.connections k d) w.forwards w.forwards
connection_grows w k c d there arrival ended =
    grows_by w.arrivals w.arrivals w.connections (set w.connections k d) w.forwards
    (connection_on w k c d there arrival ended) (omega arith)

-- one forward connection changes, but not where it led
forward_on : (arrivals : List Arrival) (connections : List Connection) (forwards : List Forward) (k : ℕ) (f g : Forward) → slice_get forwards k ≡ Some f
    → g.origin ≡ f.origin → ((n : ℕ) → f.accepted ≡ Some n → g.accepted ≡ Some n)
    → GoesOn arrivals arrivals connections connections forwards (set forwards k g)
forward_on arrivals connections forwards k f g there origin onward = record {
  arrivals = λ i a h. h;
  connections = λ i c h. (c, h, refl, λ e. e);
  forwards = λ i y h. ⊎_elim
      (λ same. let one : y ≡ f = same_Some y f (sym h ∙ ap (slice_get forwards) same ∙ there) in (
        g,
        ap (slice_get (set forwards k g)) same ∙ set_here forwards k f g there,
        origin ∙ ap (λ (z : Forward). z.origin) (sym one),
        λ n e. onward n (ap (λ (z : Forward). z.accepted) (sym one) ∙ e),
      ))
      (λ apart. (y, set_there forwards k i g apart ∙ h, refl, λ n e. e))
      (cases_eq i k);
}

forward_grows : (arrivals : List Arrival) (connections : List Connection) (forwards : List Forward) (k : ℕ) (f g : Forward) → slice_get forwards k ≡ Some f
    → g.origin ≡ f.origin → g.accepted ≡ f.accepted
    → Grows arrivals arrivals connections connections forwards (set forwards k g)
forward_grows arrivals connections forwards k f g there origin onward = record {
  on = forward_on arrivals connections forwards k f g there origin (λ n e. onward ∙ e);
  back = λ i n y at e below. ⊎_elim (λ was. (y, was.1, refl, e))
      (λ new. (
        f,
        ap (slice_get forwards) new.0 ∙ there,
        sym origin ∙ ap (λ (z : Forward). z.origin) (sym new.1),
        sym onward ∙ ap (λ (z : Forward). z.accepted) (sym new.1) ∙ e,
      ))
      (set_cases forwards k i y g at);
  longer = omega arith;
}

-- one after another
on_twice : {a b c : List Arrival} {x y z : List Connection} {f g h : List Forward}
    → GoesOn a b x y f g → GoesOn b c y z g h → GoesOn a c x z f h
on_twice p q = record {
  arrivals = λ i r at. q.arrivals i r (p.arrivals i r at);
  connections = λ i r at.
      let one = p.connections i r at in
      let two = q.connections i one.0 one.1 in
      (two.0, two.1, two.2 ∙ one.2, λ e. two.3 (one.3 e));
  forwards = λ i r at.
      let one = p.forwards i r at in
      let two = q.forwards i one.0 one.1 in
      (two.0, two.1, two.2 ∙ one.2, λ n e. two.3 n (one.3 n e));
}

grows_twice : {a b c : List Arrival} {x y z : List Connection} {f g h : List Forward}
    → Grows a b x y f g → Grows b c y z g h → Grows a c x z f h
grows_twice p q = record {
  on = on_twice p.on q.on;
  back = λ i n r at e below.
      let more = p.longer in
      let one = q.back i n r at e (omega (arith, below, more)) in
      let two = p.back i n one.0 one.1 one.3 below in
      (two.0, two.1, two.2 ∙ one.2, two.3);
  longer = let m = p.longer in let n = q.longer in omega (arith, m, n);
}

join_follows : (node label database : ℕ) (joined : Result PassRecord JoinRefusal) (said : Reply) (nodes : List NodeView) (old new : World)
    → Joins node label database joined said (with_nodes nodes old) new → Follows old new
join_follows node label database (Ok pass) said nodes old new h =
    subst (λ (w : World). Follows old w) (sym h.1) (unchanged old)
join_follows node label database (Err refusal) said nodes old new h =
    subst (λ (w : World). Follows old w) (sym h.1) (unchanged old)

acquire_follows : (place : ℕ) (s : Session) (given : Asked) (said : Reply) (nodes : List NodeView) (old new : World)
    → Acquires place s given said (with_nodes nodes old) new → Follows old new
acquire_follows place s (AcquireReply.Got lease) said nodes old new h =
    subst (λ (w : World). Follows old w) (sym h.4) (unchanged old)
acquire_follows place s (AcquireReply.Open permit) said nodes old new h =
    subst (λ (w : World). Follows old w) (sym h.1) (unchanged old)
acquire_follows place s AcquireReply.Waiting said nodes old new h =
    subst (λ (w : World). Follows old w) (sym h.1) (unchanged old)
acquire_follows place s AcquireReply.Cancelled said nodes old new h =
    subst (λ (w : World). Follows old w) (sym h.1) (unchanged old)
acquire_follows place s AcquireReply.Exhausted said nodes old new h =
    subst (λ (w : World). Follows old w) (sym h.1) (unchanged old)
acquire_follows place s AcquireReply.Stale said nodes old new h =
    subst (λ (w : World). Follows old w) (sym h.1) (unchanged old)
acquire_follows place s AcquireReply.Holding said nodes old new h = absurd h

up_follows : (place : ℕ) (s : Session) (server : Server) (key : List ℕ) (given : Opened) (said : Reply) (nodes : List NodeView) (old new : World)
    → GoesUp place s server key given said (with_nodes nodes old) new → Follows old new
up_follows place s server key (UpReply.Up lease) said nodes old new h =
    subst (λ (w : World). Follows old w) (sym h.1) (unchanged old)
up_follows place s server key (UpReply.Exhausted again stream) said nodes old new h =
    subst (λ (w : World). Follows old w) (sym h.1) (unchanged old)
up_follows place s server key (UpReply.Stale stream) said nodes old new h =
    subst (λ (w : World). Follows old w) (sym h.1) (unchanged old)
up_follows place s server key (UpReply.AtEnd stream) said nodes old new h = absurd h

restart_follows : (node boot : ℕ) (given : RestartReply) (said : Reply) (nodes : List NodeView) (old new : World)
    → StartsAnew node boot given said (with_nodes nodes old) new → Follows old new
restart_follows node boot RestartReply.Restarted said nodes old new h =
    subst (λ (w : World). Follows old w) (sym h.1) (unchanged old)
restart_follows node boot RestartReply.Exhausted said nodes old new h =
    subst (λ (w : World). Follows old w) (sym h.1) (unchanged old)

-- what an order makes
makes_follows : (node : ℕ) (given : Order TicketRecord) (said : Reply) (old made : World) → Makes node given said old made
    → Follows old made
makes_follows node (Order.Serve ticket database key) said old made h =
    subst (λ (w : World). Follows old w) (sym h.3) (
      grows_by old.arrivals old.arrivals old.connections (and_then old.connections h.0) old.forwards (record {
        arrivals = λ i a at. at;
        connections = λ i c at. (c, kept_behind old.connections (h.0 ∷ []) i c at, refl, λ e. e);
        forwards = λ i f at. (f, at, refl, λ n e. e);
      }) (omega arith),
      refl,
    )
makes_follows node (Order.Forward to packet) said old made h =
    subst (λ (w : World). Follows old w) (sym h.1) (
      record {
        on = record {
          arrivals = λ i a at. at;
          connections = λ i c at. (c, at, refl, λ e. e);
          forwards = λ i f at. (f, kept_behind old.forwards (new_forward old ∷ []) i f at, refl, λ n e. e);
        };
        back = λ i n g at e below. ⊎_elim (λ was. (g, was, refl, e))
            (λ new. absurd (none-some n (ap (λ (z : Forward). z.accepted) (sym new.1) ∙ e)))
            (added_cases old.forwards (new_forward old) i g at);
        longer = omega arith;
      },
      refl,
    )
makes_follows node (Order.Unwait slot) said old made h =
    subst (λ (w : World). Follows old w) (sym h.1) (unchanged old)
makes_follows node (Order.Refused reason) said old made h =
    subst (λ (w : World). Follows old w) (sym h.1) (unchanged old)

arrive_follows : (old new : World) (flight node : ℕ) (key : AnyKey) (said : Reply)
    → Arrives flight node key said old new → Follows old new
arrive_follows old new flight node key said x =
    let m = makes_follows node x.given said old x.made x.makes in
    let a : Arrival = record { flight = flight; node = node; key = key; order = x.given } in
    let long = length-append old.arrivals (a ∷ []) in
    subst (λ (w : World). Follows old w) (sym x.after) (
      record {
        on = record {
          arrivals = λ i b at. kept_behind old.arrivals (a ∷ []) i b at;
          connections = m.0.on.connections;
          forwards = m.0.on.forwards;
        };
        back = m.0.back;
        longer = omega (arith, long);
      },
      m.1,
    )

comes_follows : (old new : World) (flight node : ℕ) (said : Reply) → Comes flight node said old new
    → Follows old new
comes_follows old new flight node said (Comes.Request bytes key there request arrives) =
    arrive_follows old new flight node key said arrives
comes_follows old new flight node said (Comes.Other bytes there other told same) =
    subst (λ (w : World). Follows old w) (sym same) (unchanged old)

-- an arrival is bound to its forward connection
bound_grows : (old delivered : World) (k : ℕ) (x : Forward) (came : Arrival) → delivered.arrivals ≡ and_then old.arrivals came
    → slice_get delivered.forwards k ≡ Some x → x.accepted ≡ None → RequestsGrow old delivered
    → Grows old.arrivals delivered.arrivals old.connections delivered.connections old.forwards
    (set delivered.forwards k (record x { accepted = Some (length old.arrivals) }))
bound_grows old delivered k x came arrivals there free h =
    let y : Forward = record x { accepted = Some (length old.arrivals) } in
    record {
      on = on_twice h.on (forward_on delivered.arrivals delivered.connections delivered.forwards k x y there refl
          (λ n e. absurd (none-some n (sym free ∙ e))));
      back = λ i n g at e below. ⊎_elim (λ was. h.back i n g was.1 e below)
          (λ new. let same : length old.arrivals ≡ n =
          same_Some (length old.arrivals) n (ap (λ (z : Forward). z.accepted) (sym new.1) ∙ e) in
          absurd (omega (arith, same, below)))
          (set_cases delivered.forwards k i g y at);
      longer = h.longer;
    }

-- what comes on a forward connection
bound_follows : (old new delivered : World) (flight node k : ℕ) (said : Reply) (x : Forward)
    → slice_get old.forwards k ≡ Some x → x.accepted ≡ None
    → Comes flight node said old delivered
    → new ≡ with_forward k (bound_by said old x) delivered → Follows old new
bound_follows old new delivered flight node k said x there free (Comes.Other bytes has other told same) after =
    subst (λ (w : World). Follows old w) (sym (after ∙ ap (λ (s : Reply). with_forward k (bound_by s old x) delivered) told
    ∙ ap (λ (w : World). with_forward k x w) same
    ∙ ap (λ (fs : List Forward). let w : World = record old { forwards = fs } in w) (same_forward old.forwards k x there)))
    (unchanged old)
bound_follows old new delivered flight node k said x there free (Comes.Request bytes key has request arrives) after =
    let h = arrive_follows old delivered flight node key said arrives in
    let adds = arrival_adds old delivered flight node key said arrives in
    let still_there : slice_get delivered.forwards k ≡ Some x = ⊎_elim
    (λ e. ap (λ (fs : List Forward). slice_get fs k) e ∙ there)
    (λ e. ap (λ (fs : List Forward). slice_get fs k) e ∙ kept_behind old.forwards _ k x there)
    adds.forwards in
    subst (λ (w : World). Follows old w) (sym (after ∙ ap (λ (y : Forward). with_forward k y delivered) (bound_is said old x adds.tells)))
    (bound_grows old delivered k x adds.came adds.arrivals still_there free h.0, h.1)

-- a report of a connection's end
report_follows : (old new : World) (nodes : List NodeView) (k : ℕ) (c : Connection) (how : Report)
    → slice_get old.connections k ≡ Some c
    → new ≡ with_connection k (record c { report = Some how }) (with_nodes nodes old) → Follows old new
report_follows old new nodes k c how there after = subst (λ (w : World). Follows old w) (sym after)
    (connection_grows old k c (record c { report = Some how }) there refl (λ e. e), refl)

-- a server acts: what is interrupted is for no arrival that is settled
act_by : (old new struck : World) (place at : ℕ) (c : Connection) (x : Backend) (runs : Option ℕ) (said : Reply)
    → slice_get old.connections place ≡ Some c → c.ended ≡ false
    → Strikes at x c.arrival runs said old struck
    → new ≡ with_connection place (record c { acted = true }) struck → Facts old → Passes old new
act_by old new struck place at c x None said there going strikes after f =
    passes_quietly old new (subst (λ (w : World). Follows old w)
    (sym (after ∙ ap (λ (w : World). with_connection place (record c { acted = true }) w) strikes.1)) (connection_grows old place c (record c { acted = true }) there refl (λ e. e), refl))
act_by old new struck place at c x (Some label) said there going strikes after f =
    let i : Interrupt = record { backend = at; label = label; arrival = c.arrival } in
    subst (Passes old)
    (sym (after ∙ ap (λ (w : World). with_connection place (record c { acted = true }) w) strikes.1)) (record {
      grows = connection_grows old place c (record c { acted = true }) there refl (λ e. e);
      kept = λ k z at_k. kept_behind old.interrupts (i ∷ []) k z at_k;
      stays = record {
        still = λ n s. settled_still (connection_on old place c (record c { acted = true }) there refl (λ e. e)) n s;
        quiet = λ n later k z settled comes past at_k is. ⊎_elim
            (λ was. let below = before_end old.interrupts k z was in absurd (omega (arith, below, past)))
            (λ new_i. differ c.ended (nothing_to_come old f n later place c settled comes there
            (ap (λ (y : Interrupt). y.arrival) (sym new_i.1) ∙ is)) going)
            (added_cases old.interrupts i k z at_k);
      };
    })
  where
    differ : (b : Bool) → b ≡ true → b ≡ false → ⊥
    differ b t e = true_or_false (sym t ∙ e)
      where
        true_or_false : true ≡ false → ⊥
        true_or_false h = cc

act_follows : (old new : World) (place : ℕ) (said : Reply) → StandsAt old place false false
    → Acts place said old new → Facts old → Passes old new
act_follows old new place said may does f =
    let same : may.connection ≡ does.connection =
    same_Some may.connection does.connection (sym may.there ∙ does.there) in
    act_by old new does.struck place does.at does.connection does.backend does.backend.running said does.there
    (ap (λ (z : Connection). z.ended) (sym same) ∙ may.ending) does.strikes does.after f

-- what each event leaves
follows : (event : Event) (said : Reply) (old new : World) → Admissible old event → Does event said old new
    → Facts old → Passes old new
follows (Event.Login node label database secret kind) said old new may does f =
    passes_quietly old new (join_follows node label database does.joined said does.nodes old new does.after)
follows (Event.Acquire label) said old new may does f =
    passes_quietly old new (acquire_follows does.place does.session does.given said does.nodes old new does.after)
follows (Event.Up label key) said old new may does f =
    passes_quietly old new (up_follows does.place does.session does.server key does.given said does.nodes old new does.after)
follows (Event.UpFailed label) said old new may does f =
    passes_quietly old new (subst (λ (w : World). Follows old w) (sym does.after) (unchanged old))
follows (Event.Send label) said old new may does f =
    passes_quietly old new (subst (λ (w : World). Follows old w) (sym does.0.after) (unchanged old))
follows (Event.Take at) said old new may does f =
    passes_quietly old new (subst (λ (w : World). Follows old w) (sym does.0.after) (unchanged old))
follows (Event.Finish at) said old new may does f =
    passes_quietly old new (subst (λ (w : World). Follows old w) (sym does.0.after) (unchanged old))
follows (Event.Ready label) said old new may does f =
    passes_quietly old new (subst (λ (w : World). Follows old w) (sym does.0.after) (unchanged old))
follows (Event.Release label) said old new may does f =
    passes_quietly old new (subst (λ (w : World). Follows old w) (sym does.after) (unchanged old))
follows (Event.Close label) said old new may does f =
    passes_quietly old new (subst (λ (w : World). Follows old w) (sym does.after) (unchanged old))
follows (Event.Leave label) said old new may does f =
    passes_quietly old new (subst (λ (w : World). Follows old w) (sym does.after) (unchanged old))
follows (Event.Put bytes) said old new may does f =
    passes_quietly old new (subst (λ (w : World). Follows old w) (sym does.after) (unchanged old))
follows (Event.Deliver flight node) said old new may does f =
    passes_quietly old new (comes_follows old new flight node said does)
follows (Event.Accept flight node) said old new may does f =
    let accept = may.0 in
    let same = one_forward old f flight accept.place does.place accept.forward does.forward accept.is does.is in
    passes_quietly old new (bound_follows old new does.delivered flight node does.place said does.forward does.is.there
    (ap (λ (z : Forward). z.accepted) (sym same) ∙ accept.new) does.comes does.after)
follows (Event.ForwardEnded flight) said old new may does f =
    passes_quietly old new (subst (λ (w : World). Follows old w) (sym does.0.after) (forward_grows old.arrivals old.connections old.forwards does.0.place does.0.forward _ does.0.is.there refl refl, refl))
follows (Event.ForwardTold flight) said old new may does f =
    passes_quietly old new (subst (λ (w : World). Follows old w) (sym does.0.after) (forward_grows old.arrivals old.connections old.forwards does.0.place does.0.forward _ does.0.is.there refl refl, refl))
follows (Event.ForwardBroken flight) said old new may does f =
    passes_quietly old new (subst (λ (w : World). Follows old w) (sym does.0.after) (forward_grows old.arrivals old.connections old.forwards does.0.place does.0.forward _ does.0.is.there refl refl, refl))
follows (Event.Act place) said old new may does f = act_follows old new place said may does f
follows (Event.End place) said old new may does f =
    passes_quietly old new (subst (λ (w : World). Follows old w) (sym does.0.after) (connection_grows old place does.0.connection _ does.0.there refl (λ e. refl), refl))
follows (Event.Told place) said old new may does f =
    let r = does.reports in
    passes_quietly old new (report_follows old new r.nodes place r.connection Report.Clean r.there r.after)
follows (Event.Broken place) said old new may does f =
    let r = does.reports in
    passes_quietly old new (report_follows old new r.nodes place r.connection Report.Fault r.there r.after)
follows (Event.Restart node asked) said old new may does f =
    passes_quietly old new (restart_follows node does.boot does.given said does.nodes old new does.after)

-- each step passes to a later world
pub step_passes : (event : Event) (did : Took) (old new : World) → WorldStep event did old new
    → Facts old → Passes old new
step_passes event (Took.Done said) old new step f = follows event said old new step.0 step.1 f
step_passes event Took.Skipped old new step f =
    passes_quietly old new (subst (λ (w : World). Follows old w) (sym step.1) (unchanged old))

-- what comes of an arrival comes no earlier
comes_later : (forwards : List Forward) → ((n m : ℕ) → LedTo forwards n m → n < m) → (n later : ℕ)
    → ComesOf forwards n later → n ≤ later
comes_later forwards rises n later (ComesOf.Itself a) = omega arith
comes_later forwards rises n later (ComesOf.Onward a m l way rest) =
    let first = rises a m way in
    let more = comes_later forwards rises m l rest in
    omega (arith, first, more)

-- what comes of an arrival, and was there before, came of it before
came_before : (came come : List Arrival) (was now : List Connection) (led lead : List Forward) → Grows came come was now led lead
    → ((n m : ℕ) → LedTo lead n m → n < m) → (n later : ℕ) → ComesOf lead n later
    → later < length came → ComesOf led n later
came_before came come was now led lead grows rises n later (ComesOf.Itself a) below = ComesOf.Itself a
came_before came come was now led lead grows rises n later (ComesOf.Onward a m l way rest) below =
    let more = comes_later lead rises m l rest in
    let old = grows.back way.place m way.forward way.there way.to (omega (arith, below, more)) in
    ComesOf.Onward a m l (record {
      place = way.place;
      forward = old.0;
      there = old.1;
      from = old.2 ∙ way.from;
      to = old.3;
    }) (came_before came come was now led lead grows rises m l rest below)

-- a forward connection leads to a later arrival
rises : (w : World) → Facts w → (n m : ℕ) → LedTo w.forwards n m → n < m
rises w f n m way =
    let onward = (f.forwards.each way.place way.forward way.there).onward m way.to in
    subst (λ (k : ℕ). k < m) way.from onward.3

-- a world is no later than itself
pub passes_not : (w : World) → Passes w w
passes_not w = passes_quietly w w (unchanged w)

-- one after another: over any number of steps what is settled is settled for good
pub passes_twice : (old mid new : World) → Facts mid → Facts new → Passes old mid → Passes mid new
    → Passes old new
passes_twice old mid new at_mid at_new p q = record {
  grows = grows_twice p.grows q.grows;
  kept = λ i struck at. q.kept i struck (p.kept i struck at);
  stays = record {
    still = λ n s. q.stays.still n (p.stays.still n s);
    quiet = λ n later place struck settled comes past at is. ⊎_elim
        (λ below. early n later place struck settled comes past at is below)
        (λ above. q.stays.quiet n later place struck (p.stays.still n settled) comes above at is)
        (cases_lt place (length mid.interrupts));
  };
}
  where
    early : (n later place : ℕ) (struck : Interrupt) → IsSettled old n → ComesOf new.forwards n later
        → length old.interrupts ≤ place → slice_get new.interrupts place ≡ Some struck
        → struck.arrival ≡ later → place < length mid.interrupts → ⊥
    early n later place struck settled comes past at is below =
        let there = slice_get-get_or mid.interrupts place struck below in
        let same : get_or mid.interrupts place struck ≡ struck =
        same_Some (get_or mid.interrupts place struck) struck
        (sym (q.kept place (get_or mid.interrupts place struck) there) ∙ at) in
        let then : slice_get mid.interrupts place ≡ Some struck = there ∙ ap Some same in
        let came = at_mid.safe.struck place struck then in
        let before = before_end mid.arrivals struck.arrival came.came came.there in
        p.stays.quiet n later place struck settled
        (came_before mid.arrivals new.arrivals mid.connections new.connections mid.forwards new.forwards q.grows
        (rises new at_new) n later comes (omega (arith, before, is))) past then is
