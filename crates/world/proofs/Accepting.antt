-- A forwarded request is accepted on its forward connection.
use Rattle.std.proofs.Common.{◌≡◌, ◌≢◌, ℕ, zero, suc, ◌<◌, ◌⊎◌, inl, inr, ⊎_elim, List, [], ◌∷◌, Some, None, length, refl, ap, sym, subst, ◌∙◌, arith}
use Rattle.std.proofs.Math.ListN.{set}
use Rattle.std.specs.List.{slice_get}
use Rattle.std.proofs.lemmas.Option.{same_Some, none-some}
use Rattle.std.proofs.lemmas.Bool.{cases_eq}
use Rattle.pg_ids.specs.AnyKey.{IsAnyKey}
use Rattle.pg_ids.specs.declared.any_key.AnyKey.{AnyKey}
use Rattle.lease.specs.declared.ticket.TicketRecord.{TicketRecord}
use Rattle.node_core.specs.declared.exchange.Order.{Order}
use Rattle.world.specs.declared.reply.Reply.{Reply}
use Rattle.world.specs.World.{World, Arrival, Forward}
use Rattle.world.specs.Changes.{and_then, with_forward}
use Rattle.world.specs.Admissible.{MayAccept}
use Rattle.world.specs.CancelEvents.{new_forward, Makes, Arrives, Comes, bound_by, Accepts}
use Rattle.world.specs.Facts.{ForwardStands, Facts, AreWhole}
use Rattle.world.proofs.Lists.{set_here, set_there, set_cases, kept_behind, added_cases, added_last, before_end}
use Rattle.world.proofs.Settling.{GoesOn, settled_still}
use Rattle.world.proofs.Forwarding.{one_forward}
use Rattle.world.proofs.Delivering.{arrives_kept}

-- what an arrival adds
pub record Adds (old new : World) (flight : ℕ) (said : Reply) : Type 0 where
  pub forwards : (new.forwards ≡ old.forwards) ⊎ (new.forwards ≡ and_then old.forwards (new_forward old))
  pub came : Arrival
  pub arrivals : new.arrivals ≡ and_then old.arrivals came
  pub flight_is : came.flight ≡ flight
  pub tells : said ≢ Reply.NoCancel

makes_forwards : (node : ℕ) (given : Order TicketRecord) (said : Reply) (old made : World) → Makes node given said old made
    → ((made.forwards ≡ old.forwards) ⊎ (made.forwards ≡ and_then old.forwards (new_forward old)))
    × (said ≢ Reply.NoCancel)
makes_forwards node (Order.Serve ticket database key) said old made h =
    (inl (ap (λ (w : World). w.forwards) h.3), λ e. differ (sym h.2 ∙ e))
  where
    differ : Reply.Serve (length old.arrivals) (length old.connections) ≡ Reply.NoCancel → ⊥
    differ h = cc
makes_forwards node (Order.Forward to packet) said old made h =
    (inr (ap (λ (w : World). w.forwards) h.1), λ e. differ (sym h.0 ∙ e))
  where
    differ : Reply.Forward (length old.arrivals) (length old.flights) ≡ Reply.NoCancel → ⊥
    differ h = cc
makes_forwards node (Order.Unwait slot) said old made h =
    (inl (ap (λ (w : World). w.forwards) h.1), λ e. differ (sym h.0 ∙ e))
  where
    differ : Reply.Unwait (length old.arrivals) ≡ Reply.NoCancel → ⊥
    differ h = cc
makes_forwards node (Order.Refused reason) said old made h =
    (inl (ap (λ (w : World). w.forwards) h.1), λ e. differ (sym h.0 ∙ e))
  where
    differ : Reply.CancelRefused (length old.arrivals) reason ≡ Reply.NoCancel → ⊥
    differ h = cc

pub arrival_adds : (old new : World) (flight node : ℕ) (key : AnyKey) (said : Reply)
    → Arrives flight node key said old new → Adds old new flight said
arrival_adds old new flight node key said x =
    let m = makes_forwards node x.given said old x.made x.makes in
    let same : new.forwards ≡ x.made.forwards = ap (λ (w : World). w.forwards) x.after in
    record {
      forwards = ⊎_elim (λ e. inl (same ∙ e)) (λ e. inr (same ∙ e)) m.0;
      came = record { flight = flight; node = node; key = key; order = x.given };
      arrivals = ap (λ (w : World). w.arrivals) x.after;
      flight_is = refl;
      tells = m.1;
    }

-- a forward connection leads to an arrival
bound_kept : (w : World) (k n : ℕ) (x : Forward) (came : Arrival) → slice_get w.forwards k ≡ Some x
    → x.accepted ≡ None → slice_get w.arrivals n ≡ Some came → came.flight ≡ x.flight → x.origin < n
    → ((i : ℕ) (g : Forward) → slice_get w.forwards i ≡ Some g → g.accepted ≡ Some n → ⊥)
    → Facts w → Facts (with_forward k (record x { accepted = Some n }) w)
bound_kept w k n x came there free at_n flight later fresh f =
    let y : Forward = record x { accepted = Some n } in
    let more = set w.forwards k y in
    let old = f.forwards.each k x there in
    let on : GoesOn w.arrivals w.arrivals w.connections w.connections w.forwards more = record {
      arrivals = λ i a h. h;
      connections = λ i c h. (c, h, refl, λ e. e);
      forwards = λ i g h. ⊎_elim
          (λ same. let one : g ≡ x = same_Some g x (sym h ∙ ap (slice_get w.forwards) same ∙ there) in (
            y,
            ap (slice_get more) same ∙ set_here w.forwards k x y there,
            ap (λ (z : Forward). z.origin) (sym one),
            λ m e. absurd (none-some m (sym free ∙ ap (λ (z : Forward). z.accepted) (sym one) ∙ e)),
          ))
          (λ apart. (g, set_there w.forwards k i y apart ∙ h, refl, λ m e. e))
          (cases_eq i k);
    } in
    let from : (i : ℕ) (g : Forward) → slice_get more i ≡ Some g
    → (z : Forward) × (slice_get w.forwards i ≡ Some z) × (z.flight ≡ g.flight) × (z.origin ≡ g.origin) =
    λ i g at. ⊎_elim (λ was. (g, was.1, refl, refl))
    (λ new. (
      x,
      ap (slice_get w.forwards) new.0 ∙ there,
      ap (λ (z : Forward). z.flight) (sym new.1),
      ap (λ (z : Forward). z.origin) (sym new.1),
    )) (set_cases w.forwards k i g y at) in
    record {
      servers = f.servers;
      nodes = f.nodes;
      issues = f.issues;
      clients = f.clients;
      slots = f.slots;
      processes = f.processes;
      numbers = f.numbers;
      links = f.links;
      connections = f.connections;
      loads = f.loads;
      forwards = record {
        each = λ i g at. ⊎_elim
            (λ was. let h = f.forwards.each i g was.1 in record {
              flight = h.flight;
              origin = h.origin;
              onward = h.onward;
              ended = λ e. let s = h.ended e in (s.0, s.1, settled_still on s.0 s.2);
              clean = h.clean;
            })
            (λ new. subst (ForwardStands w.flights w.arrivals w.connections more) (sym new.1) (record {
              flight = old.flight;
              origin = old.origin;
              onward = λ m e. let same : n ≡ m = same_Some n m e in
                  (came, ap (slice_get w.arrivals) (sym same) ∙ at_n, flight, subst (λ (z : ℕ). x.origin < z) same later);
              ended = λ e. let s = old.ended e in absurd (none-some s.0 (sym free ∙ s.1));
              clean = old.clean;
            }))
            (set_cases w.forwards k i g y at);
        one_flight = λ i j a b at_i at_j same.
            let p = from i a at_i in let q = from j b at_j in
            f.forwards.one_flight i j p.0 q.0 p.1 q.1 (p.2 ∙ same ∙ sym q.2);
        one_origin = λ i j a b at_i at_j same.
            let p = from i a at_i in let q = from j b at_j in
            f.forwards.one_origin i j p.0 q.0 p.1 q.1 (p.3 ∙ same ∙ sym q.3);
        one_onward = λ i j m a b at_i at_j of_a of_b. ⊎_elim
            (λ was_i. ⊎_elim (λ was_j. f.forwards.one_onward i j m a b was_i.1 was_j.1 of_a of_b)
            (λ new_j. let same : n ≡ m = same_Some n m (ap (λ (z : Forward). z.accepted) (sym new_j.1) ∙ of_b) in
            absurd (fresh i a was_i.1 (of_a ∙ ap Some (sym same))))
            (set_cases w.forwards k j b y at_j))
            (λ new_i. ⊎_elim
            (λ was_j. let same : n ≡ m = same_Some n m (ap (λ (z : Forward). z.accepted) (sym new_i.1) ∙ of_a) in
            absurd (fresh j b was_j.1 (of_b ∙ ap Some (sym same))))
            (λ new_j. new_i.0 ∙ sym new_j.0)
            (set_cases w.forwards k j b y at_j))
            (set_cases w.forwards k i a y at_i);
      };
      safe = record { struck = f.safe.struck; taken = f.safe.taken; earned = f.safe.earned };
    }

-- what a reply binds
pub bound_is : (said : Reply) (old : World) (x : Forward) → said ≢ Reply.NoCancel
    → bound_by said old x ≡ record x { accepted = Some (length old.arrivals) }
bound_is Reply.NoCancel old x apart = absurd (apart refl)
bound_is said old x apart = refl

-- a write of what is there
pub same_forward : (forwards : List Forward) (k : ℕ) (x : Forward) → slice_get forwards k ≡ Some x
    → set forwards k x ≡ forwards
same_forward [] k x h = refl
same_forward (y ∷ ys) zero x h = ap (λ (z : Forward). z ∷ ys) (sym (same_Some y x h))
same_forward (y ∷ ys) (suc k) x h = ap (λ (zs : List Forward). y ∷ zs) (same_forward ys k x h)

-- a request came on its forward connection
accept_by : (old new delivered : World) (flight node k : ℕ) (key : AnyKey) (said : Reply) (x : Forward) → AreWhole old.nodes
    → IsAnyKey key → slice_get old.forwards k ≡ Some x → x.flight ≡ flight → x.accepted ≡ None
    → Arrives flight node key said old delivered
    → new ≡ with_forward k (bound_by said old x) delivered → Facts old → Facts new
accept_by old new delivered flight node k key said x whole is_key there named free arrives after f =
    let g = arrives_kept old delivered flight node key said whole is_key arrives f in
    let adds = arrival_adds old delivered flight node key said arrives in
    let n = length old.arrivals in
    let there_still : slice_get delivered.forwards k ≡ Some x = ⊎_elim
    (λ e. ap (λ (fs : List Forward). slice_get fs k) e ∙ there)
    (λ e. ap (λ (fs : List Forward). slice_get fs k) e ∙ kept_behind old.forwards (new_forward old ∷ []) k x there)
    adds.forwards in
    let at_n : slice_get delivered.arrivals n ≡ Some adds.came =
    ap (λ (a : List Arrival). slice_get a n) adds.arrivals ∙ added_last old.arrivals adds.came in
    let origin = (f.forwards.each k x there).origin in
    let later = before_end old.arrivals x.origin origin.0 origin.1 in
    let not_yet : (i : ℕ) (z : Forward) → slice_get old.forwards i ≡ Some z → z.accepted ≡ Some n → ⊥ =
    λ i z at e. let o = (f.forwards.each i z at).onward n e in
    let below = before_end old.arrivals n o.0 o.1 in omega (arith, below) in
    let fresh : (i : ℕ) (z : Forward) → slice_get delivered.forwards i ≡ Some z → z.accepted ≡ Some n → ⊥ =
    λ i z at e. ⊎_elim
    (λ same. not_yet i z (ap (λ (fs : List Forward). slice_get fs i) (sym same) ∙ at) e)
    (λ more. ⊎_elim (λ was. not_yet i z was e)
    (λ new_f. none-some n (ap (λ (q : Forward). q.accepted) (sym new_f.1) ∙ e))
    (added_cases old.forwards (new_forward old) i z (ap (λ (fs : List Forward). slice_get fs i) (sym more) ∙ at)))
    adds.forwards in
    subst Facts (sym (after ∙ ap (λ (y : Forward). with_forward k y delivered) (bound_is said old x adds.tells)))
    (bound_kept delivered k n x adds.came there_still free at_n (adds.flight_is ∙ sym named) later fresh g)

-- something else came, which binds nothing
other_by : (old new delivered : World) (k : ℕ) (said : Reply) (x : Forward)
    → slice_get old.forwards k ≡ Some x → said ≡ Reply.NoCancel → delivered ≡ old
    → new ≡ with_forward k (bound_by said old x) delivered → Facts old → Facts new
other_by old new delivered k said x there told is after f =
    subst Facts (sym (after ∙ ap (λ (s : Reply). with_forward k (bound_by s old x) delivered) told
    ∙ ap (λ (w : World). with_forward k x w) is
    ∙ ap (λ (fs : List Forward). let w : World = record old { forwards = fs } in w) (same_forward old.forwards k x there))) f

accept_way : (old new delivered : World) (flight node k : ℕ) (said : Reply) (x : Forward) → AreWhole old.nodes
    → slice_get old.forwards k ≡ Some x → x.flight ≡ flight → x.accepted ≡ None
    → Comes flight node said old delivered
    → new ≡ with_forward k (bound_by said old x) delivered → Facts old → Facts new
accept_way old new delivered flight node k said x whole there named free (Comes.Request bytes key has request arrives) after f =
    accept_by old new delivered flight node k key said x whole request.is.0 there named free arrives after f
accept_way old new delivered flight node k said x whole there named free (Comes.Other bytes has other told is) after f =
    other_by old new delivered k said x there told is after f

pub accept_kept : (old new : World) (flight node : ℕ) (said : Reply) → AreWhole old.nodes
    → MayAccept old flight → Accepts flight node said old new → Facts old → Facts new
accept_kept old new flight node said whole may does f =
    let same : may.forward ≡ does.forward =
    one_forward old f flight may.place does.place may.forward does.forward may.is does.is in
    accept_way old new does.delivered flight node does.place said does.forward whole does.is.there does.is.named
    (ap (λ (z : Forward). z.accepted) (sym same) ∙ may.new) does.comes does.after f
