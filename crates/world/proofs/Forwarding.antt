-- A forward connection comes further on its way.
use Rattle.std.proofs.Common.{◌≡◌, ℕ, ◌<◌, ⊎_elim, true, List, [], ◌∷◌, Some, length, refl, ap, sym, subst, ◌∙◌, arith, length-append}
use Rattle.std.proofs.Math.ListN.{set}
use Rattle.std.specs.List.{slice_get}
use Rattle.std.proofs.lemmas.Option.{same_Some}
use Rattle.std.proofs.lemmas.Bool.{cases_eq}
use Rattle.world.specs.declared.reply.Reply.{Reply}
use Rattle.world.specs.World.{World, Arrival, Connection, Forward, Report, IsForward}
use Rattle.world.specs.Settled.{Settled, LedTo}
use Rattle.world.specs.Admissible.{IsAnswered, MayEndForward, IsForwardOpen}
use Rattle.world.specs.CancelEvents.{Forwards, Puts}
use Rattle.world.specs.Facts.{ForwardStands, AreForwards, Facts}
use Rattle.world.proofs.Lists.{set_here, set_there, set_cases}
use Rattle.world.proofs.Settling.{GoesOn, all_same, settled_still}
use Rattle.world.proofs.Connections.{forwards_kept}

-- a forward connection is for the same, and leads where it led; it is reported clean only once it
-- is ended
pub record Proceeds (f g : Forward) : Type 0 where
  pub flight : g.flight ≡ f.flight
  pub origin : g.origin ≡ f.origin
  pub onward : g.accepted ≡ f.accepted
  pub clean : g.report ≡ Some Report.Clean → g.ended ≡ true

module _ (flights : List (List ℕ)) (arrivals : List Arrival) (connections : List Connection) (was : List Forward) (k : ℕ) (f g : Forward)
    (old : AreForwards flights arrivals connections was) (there : slice_get was k ≡ Some f) (step : Proceeds f g) where
  came_from : (i : ℕ) (x : Forward) → slice_get (set was k g) i ≡ Some x
      → (y : Forward) × (slice_get was i ≡ Some y) × Proceeds y x
  came_from i x at = ⊎_elim
      (λ same. (
        x,
        same.1,
        record {
          flight = refl;
          origin = refl;
          onward = refl;
          clean = (old.each i x same.1).clean;
        },
      ))
      (λ new. (f, ap (slice_get was) new.0 ∙ there, subst (Proceeds f) (sym new.1) step))
      (set_cases was k i x g at)

  pub goes_on : GoesOn arrivals arrivals connections connections was (set was k g)
  goes_on = record {
    arrivals = λ i a h. h;
    connections = λ i c h. (c, h, refl, λ e. e);
    forwards = λ i y at. ⊎_elim
        (λ same. let is : y ≡ f = same_Some y f (sym at ∙ ap (slice_get was) same ∙ there) in (
          g,
          ap (slice_get (set was k g)) same ∙ set_here was k f g there,
          step.origin ∙ ap (λ (z : Forward). z.origin) (sym is),
          λ n e. step.onward ∙ ap (λ (z : Forward). z.accepted) (sym is) ∙ e,
        ))
        (λ apart. (y, set_there was k i g apart ∙ at, refl, λ n e. e))
        (cases_eq i k);
  }

  -- what is known of the others, and of what this one was for, is known still
  pub forward_kept : (g.ended ≡ true → (n : ℕ) × (g.accepted ≡ Some n) × Settled arrivals connections was n)
      → AreForwards flights arrivals connections (set was k g)
  forward_kept ended = record {
    each = λ i x at. ⊎_elim
        (λ same. let h = old.each i x same.1 in record {
          flight = h.flight;
          origin = h.origin;
          onward = h.onward;
          ended = λ e. let s = h.ended e in (s.0, s.1, settled_still goes_on s.0 s.2);
          clean = h.clean;
        })
        (λ new. let h = old.each k f there in subst (ForwardStands flights arrivals connections (set was k g)) (sym new.1) (record {
          flight = subst (λ (n : ℕ). n < length flights) (sym step.flight) h.flight;
          origin = (h.origin.0, ap (slice_get arrivals) step.origin ∙ h.origin.1, h.origin.2);
          onward = λ n e. let o = h.onward n (sym step.onward ∙ e) in
              (o.0, o.1, o.2 ∙ sym step.flight, subst (λ (m : ℕ). m < n) (sym step.origin) o.3);
          ended = λ e. let s = ended e in (s.0, s.1, settled_still goes_on s.0 s.2);
          clean = step.clean;
        }))
        (set_cases was k i x g at);
    one_flight = λ i j x y at_i at_j same.
        let a = came_from i x at_i in let b = came_from j y at_j in
        old.one_flight i j a.0 b.0 a.1 b.1 (sym a.2.flight ∙ same ∙ b.2.flight);
    one_origin = λ i j x y at_i at_j same.
        let a = came_from i x at_i in let b = came_from j y at_j in
        old.one_origin i j a.0 b.0 a.1 b.1 (sym a.2.origin ∙ same ∙ b.2.origin);
    one_onward = λ i j n x y at_i at_j e d.
        let a = came_from i x at_i in let b = came_from j y at_j in
        old.one_onward i j n a.0 b.0 a.1 b.1 (sym a.2.onward ∙ e) (sym b.2.onward ∙ d);
  }

-- an arrival of which nothing more is to be reported is settled
pub answered_settled : (w : World) → Facts w → (n : ℕ)
    → IsAnswered w.arrivals w.connections w.forwards n
    → Settled w.arrivals w.connections w.forwards n
answered_settled w f n (IsAnswered.Nowhere came there nowhere) =
    Settled.Nowhere n came there nowhere
answered_settled w f n (IsAnswered.Carried place c there is clean) = Settled.Ended n (record {
  place = place;
  connection = c;
  there = there;
  for = is;
  ended = (f.connections.each place c there).clean clean;
})
answered_settled w f n (IsAnswered.Onward place g there is clean) =
    let h = f.forwards.each place g there in
    let e = h.ended (h.clean clean) in
    let way : LedTo w.forwards n e.0 = record {
      place = place;
      forward = g;
      there = there;
      from = is;
      to = e.1;
    } in
    Settled.Forwarded n e.0 way e.2

-- one forward connection of the world proceeds
forward_proceeds : (w : World) (k : ℕ) (x y : Forward) → slice_get w.forwards k ≡ Some x
    → Proceeds x y
    → (y.ended ≡ true → (n : ℕ) × (y.accepted ≡ Some n) × Settled w.arrivals w.connections w.forwards n)
    → Facts w → Facts (record w { forwards = set w.forwards k y })
forward_proceeds w k x y there step ended f = record {
  servers = f.servers;
  nodes = f.nodes;
  issues = f.issues;
  clients = f.clients;
  slots = f.slots;
  processes = f.processes;
  numbers = f.numbers;
  links = f.links;
  connections = f.connections;
  loads = f.loads;
  forwards = forward_kept w.flights w.arrivals w.connections w.forwards k x y f.forwards there step ended;
  safe = record { struck = f.safe.struck; taken = f.safe.taken; earned = f.safe.earned };
}

-- a flight has one forward connection
pub one_forward : (w : World) → Facts w → (flight i j : ℕ) (x y : Forward)
    → IsForward w.forwards flight i x → IsForward w.forwards flight j y → x ≡ y
one_forward w f flight i j x y a b =
    let place : i ≡ j = f.forwards.one_flight i j x y a.there b.there (a.named ∙ sym b.named) in
    same_Some x y (sym a.there ∙ ap (slice_get w.forwards) place ∙ b.there)

-- a forward connection is ended without a byte
pub forward_ended_kept : (old new : World) (flight : ℕ) → MayEndForward old flight
    → Forwards flight (λ forward. record forward { ended = true }) old new → Facts old → Facts new
forward_ended_kept old new flight may does f =
    let same : may.forward ≡ does.forward =
    one_forward old f flight may.place does.place may.forward does.forward may.is does.is in
    subst Facts (sym does.after) (forward_proceeds old does.place does.forward _ does.is.there
    (record { flight = refl; origin = refl; onward = refl; clean = λ e. refl })
    (λ e. (
      may.arrival,
      ap (λ (x : Forward). x.accepted) (sym same) ∙ may.accepted,
      answered_settled old f may.arrival may.answered,
    )) f)

-- the end of a forward connection is reported
pub forward_told_kept : (old new : World) (flight place : ℕ) (forward : Forward)
    → IsForwardOpen old flight place forward → forward.ended ≡ true
    → Forwards flight (λ forward. record forward { report = Some Report.Clean }) old new
    → Facts old → Facts new
forward_told_kept old new flight place forward may ended does f =
    let same : forward ≡ does.forward =
    one_forward old f flight place does.place forward does.forward may.is does.is in
    subst Facts (sym does.after) (forward_proceeds old does.place does.forward _ does.is.there
    (record {
      flight = refl;
      origin = refl;
      onward = refl;
      clean = λ e. ap (λ (x : Forward). x.ended) (sym same) ∙ ended;
    })
    (f.forwards.each does.place does.forward does.is.there).ended f)

-- a forward connection breaks
pub forward_broken_kept : (old new : World) (flight : ℕ)
    → Forwards flight (λ forward. record forward { report = Some Report.Fault }) old new
    → Facts old → Facts new
forward_broken_kept old new flight does f =
    subst Facts (sym does.after) (forward_proceeds old does.place does.forward _ does.is.there
    (record { flight = refl; origin = refl; onward = refl; clean = λ e. absurd (cc) })
    (f.forwards.each does.place does.forward does.is.there).ended f)

-- somebody sends bytes
pub put_kept : (old new : World) (bytes : List ℕ) (said : Reply) → Puts bytes said old new
    → Facts old → Facts new
put_kept old new bytes said does f = subst Facts (sym does.after) (record {
  servers = f.servers;
  nodes = f.nodes;
  issues = f.issues;
  clients = f.clients;
  slots = f.slots;
  processes = f.processes;
  numbers = f.numbers;
  links = f.links;
  connections = f.connections;
  loads = f.loads;
  forwards = forwards_kept old.forwards (omega (arith, length-append old.flights (bytes ∷ [])))
      (all_same old.arrivals old.connections old.forwards) f.forwards;
  safe = record { struck = f.safe.struck; taken = f.safe.taken; earned = f.safe.earned };
})
