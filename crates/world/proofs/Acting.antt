-- Servers act on cancel connections, and end them.
use Rattle.std.proofs.Common.{◌≡◌, ℕ, ⊎_elim, true, false, List, Option, Some, None, refl, ap, sym, subst, ◌∙◌, arith}
use Rattle.std.specs.List.{slice_get}
use Rattle.std.proofs.lemmas.Option.{same_Some}
use Rattle.world.specs.declared.reply.Reply.{Reply}
use Rattle.pg_ids.specs.AnyKey.{any_identity_of}
use Rattle.world.specs.World.{World, Backend, Connection, Interrupt, Report, IsOwner}
use Rattle.world.specs.Changes.{with_connection}
use Rattle.world.specs.Admissible.{StandsAt}
use Rattle.world.specs.CancelEvents.{Strikes, Acts, Ends}
use Rattle.world.specs.SafeCancellation.{IsForOwner}
use Rattle.world.specs.Facts.{process_of, last_holder, Facts, processes_of, lasts_of, faces_of}
use Rattle.world.proofs.Lists.{added_cases, read_map, set_cases}
use Rattle.world.proofs.Connections.{servers_kept, Advances, OneAdvances, goes_on, connections_kept, numbers_kept, earned_kept, forwards_kept, open_same}
use Rattle.world.proofs.Loads.{rests_kept}

-- a cancel connection advances, and nothing is reported of it
pub unreported_kept : (w : World) (k : ℕ) (c d : Connection) → slice_get w.connections k ≡ Some c
    → Advances c d → d.report ≡ c.report → Facts w → Facts (with_connection k d w)
unreported_kept w k c d there step report f =
    let old = f.connections in
    let one : OneAdvances w.connections k c d = record { there = there; step = step } in
    record {
      servers = servers_kept w.arrivals (processes_of w) (lasts_of w) w.connections k c d old one
          w.group (faces_of w) f.servers;
      nodes = f.nodes;
      issues = f.issues;
      clients = f.clients;
      slots = f.slots;
      processes = f.processes;
      numbers = numbers_kept w.arrivals (processes_of w) (lasts_of w) w.connections k c d old one
          w.nodes (faces_of w) f.numbers;
      links = λ i view at_node at link at_place.
          let h = f.links i view at_node at link at_place in
          let s = h.2 in (
            h.0,
            h.1,
            record {
              tickets = s.tickets ∙ sym (open_same w.connections k c d h.0 there step.backend report);
              hasty = λ j x how at_j backend acted reported. ⊎_elim
                  (λ same. s.hasty j x how same.1 backend acted reported)
                  (λ new. s.hasty k c how there
                  (sym step.backend ∙ ap (λ (z : Connection). z.backend) (sym new.1) ∙ backend)
                  (step.waits (ap (λ (z : Connection). z.acted) (sym new.1) ∙ acted))
                  (sym report ∙ ap (λ (z : Connection). z.report) (sym new.1) ∙ reported))
                  (set_cases w.connections k j x d at_j);
              giver = s.giver;
            },
          );
      connections = connections_kept w.arrivals (processes_of w) (lasts_of w) w.connections k c d old one;
      loads = f.loads;
      forwards = forwards_kept w.forwards (omega arith)
          (goes_on w.arrivals (processes_of w) (lasts_of w) w.connections k c d old one w.forwards)
          f.forwards;
      safe = record {
        struck = f.safe.struck;
        taken = f.safe.taken;
        earned = earned_kept w.arrivals (processes_of w) (lasts_of w) w.connections k c d old one
            w.issues f.safe.earned;
      };
    }

-- a server ends a cancel connection on which it has acted
pub end_kept : (old new : World) (place : ℕ) → StandsAt old place true false
    → Ends place old new → Facts old → Facts new
end_kept old new place may does f =
    let c = does.connection in
    let same : may.connection ≡ c = same_Some may.connection c (sym may.there ∙ does.there) in
    let acted : c.acted ≡ true = ap (λ (x : Connection). x.acted) (sym same) ∙ may.acting in
    let step : Advances c (record c { ended = true }) = record {
      server = refl;
      key = refl;
      backend = refl;
      holder = refl;
      arrival = refl;
      ticket = refl;
      waits = λ e. e;
      ending = λ e. refl;
      acted = λ e. acted;
      clean = λ e. refl;
    } in
    subst Facts (sym does.after) (unreported_kept old place c _ does.there step refl f)

-- a server has acted on a cancel connection
acts : (c : Connection) → (c.ended ≡ true → c.acted ≡ true)
    → (c.report ≡ Some Report.Clean → c.ended ≡ true) → Advances c (record c { acted = true })
acts c acted clean = record {
  server = refl;
  key = refl;
  backend = refl;
  holder = refl;
  arrival = refl;
  ticket = refl;
  waits = λ e. absurd (cc);
  ending = λ e. e;
  acted = λ e. refl;
  clean = clean;
}

-- what is interrupted is a request of the client to whom the key was given
struck_owner : (w : World) → Facts w → (place at label : ℕ) (c : Connection) (x : Backend)
    → slice_get w.connections place ≡ Some c → c.acted ≡ false
    → slice_get w.backends at ≡ Some x → x.server ≡ c.server → x.key ≡ c.key
    → x.running ≡ Some label → IsForOwner w.issues w.arrivals c.arrival label
struck_owner w f place at label c x there waits here server key runs =
    let h = f.connections.each place c there in
    let earned = f.safe.earned place c there in
    let where_it_is : at ≡ c.backend =
    f.processes.keys at c.backend (process_of x) h.process
    (read_map process_of w.backends at x here) h.there (server ∙ sym h.server) (key ∙ sym h.key) in
    let last : last_holder x ≡ Some label = (f.loads.own at x here).running label runs in
    let holder : last_holder x ≡ c.holder = same_Some (last_holder x) c.holder
    (sym (read_map last_holder w.backends at x here) ∙ ap (slice_get (lasts_of w)) where_it_is
    ∙ h.waits waits) in
    let same : earned.label ≡ label = same_Some earned.label label
    (sym earned.holder ∙ sym holder ∙ last) in
    record {
      came = earned.came;
      there = earned.there;
      owner = subst (IsOwner w.issues (any_identity_of earned.came.key)) same earned.owner;
    }

-- the world after a strike
strike_kept : (old struck : World) (at : ℕ) (x : Backend) (arrival : ℕ) (runs : Option ℕ)
    (said : Reply) → slice_get old.backends at ≡ Some x → x.running ≡ runs
    → ((label : ℕ) → x.running ≡ Some label → IsForOwner old.issues old.arrivals arrival label)
    → Strikes at x arrival runs said old struck → Facts old
    → Facts struck × (struck.connections ≡ old.connections)
strike_kept old struck at x arrival None said here is owner does f =
    (subst Facts (sym does.1) f, ap (λ (w : World). w.connections) does.1)
strike_kept old struck at x arrival (Some label) said here is owner does f =
    let g = rests_kept old at label x here is f in (
      subst Facts (sym does.1) (record {
        servers = g.servers;
        nodes = g.nodes;
        issues = g.issues;
        clients = g.clients;
        slots = g.slots;
        processes = g.processes;
        numbers = g.numbers;
        links = g.links;
        connections = g.connections;
        loads = g.loads;
        forwards = g.forwards;
        safe = record {
          struck = λ i s there. ⊎_elim (λ was. f.safe.struck i s was)
              (λ new. subst (λ (z : Interrupt). IsForOwner old.issues old.arrivals z.arrival z.label)
              (sym new.1) (owner label is))
              (added_cases old.interrupts (record { backend = at; label = label; arrival = arrival }) i s there);
          taken = g.safe.taken;
          earned = g.safe.earned;
        };
      }),
      ap (λ (w : World). w.connections) does.1,
    )

-- a server acts on a cancel connection
pub act_kept : (old new : World) (place : ℕ) (said : Reply) → StandsAt old place false false
    → Acts place said old new → Facts old → Facts new
act_kept old new place said may does f =
    let c = does.connection in
    let same : may.connection ≡ c = same_Some may.connection c (sym may.there ∙ does.there) in
    let waits : c.acted ≡ false = ap (λ (x : Connection). x.acted) (sym same) ∙ may.acting in
    let h = f.connections.each place c does.there in
    let x = does.backend in
    let strike = strike_kept old does.struck does.at x c.arrival x.running said does.is.there refl
    (λ label runs. struck_owner old f place does.at label c x does.there waits does.is.there
    does.is.of does.is.by runs) does.strikes f in
    subst Facts (sym does.after) (unreported_kept does.struck place c _
    (ap (λ (cs : List Connection). slice_get cs place) strike.1 ∙ does.there)
    (acts c h.acted h.clean) refl strike.0)
