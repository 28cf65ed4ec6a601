-- What a server does with a cancel connection, as an event.
use Rattle.std.proofs.Common.{◌≡◌, ℕ, false, List, Some, None, refl, ap, sym, subst, ◌∙◌}
use Rattle.std.specs.Prelude.{slice_get, slice_set, true}
use Rattle.world.specs.declared.event.Event.{Event}
use Rattle.world.specs.declared.reply.{Reply.Reply, Took.Took}
use Rattle.world.specs.World.{World, Backend, Connection, Interrupt, IsBackend}
use Rattle.world.specs.Changes.{and_then}
use Rattle.world.specs.LinkEvents.{rests}
use Rattle.world.specs.CancelEvents.{Strikes}
use Rattle.world.specs.WorldRun.{WorldStep}

-- the connection once the server has acted on it
abbrev pub acted : Connection → Connection
acted c = record c { acted = true }

-- nothing is interrupted
pub strikes_nothing : (w : World) (k : ℕ) (c : Connection) (b : Backend) (cs : List Connection)
    → slice_get w.connections k ≡ Some c → c.acted ≡ false → c.ended ≡ false
    → IsBackend w.backends c.server c.key c.backend b → b.running ≡ None
    → cs ≡ slice_set w.connections k (acted c)
    → WorldStep (Event.Act k) (Took.Done Reply.Nothing) w (record w { connections = cs })
strikes_nothing w k c b cs there new going is none after = (
  record { connection = c; there = there; acting = new; ending = going },
  record {
    connection = c;
    there = there;
    at = c.backend;
    backend = b;
    is = is;
    struck = w;
    strikes = subst (λ r. Strikes c.backend b c.arrival r Reply.Nothing w w) (sym none) (refl, refl);
    after = ap (λ (xs : List Connection). let z : World = record w { connections = xs } in z) after;
  },
)

-- a client's request is interrupted
pub strikes_client : (w : World) (k label : ℕ) (c : Connection) (b : Backend) (cs : List Connection) (bs : List Backend) (is : List Interrupt)
    → slice_get w.connections k ≡ Some c → c.acted ≡ false → c.ended ≡ false
    → IsBackend w.backends c.server c.key c.backend b → b.running ≡ Some label
    → bs ≡ slice_set w.backends c.backend (rests b)
    → is ≡ and_then w.interrupts (record { backend = c.backend; label = label; arrival = c.arrival })
    → cs ≡ slice_set w.connections k (acted c)
    → WorldStep (Event.Act k) (Took.Done (Reply.Struck c.backend label)) w
    (record w { backends = bs; interrupts = is; connections = cs })
strikes_client w k label c b cs bs is there new going at runs rested logged after = (
  record { connection = c; there = there; acting = new; ending = going },
  record {
    connection = c;
    there = there;
    at = c.backend;
    backend = b;
    is = at;
    struck = record w { backends = bs; interrupts = is };
    strikes = subst (λ r. Strikes c.backend b c.arrival r (Reply.Struck c.backend label) w
        (record w { backends = bs; interrupts = is })) (sym runs) (
          refl,
          ap (λ (ys : List Backend). let z : World = record w { backends = ys; interrupts = is } in z) rested
              ∙ ap (λ (ys : List Interrupt). let z : World = record w {
                backends = slice_set w.backends c.backend (rests b);
                interrupts = ys;
              } in z) logged,
        );
    after = ap (λ (xs : List Connection). let z : World = record w { backends = bs; interrupts = is; connections = xs } in z) after;
  },
)
