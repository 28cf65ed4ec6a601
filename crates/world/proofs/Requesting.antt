-- Requests and their answers, as events.
use Rattle.std.proofs.Common.{◌≡◌, ◌≢◌, ℕ, zero, suc, arith, ◌+◌, ◌-◌, ◌<◌, List, [], ◌∷◌, Some, None, refl, ap, sym, ◌∙◌}
use Rattle.std.specs.Prelude.{slice_get, slice_set, true}
use Rattle.std.proofs.lemmas.Option.{same_Some}
use Rattle.lease.specs.declared.link_record.LinkRecord.{LinkRecord}
use Rattle.world.specs.declared.event.Event.{Event}
use Rattle.world.specs.declared.reply.{Reply.Reply, Took.Took}
use Rattle.world.specs.World.{World, Backend, Hand, Session, IsSession}
use Rattle.world.specs.Admissible.{HasSomeLease}
use Rattle.world.specs.Changes.{and_then, holding, with_session}
use Rattle.world.specs.LinkEvents.{rests}
use Rattle.world.specs.WorldRun.{WorldStep}
use Rattle.world.specs.Facts.{process_of, last_holder, load_of, Facts}
use Rattle.world.proofs.Lists.{from_map, read_map}
use Rattle.world.proofs.GivingBack.{own_lease}

-- the server process of a lease: its link is with that client, and it has all that is outstanding
pub record IsHeldBy (w : World) (s : Session) (at n : ℕ) (b : Backend) : Type 0 where
  pub there : slice_get w.backends at ≡ Some b
  pub holder : b.holder ≡ Some s.label
  pub load : n ≡ load_of b

pub held_backend : (w : World) → Facts w → (p at n : ℕ) (s : Session) (lease : LinkRecord)
    → slice_get w.sessions p ≡ Some s → s.hand ≡ Hand.Lease lease at n
    → (b : Backend) × IsHeldBy w s at n b
held_backend w f p at n s lease there hand =
    let own = own_lease w f p at n s lease there hand in
    let b = from_map process_of w.backends at own.2.0 own.2.1 in (
      b.0,
      record {
        there = b.1;
        holder = same_Some b.0.holder (Some s.label)
            (sym (read_map last_holder w.backends at b.0 b.1) ∙ own.3);
        load = f.loads.outstanding p at n s lease b.0 there hand b.1;
      },
    )

-- a client that has a lease
pub some_lease : (w : World) (label p at n : ℕ) (s : Session) (lease : LinkRecord) → IsSession w.sessions label p s → s.stays ≡ true
    → s.hand ≡ Hand.Lease lease at n → HasSomeLease w label
some_lease w label p at n s lease is stays hand =
    (at, n, (lease, record { place = p; session = s; is = is; stays = stays; holds = hand }))

-- a client sends a request
pub sends : (w new : World) (label p at n : ℕ) (s : Session) (lease : LinkRecord) (b : Backend) (bs : List Backend)
    → IsSession w.sessions label p s → s.stays ≡ true → s.hand ≡ Hand.Lease lease at n
    → slice_get w.backends at ≡ Some b → bs ≡ slice_set w.backends at (record b { wire = and_then b.wire label })
    → new ≡ with_session p (holding (Hand.Lease lease at (n + 1)) s) (record w { backends = bs })
    → WorldStep (Event.Send label) (Took.Done Reply.Done) w new
sends w new label p at n s lease b bs is stays hand there sent after = (
  some_lease w label p at n s lease is stays hand,
  (
    record {
      place = p;
      at = at;
      outstanding = n;
      session = s;
      lease = lease;
      backend = b;
      is = record { is = is; hand = hand; there = there };
      after = after ∙ ap (λ (ys : List Backend). with_session p (holding (Hand.Lease lease at (n + 1)) s)
          (record w { backends = ys })) sent;
    },
    refl,
  ),
)

-- a ReadyForQuery comes to a client
pub gets_ready : (w new : World) (label p at n : ℕ) (s : Session) (lease : LinkRecord) (b : Backend) (bs : List Backend)
    → IsSession w.sessions label p s → s.stays ≡ true → s.hand ≡ Hand.Lease lease at n
    → slice_get w.backends at ≡ Some b → 0 < b.readies
    → bs ≡ slice_set w.backends at (record b { readies = b.readies - 1 })
    → new ≡ with_session p (holding (Hand.Lease lease at (n - 1)) s) (record w { backends = bs })
    → WorldStep (Event.Ready label) (Took.Done Reply.Done) w new
gets_ready w new label p at n s lease b bs is stays hand there some taken after = (
  record {
    place = at;
    outstanding = n;
    has = (lease, record { place = p; session = s; is = is; stays = stays; holds = hand });
    backend = b;
    there = there;
    readies = some;
  },
  (
    record {
      place = p;
      at = at;
      outstanding = n;
      session = s;
      lease = lease;
      backend = b;
      is = record { is = is; hand = hand; there = there };
      after = after ∙ ap (λ (ys : List Backend). with_session p (holding (Hand.Lease lease at (n - 1)) s)
          (record w { backends = ys })) taken;
    },
    refl,
  ),
)

-- a server process begins with the next request
pub begins : (w : World) (at label : ℕ) (rest : List ℕ) (b : Backend) (bs : List Backend)
    → slice_get w.backends at ≡ Some b → b.running ≡ None → b.wire ≡ label ∷ rest
    → bs ≡ slice_set w.backends at (record b { wire = rest; running = Some label })
    → WorldStep (Event.Take at) (Took.Done Reply.Done) w (record w { backends = bs })
begins w at label rest b bs there free first after = (
  record {
    backend = b;
    there = there;
    free = free;
    waits = λ none. no_first label rest (sym first ∙ none);
  },
  (
    record {
      backend = b;
      label = label;
      rest = rest;
      there = there;
      first = first;
      after = ap (λ (ys : List Backend). let z : World = record w { backends = ys } in z) after;
    },
    refl,
  ),
)
  where
    no_first : (x : ℕ) (xs : List ℕ) → x ∷ xs ≢ []
    no_first x xs h = cc

-- a server process has run its request
pub finishes : (w : World) (at label : ℕ) (b : Backend) (bs : List Backend)
    → slice_get w.backends at ≡ Some b → b.running ≡ Some label → bs ≡ slice_set w.backends at (rests b)
    → WorldStep (Event.Finish at) (Took.Done Reply.Done) w (record w { backends = bs })
finishes w at label b bs there runs after = (
  record { backend = b; there = there; label = label; runs = runs },
  (
    record {
      backend = b;
      there = there;
      after = ap (λ (ys : List Backend). let z : World = record w { backends = ys } in z) after;
    },
    refl,
  ),
)

-- what isn't nothing is something
pub positive : (n : ℕ) → n ≢ 0 → 0 < n
positive zero h = absurd (h refl)
positive (suc n) h = omega arith
