-- A client joins a node to which clients come, and one leaves.
use Rattle.std.proofs.Common.{◌≡◌, ◌≢◌, ℕ, ◌+◌, ◌<◌, ◌≤◌, Bool, true, false, ◌⊎◌, inl, inr, ⊎_elim, List, [], ◌∷◌, ◌++◌, Option, Some, None, Ok, Err, length, length-set, length-append, refl, ap, sym, subst, ◌∙◌, arith}
use Rattle.std.proofs.Math.ListN.{set}
use Rattle.std.specs.List.{slice_get}
use Rattle.std.specs.Prelude.{Result}
use Rattle.std.proofs.lemmas.Option.{slice_get_within, same_Some}
use Rattle.pg_ids.specs.AnyKey.{peer_of, slot_of}
use Rattle.pg_ids.specs.declared.any_key.Kind.{Kind}
use Rattle.key_table.specs.Slots.{IsNext, IsFree}
use Rattle.lease.specs.declared.pass.PassRecord.{PassRecord}
use Rattle.lease.specs.declared.link_record.LinkRecord.{LinkRecord}
use Rattle.link_pool.specs.declared.place.{Place.Place, Claim.Claim}
use Rattle.link_pool.specs.Pool.{PoolView, place_at, departed_by, departed}
use Rattle.link_pool.specs.PoolStep.{is_holding}
use Rattle.link_pool.proofs.Places.{slice_get-set_same, slice_get-set_other}
use Rattle.node_core.specs.declared.client.Client.{Client}
use Rattle.node_core.specs.declared.refusal.JoinRefusal.{JoinRefusal}
use Rattle.node_core.specs.declared.exchange.LeaveReply.{LeaveReply}
use Rattle.node_core.specs.View.{NodeView, IsNode, IsClient, Has}
use Rattle.node_core.specs.NodeStep.{IsPass, JoinStep, Joins, LeaveStep, Leaves}
use Rattle.node_core.proofs.Clients.{free_client, joined_view, left_view}
use Rattle.answer.specs.Attended.{IsIn, IsOut, Attended, Coming, Came, Joined, Rests, is_still, live_slots}
use Rattle.world.proofs.Lists.{added_cases, added_last, kept_behind, before_end}
use Rattle.answer.proofs.Places.{live_more, some_free, free_places, at_place_of}

-- ---- joining

-- there is a slot and a number for one more client
pub join_expected : (size : ℕ) (passes : List PassRecord) (leases : List LinkRecord)
    (v w : NodeView) (database secret : ℕ) (refusal : JoinRefusal) → Came size passes leases v
    → length passes < size → JoinStep database secret Kind.Short (Err refusal) v w → ⊥
join_expected size passes leases v w database secret JoinRefusal.Full came room step =
    let live = came.coming.live in
    let slots = came.coming.entries in
    let free = some_free v.keys.entries (omega (arith, live, slots, room)) in
    step.0 free.0 free.1
join_expected size passes leases v w database secret JoinRefusal.Exhausted came room step =
    let number = came.coming.next_pass in
    let limit = came.limit in
    ⊎_elim (λ last. omega (arith, last, number, room, limit)) (λ long. absurd (cc long.0)) step.1

-- a free slot's client has nothing
nothing_there : (clients : Option (Option Client)) (o : Option Claim) → clients ≡ Some None
    → Has clients o → o ≡ Some Claim.Nothing
nothing_there (Some None) (Some had) e has = ap Some has
nothing_there (Some None) None e has = absurd has
nothing_there None o e has = absurd (cc)
nothing_there (Some (Some client)) o e has = absurd (cc)

module _ (v w : NodeView) (secret : ℕ) (pass : PassRecord) (step : Joins 0 secret Kind.Short pass v w) where
  abbrev slot : ℕ
  slot = slot_of pass.key

  was_free : IsNode v → IsFree v.keys.entries slot
  was_free node = subst (IsNext v.keys.entries) step.slot.slot node.next

  nobody : IsNode v → slice_get v.clients slot ≡ Some None
  nobody node = free_client v.keys.entries v.clients slot node.live (was_free node)

  abbrev client : Client
  client = record { database = 0; pass = pass.number }

  clients_after : w.clients ≡ set v.clients slot (Some client)
  clients_after = ap (λ (x : NodeView). x.clients) step.after

  -- whoever was there is there still, in another slot
  present_still : IsNode v → (other : PassRecord) → IsIn v other
      → IsIn w other × (slot_of other.key ≢ slot)
  present_still node other is =
      let apart : slot_of other.key ≢ slot = λ same.
      let here : slice_get v.clients slot ≡ Some (Some is.client) =
      ap (slice_get v.clients) (sym same) ∙ is.is.there in
      let both : Some None ≡ Some (Some is.client) = sym (nobody node) ∙ here in absurd (cc) in (
        record {
          client = is.client;
          is = record {
            own = (
              is.is.own.0 ∙ sym (ap (λ (x : NodeView). x.me) step.after),
              is.is.own.1 ∙ sym (ap (λ (x : NodeView). x.links.incarnation) step.after),
            );
            there = ap (λ cs. slice_get cs (slot_of other.key)) clients_after
                ∙ slice_get-set_other v.clients slot (slot_of other.key) (Some client) apart
                ∙ is.is.there;
            number = is.is.number;
          };
          of = is.of;
        },
        apart,
      )

  is_there : IsNode v → IsIn w pass
  is_there node = record {
    client = client;
    is = record {
      own = (
        ap peer_of step.slot.key ∙ node.own.0 ∙ sym (ap (λ (x : NodeView). x.me) step.after),
        step.incarnation ∙ sym (ap (λ (x : NodeView). x.links.incarnation) step.after),
      );
      there = ap (λ cs. slice_get cs slot) clients_after
          ∙ slice_get-set_same v.clients slot (Some client)
          (slice_get_within v.clients slot None (nobody node));
      number = refl;
    };
    of = refl;
  }

-- one client more came, and has nothing yet
pub join_leads : (size : ℕ) (passes : List PassRecord) (leases : List LinkRecord) (v w : NodeView)
    (secret : ℕ) (pass : PassRecord) → Came size passes leases v → length passes < size
    → JoinStep 0 secret Kind.Short (Ok pass) v w → Joined size passes pass leases w
join_leads size passes leases v w secret pass came room step =
    let coming = came.coming in
    let old = coming.attended in
    let limit = came.limit in
    let number = coming.next_pass in
    let serial = old.node.numbers.1 in
    let one = old.one in
    let s = slot_of pass.key in
    let free = was_free v w secret pass step old.node in
    let entries : w.keys.entries ≡ set v.keys.entries s _ = step.slot.entries in
    let links : w.links ≡ v.links = ap (λ (x : NodeView). x.links) step.after in
    let long = length-append passes (pass ∷ []) in
    let apart : (i j : ℕ) (a b : PassRecord)
    → (slice_get passes i ≡ Some a) ⊎ ((i ≡ length passes) × (a ≡ pass))
    → (slice_get passes j ≡ Some b) ⊎ ((j ≡ length passes) × (b ≡ pass))
    → slot_of a.key ≡ slot_of b.key → i ≡ j =
    λ i j a b one two same. ⊎_elim
    (λ x. ⊎_elim
    (λ y. old.slots i j a b x y same)
    (λ y. absurd ((present_still v w secret pass step old.node a (old.present i a x)).1
    (same ∙ ap (λ (p : PassRecord). slot_of p.key) y.1)))
    two)
    (λ x. ⊎_elim
    (λ y. absurd ((present_still v w secret pass step old.node b (old.present j b y)).1
    (sym same ∙ ap (λ (p : PassRecord). slot_of p.key) x.1)))
    (λ y. x.0 ∙ sym y.0)
    two)
    one in
    record {
      coming = record {
        attended = record {
          node = subst IsNode (sym step.after)
              (joined_view v s secret None pass.key (client v w secret pass step) w.keys
              (v.next_pass + 1) v.next_serial old.node free step.slot.slot step.slot step.next
              (omega (arith, one)) step.number.0 refl
              (omega (arith, number, room, limit), serial));
          pool = rw links old.pool;
          one = ap (λ (x : NodeView). length x.pools) step.after ∙ old.one;
          present = λ i p h. ⊎_elim
              (λ was. (present_still v w secret pass step old.node p (old.present i p was)).0)
              (λ new. subst (IsIn w) (sym new.1) (is_there v w secret pass step old.node))
              (added_cases passes pass i p h);
          slots = λ i j a b x y same. apart i j a b (added_cases passes pass i a x)
              (added_cases passes pass j b y) same;
          out = λ i lease h. rw links (old.out i lease h);
          places = old.places;
          calm = λ at. rw links (old.calm at);
          still = λ t. rw links (old.still t);
          nobody = rw links old.nobody;
          used = rw links old.used;
        };
        pools = ap (λ (x : NodeView). x.pools) step.after ∙ coming.pools;
        entries = ap length entries ∙ length-set v.keys.entries s _ ∙ coming.entries;
        live = ap live_slots entries ∙ live_more v.keys.entries s _ free
            ∙ ap (λ n. n + 1) coming.live ∙ sym long;
        next_pass = ap (λ (x : NodeView). x.next_pass) step.after
            ∙ ap (λ n. n + 1) coming.next_pass ∙ sym long;
        next_permit = rw links coming.next_permit;
        next_link = rw links coming.next_link;
      };
      nothing = rw links (nothing_there (slice_get v.clients s) (slice_get v.links.claims s)
          (nobody v w secret pass step old.node) (old.node.has s));
      few = came.few;
      room = room;
      limit = came.limit;
    }

-- ---- leaving

-- a pass is that of one client
same_client : (v : NodeView) (pass : PassRecord) (client : Client) (is : IsIn v pass)
    → IsPass v pass client → client ≡ is.client
same_client v pass client is other =
    let both : Some (Some client) ≡ Some (Some is.client) = sym other.there ∙ is.is.there in cc

-- where no link is lent no client has one
nothing_held : (passes : List PassRecord) (v : NodeView) (slot : ℕ) → Rests passes [] v
    → is_holding (slice_get v.links.claims slot) ≡ true → ⊥
nothing_held passes v slot rests h =
    at_place_of v.links slot (slice_get v.links.claims slot) rests.pool refl h
    (λ at. no_place (place_at v.links at) (λ p there.
    free_places v at p rests.node rests.one rests.used there))
  where
    no_place : (o : Option Place) → ((p : Place) → o ≡ Some p → p ≡ Place.Free)
        → (o ≡ None) ⊎ (o ≡ Some Place.Free)
    no_place None free = inl refl
    no_place (Some p) free = inr (ap Some (free p refl))

-- a client that has nothing leaves
pub leave_expected : (passes : List PassRecord) (pass : PassRecord) (v w : NodeView)
    (reply : LeaveReply PassRecord) → Rests (passes ++ pass ∷ []) [] v
    → LeaveStep pass reply v w → reply ≡ LeaveReply.Left
leave_expected passes pass v w LeaveReply.Left rests step = refl
leave_expected passes pass v w (LeaveReply.Holding again) rests step =
    absurd (nothing_held (passes ++ pass ∷ []) v (slot_of pass.key) rests step.0.2)
leave_expected passes pass v w LeaveReply.Stale rests step =
    let is = rests.present (length passes) pass (added_last passes pass) in
    absurd (step.0 is.client is.is)
leave_expected passes pass v w LeaveReply.Exhausted rests step = absurd step

-- nothing changes for a client that has nothing
nothing_left : (o : Option Claim) (v : PoolView) (slot : ℕ) → is_still o ≡ true
    → is_holding o ≡ false → departed_by o v slot ≡ v
nothing_left None v slot still free = refl
nothing_left (Some Claim.Nothing) v slot still free = refl
nothing_left (Some Claim.Cancelled) v slot still free = absurd (cc)
nothing_left (Some (Claim.Waiting d)) v slot still free = absurd (cc)
nothing_left (Some (Claim.Open at)) v slot still free = absurd (cc)
nothing_left (Some (Claim.Link at)) v slot still free = absurd (cc)
nothing_left (Some (Claim.Gave at)) v slot still free = absurd (cc)

pub leave_leads : (passes : List PassRecord) (pass : PassRecord) (v w : NodeView)
    → Rests (passes ++ pass ∷ []) [] v → LeaveStep pass LeaveReply.Left v w → Rests passes [] w
leave_leads passes pass v w old step =
    let s = slot_of pass.key in
    let leaving = step.0 in
    let left = step.1 in
    let links : w.links ≡ v.links = ap (λ (x : NodeView). x.links) left.after
    ∙ nothing_left (slice_get v.links.claims s) v.links s (old.still s) leaving.2 in
    let clients : w.clients ≡ set v.clients s None = ap (λ (x : NodeView). x.clients) left.after in
    let last = added_last passes pass in
    let whole : IsNode w = subst IsNode (sym left.after)
    (left_view v s leaving.0 w.keys (departed v.links s) old.node leaving.1.there leaving.2 refl
    left.slot left.next) in
    let still_in : (i : ℕ) (p : PassRecord) → slice_get passes i ≡ Some p → IsIn w p = λ i p h.
    let is = old.present i p (kept_behind passes (pass ∷ []) i p h) in
    let below = before_end passes i p h in
    let apart : slot_of p.key ≢ s = λ same.
    let one = old.slots i (length passes) p pass (kept_behind passes (pass ∷ []) i p h) last same in
    absurd (omega (arith, one, below)) in
    record {
      client = is.client;
      is = record {
        own = (
          is.is.own.0 ∙ sym (ap (λ (x : NodeView). x.me) left.after),
          is.is.own.1 ∙ sym (ap (λ (x : PoolView). x.incarnation) links),
        );
        there = ap (λ cs. slice_get cs (slot_of p.key)) clients
            ∙ slice_get-set_other v.clients s (slot_of p.key) None apart ∙ is.is.there;
        number = is.is.number;
      };
      of = is.of;
    } in
    record {
      node = whole;
      pool = rw links old.pool;
      one = ap (λ (x : NodeView). length x.pools) left.after ∙ old.one;
      present = still_in;
      slots = λ i j a b x y same. old.slots i j a b (kept_behind passes (pass ∷ []) i a x)
          (kept_behind passes (pass ∷ []) j b y) same;
      out = λ i lease h. absurd (cc);
      places = old.places;
      calm = λ at. rw links (old.calm at);
      still = λ t. rw links (old.still t);
      nobody = rw links old.nobody;
      used = rw links old.used;
    }
