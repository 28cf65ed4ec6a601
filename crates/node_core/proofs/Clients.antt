-- What is known of a node's clients through logins, leaves and new starts.
use Rattle.std.proofs.Common.{◌≡◌, ◌≢◌, ℕ, zero, suc, ◌+◌, ◌<◌, ◌≤◌, ◌^◌, ◌⊎◌, inl, inr, ⊎_elim, false, List, [], ◌∷◌, Option, Some, None, length, map, refl, ap, sym, ◌∙◌, arith}
use Rattle.std.proofs.Math.ListN.{set, replicate}
use Rattle.std.specs.List.{slice_get}
use Rattle.std.specs.Option.{is_some, option_map}
use Rattle.std.proofs.lemmas.Option.{slice_get-map, slice_get_within, same_Some}
use Rattle.std.proofs.lemmas.List.{map-set, length-map}
use Rattle.pg_ids.specs.AnyKey.{slot_of}
use Rattle.pg_ids.specs.declared.any_key.AnyKey.{AnyKey}
use Rattle.pg_ids.specs.declared.long_part.LongPart.{LongPart}
use Rattle.key_table.specs.declared.entry.Entry.{Entry}
use Rattle.key_table.specs.Slots.{Slots, IsNext, IsFree, Issues, Frees}
use Rattle.link_pool.specs.declared.place.Claim.{Claim}
use Rattle.link_pool.specs.Pool.{DatabasePool, PoolView, departed}
use Rattle.link_pool.specs.OnePlace.{sizes}
use Rattle.link_pool.specs.PoolStep.{is_holding}
use Rattle.node_core.specs.declared.client.Client.{Client}
use Rattle.node_core.specs.View.{NodeView, IsNode, IsClient, Has}
use Rattle.node_core.proofs.Slots.{set_at}
use Rattle.node_core.proofs.Links.{with_links, departed_kept, nothing_departed}

-- by slot its client
abbrev pub Clients : Type 0
Clients = List (Option Client)

-- the slot is live, and this is its client
abbrev pub IsAt : Clients → ℕ → Client → Type 0
IsAt clients slot client = slice_get clients slot ≡ Some (Some client)

-- as many slots have something or nothing as there are
pub has_lengths : (clients : Clients) (claims : List Claim)
    → ((s : ℕ) → Has (slice_get clients s) (slice_get claims s)) → length clients ≡ length claims
has_lengths [] [] has = refl
has_lengths [] (had ∷ claims) has = absurd (has 0)
has_lengths (client ∷ clients) [] has = absurd (has 0)
has_lengths (client ∷ clients) (had ∷ claims) has =
    ap suc (has_lengths clients claims (λ s. has (suc s)))

-- the client of a slot may ask for a link of its database
pub record MayAsk (v : NodeView) (slot : ℕ) (client : Client) : Type 0 where
  pub within : slot < length v.links.claims
  pub database : client.database < length v.links.pools

pub may_ask : (v : NodeView) (slot : ℕ) (client : Client) → IsNode v → IsClient v slot client
    → MayAsk v slot client
may_ask v slot client node there =
    let below = slice_get_within v.clients slot (Some client) there in
    let slots = has_lengths v.clients v.links.claims node.has in
    let few = (node.clients slot client there).0 in
    let pools : length v.pools ≡ length v.links.pools = ap length (sym node.sized)
    ∙ length-map v.links.pools (λ (pool : DatabasePool). length pool.places) in
    record {
      within = omega (arith, below, slots);
      database = omega (arith, few, pools);
    }

-- a slot has an entry in the table exactly where it has a client
abbrev AreLive : List (Option Entry) → Clients → Type 0
AreLive entries clients = map is_some entries ≡ map is_some clients

at_slot : (entries : List (Option Entry)) (clients : Clients) (slot : ℕ) → AreLive entries clients
    → option_map is_some (slice_get entries slot) ≡ option_map is_some (slice_get clients slot)
at_slot entries clients slot live =
    sym (slice_get-map is_some entries slot) ∙ ap (λ l. slice_get l slot) live
    ∙ slice_get-map is_some clients slot

-- a free slot has no client
pub free_client : (entries : List (Option Entry)) (clients : Clients) (slot : ℕ)
    → AreLive entries clients → IsFree entries slot → slice_get clients slot ≡ Some None
free_client entries clients slot live free = grind (arith, at_slot entries clients slot live)

-- a slot with a client has an entry
pub entry_of : (entries : List (Option Entry)) (clients : Clients) (slot : ℕ) (client : Client)
    → AreLive entries clients → IsAt clients slot client
    → (entry : Entry) × (slice_get entries slot ≡ Some (Some entry))
entry_of entries clients slot client live there =
    grind (arith, at_slot entries clients slot live)

-- whoever is there once a client joined was there, or is that client
joined : (clients : Clients) (slot : ℕ) (new : Client) (s : ℕ) (client : Client)
    → IsAt (set clients slot (Some new)) s client
    → IsAt clients s client ⊎ ((s ≡ slot) × (client ≡ new))
joined clients slot new =
    set_at (λ s o. (c : Client) → o ≡ Some (Some c) → IsAt clients s c ⊎ ((s ≡ slot) × (c ≡ new)))
    clients slot (Some new) (λ was e c same. inr (refl, cc)) (λ s c there. inl there)

-- whoever is there once a client left was there
left : (clients : Clients) (slot s : ℕ) (client : Client)
    → IsAt (set clients slot None) s client → IsAt clients s client
left clients slot = set_at (λ s o. (c : Client) → o ≡ Some (Some c) → IsAt clients s c)
    clients slot None (λ was e c same. absurd (cc)) (λ s c there. there)

-- a new client has nothing yet
new_has : (client : Client) (o : Option Claim) → Has (Some None) o → Has (Some (Some client)) o
new_has client None h = absurd h
new_has client (Some had) h = rw h tt

-- whoever is there once a client with the next pass joined has a pass of its own
apart : (v : NodeView) (slot : ℕ) (new : Client) → IsNode v → new.pass ≡ v.next_pass
    → (s other : ℕ) (a b : Client) → IsClient v s a ⊎ ((s ≡ slot) × (a ≡ new))
    → IsClient v other b ⊎ ((other ≡ slot) × (b ≡ new)) → a.pass ≡ b.pass → s ≡ other
apart v slot new node next s other a b (inl x) (inl y) same = node.passes s other a b x y same
apart v slot new node next s other a b (inl x) (inr y) same =
    let few = (node.clients s a x).1 in let is : b.pass ≡ new.pass = cc y.1 in
    absurd (omega (arith, few, is, next, same))
apart v slot new node next s other a b (inr x) (inl y) same =
    let few = (node.clients other b y).1 in let is : a.pass ≡ new.pass = cc x.1 in
    absurd (omega (arith, few, is, next, same))
apart v slot new node next s other a b (inr x) (inr y) same = x.0 ∙ sym y.0

-- a client of this database has the slot that was next, and the next pass
pub joined_view : (v : NodeView) (slot secret : ℕ) (part : Option LongPart) (key : AnyKey)
    (client : Client) (keys : Slots) (next serial : ℕ) → IsNode v → IsFree v.keys.entries slot
    → v.keys.next ≡ Some slot → Issues v.keys secret part key keys → IsNext keys.entries keys.next
    → client.database < length v.pools → client.pass ≡ v.next_pass → next ≡ v.next_pass + 1
    → (next ≤ 2 ^ 64) × (serial ≤ 2 ^ 64)
    → IsNode (record v {
      keys = keys;
      clients = set v.clients slot (Some client);
      next_pass = next;
      next_serial = serial;
    })
joined_view v slot secret part key client keys next serial node free was issued after known number one few =
    let nobody = free_client v.keys.entries v.clients slot node.live free in
    let same : slot ≡ (slot_of key) =
    same_Some slot (slot_of key) (sym was ∙ issued.slot) in
    let is_one = joined v.clients slot client in
    record {
      own = (issued.peer ∙ node.own.0, node.own.1);
      next = after;
      live = simp (issued.entries, ← same, map-set, node.live);
      has = set_at (λ s o. Has o (slice_get v.links.claims s)) v.clients slot (Some client)
          (λ was e. new_has client _ (rw nobody at (node.has slot))) node.has;
      clients = λ s c there. ⊎_elim
          (λ old. let fits = node.clients s c old in (fits.0, omega (arith, fits.1, one)))
          (λ new. rw new.1 (known, omega (arith, number, one))) (is_one s c there);
      passes = λ s other a b at_s at_other.
          apart v slot client node number s other a b (is_one s a at_s) (is_one other b at_other);
      sized = node.sized;
      numbers = few;
    }

-- the client of the slot, which holds nothing, is out of the queue, and the slot is free
pub left_view : (v : NodeView) (slot : ℕ) (client : Client) (keys : Slots) (links : PoolView)
    → IsNode v → IsClient v slot client → is_holding (slice_get v.links.claims slot) ≡ false
    → links ≡ departed v.links slot → Frees v.keys slot keys → IsNext keys.entries keys.next
    → IsNode (record v { keys = keys; clients = set v.clients slot None; links = links })
left_view v slot client keys links node there free out freed next =
    let was = left v.clients slot in
    let kept : IsNode (with_links v links) = rw out (departed_kept node slot) in
    let nothing : slice_get links.claims slot ≡ Some Claim.Nothing =
    rw out (nothing_departed v.links slot (may_ask v slot client node there).within free) in
    record {
      own = (freed.peer ∙ node.own.0, kept.own.1);
      next = next;
      live = simp (freed.entries, map-set, node.live);
      has = set_at (λ s o. Has o (slice_get links.claims s)) v.clients slot None
          (λ was e. rw nothing refl) kept.has;
      clients = λ s c here. node.clients s c (was s c here);
      passes = λ s other a b here there.
          node.passes s other a b (was s a here) (was other b there);
      sized = kept.sized;
      numbers = node.numbers;
    }

none_live : (n : ℕ) → AreLive (replicate n None) (replicate n None)
none_live zero = refl
none_live (suc n) = cc (none_live n)

has_none : (n s : ℕ)
    → Has (slice_get (replicate n None) s) (slice_get (replicate n Claim.Nothing) s)
has_none zero s = tt
has_none (suc n) zero = refl
has_none (suc n) (suc s) = has_none n s

nobody_there : (n s : ℕ) (client : Client) → slice_get (replicate n None) s ≢ Some (Some client)
nobody_there zero s client h = absurd (cc)
nobody_there (suc n) zero client h = absurd (cc)
nobody_there (suc n) (suc s) client h = nobody_there n s client h

-- nobody is logged in, and no link is open
pub none_view : (v : NodeView) (slots : ℕ) → v.keys.peer ≡ v.me → v.links.peer ≡ v.me
    → IsNext v.keys.entries v.keys.next → v.keys.entries ≡ replicate slots None
    → v.clients ≡ replicate slots None → v.links.claims ≡ replicate slots Claim.Nothing
    → sizes v.links.pools ≡ v.pools → (v.next_pass ≤ 2 ^ 64) × (v.next_serial ≤ 2 ^ 64) → IsNode v
none_view v slots keys links next entries clients claims sized numbers =
    let nobody : (s : ℕ) (c : Client) → slice_get v.clients s ≢ Some (Some c) =
    λ s c. rw clients (nobody_there slots s c) in
    record {
      own = (keys, links);
      next = next;
      live = rw (entries, clients) (none_live slots);
      has = λ s. rw (clients, claims) (has_none slots s);
      clients = λ s c there. absurd (nobody s c there);
      passes = λ s other a b there also alike. absurd (nobody s a there);
      sized = sized;
      numbers = numbers;
    }
