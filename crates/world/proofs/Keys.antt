-- Keys, their identities, and the client that a key names.
use Rattle.std.proofs.Common.{◌≡◌, ◌≢◌, ℕ, ◌≤◌, Bool, true, false, Option, Some, None, refl, ap, sym, ◌∙◌, arith, ◌==◌, ◌&&◌, is_none, if◌then◌else◌}
use Rattle.std.specs.List.{slice_get, list_any}
use Rattle.std.proofs.lemmas.Option.{same_Some, none-some}
use Rattle.std.proofs.lemmas.Bool.Decides.{eqb_tells}
use Rattle.pg_ids.specs.Key.{IsKey, identity_of}
use Rattle.pg_ids.specs.AnyKey.{IsAnyKey, any_identity_of, any_lowered, peer_of, slot_of, short_of, long_part_of}
use Rattle.pg_ids.specs.declared.{any_key.AnyKey.AnyKey, any_key.Identity.Identity, client_key.ClientKey.ClientKey, long_part.LongPart.LongPart}
use Rattle.key_table.specs.declared.entry.Entry.{Entry}
use Rattle.key_table.specs.Slots.{Slots, names, is_opened, opens, has_part, entry_of}
use Rattle.cancel_router.specs.declared.{decision.Route.Route, refusal.RouteRefusal.RouteRefusal}
use Rattle.cancel_router.specs.Route.{served}
use Rattle.node_core.specs.View.{NodeView}
use Rattle.node_core.specs.NodeStep.{route_of, standing_in}

-- two keys with the same parts have one identity, whatever their hops
identities : (a b : ClientKey) → IsKey a → IsKey b → a.peer ≡ b.peer → a.slot ≡ b.slot
    → a.secret ≡ b.secret → identity_of a ≡ identity_of b
identities a b ka kb peer slot secret =
    let below = ka.hops in let under = kb.hops in
    rw (peer, slot, secret) (omega (arith, below, under))

-- keys with one identity name one node
pub same_peer : (a b : ClientKey) → IsKey a → IsKey b → identity_of a ≡ identity_of b → a.peer ≡ b.peer
same_peer a b ka kb same =
    let sa = ka.slot in let sb = kb.slot in
    let xa = ka.secret in let xb = kb.secret in
    let ha = ka.hops in let hb = kb.hops in
    omega (arith, same, sa, sb, xa, xb, ha, hb)

-- of either kind
pub same_identity : (a b : AnyKey) → IsKey (short_of a) → IsKey (short_of b) → peer_of a ≡ peer_of b
    → slot_of a ≡ slot_of b → (short_of a).secret ≡ (short_of b).secret
    → long_part_of a ≡ long_part_of b → any_identity_of a ≡ any_identity_of b
same_identity (AnyKey.Short a) (AnyKey.Short b) ka kb peer slot secret part =
    ap Identity.Short (identities a b ka kb peer slot secret)
same_identity (AnyKey.Short a) (AnyKey.Long b q) ka kb peer slot secret part =
    absurd (none-some q part)
same_identity (AnyKey.Long a p) (AnyKey.Short b) ka kb peer slot secret part =
    absurd (none-some p (sym part))
same_identity (AnyKey.Long a p) (AnyKey.Long b q) ka kb peer slot secret part =
    ap (λ (n : ℕ). Identity.Long n p) (identities a b ka kb peer slot secret)
    ∙ ap (λ (r : LongPart). Identity.Long (identity_of b) r) (same_Some p q part)

pub any_peer : (a b : AnyKey) → IsKey (short_of a) → IsKey (short_of b)
    → any_identity_of a ≡ any_identity_of b → peer_of a ≡ peer_of b
any_peer (AnyKey.Short a) (AnyKey.Short b) ka kb same =
    let one : identity_of a ≡ identity_of b = cc same in same_peer a b ka kb one
any_peer (AnyKey.Short a) (AnyKey.Long b q) ka kb same = absurd (cc)
any_peer (AnyKey.Long a p) (AnyKey.Short b) ka kb same = absurd (cc)
any_peer (AnyKey.Long a p) (AnyKey.Long b q) ka kb same =
    let one : identity_of a ≡ identity_of b = cc same in same_peer a b ka kb one

-- keys of one identity have the same part behind their first eight bytes
pub any_part : (a b : AnyKey) → any_identity_of a ≡ any_identity_of b → long_part_of a ≡ long_part_of b
any_part (AnyKey.Short a) (AnyKey.Short b) same = refl
any_part (AnyKey.Short a) (AnyKey.Long b q) same = absurd (cc)
any_part (AnyKey.Long a p) (AnyKey.Short b) same = absurd (cc)
any_part (AnyKey.Long a p) (AnyKey.Long b q) same = let one : p ≡ q = cc same in ap Some one

pub short_is_key : (key : AnyKey) → IsAnyKey key → IsKey (short_of key)
short_is_key (AnyKey.Short key) is = is
short_is_key (AnyKey.Long key part) is = is.0

pub eqb_yes : (m n : ℕ) → (m == n) ≡ true → m ≡ n
eqb_yes m n h = grind (arith, eqb_tells m n)

pub eqb_no : (m n : ℕ) → (m == n) ≡ false → m ≢ n
eqb_no m n h e = differ (sym h ∙ yes)
  where
    yes : (m == n) ≡ true
    yes = grind (arith, eqb_tells m n)

    differ : false ≡ true → ⊥
    differ h = cc

both : (a b : Bool) → a && b ≡ true → (a ≡ true) × (b ≡ true)
both true true h = (refl, refl)
both true false h = absurd (cc)
both false b h = absurd (cc)

-- a key that opens the entry of a client is that client's
pub opened : (secret : ℕ) (part : Option LongPart) (key : AnyKey) → opens (entry_of secret part) key ≡ true
    → (secret ≡ (short_of key).secret) × (part ≡ long_part_of key)
opened secret None key h =
    let x = both (secret == (short_of key).secret) (is_none (long_part_of key)) h in
    (eqb_yes secret (short_of key).secret x.0, no_part (long_part_of key) x.1)
  where
    no_part : (o : Option LongPart) → is_none o ≡ true → None ≡ o
    no_part None h = refl
    no_part (Some p) h = absurd (cc)
opened secret (Some part) key h =
    let x = both (secret == (short_of key).secret) (has_part part.boot part.serial (long_part_of key)) h in
    (eqb_yes secret (short_of key).secret x.0, its_part (long_part_of key) x.1)
  where
    its_part : (o : Option LongPart) → has_part part.boot part.serial o ≡ true → Some part ≡ o
    its_part None h = absurd (cc)
    its_part (Some p) h =
        let x = both (part.boot == p.boot) (part.serial == p.serial) h in
        let boot = eqb_yes part.boot p.boot x.0 in
        let serial = eqb_yes part.serial p.serial x.1 in
        ap (λ (n : ℕ). let r : LongPart = record { boot = n; serial = part.serial } in Some r) boot
        ∙ ap (λ (n : ℕ). let r : LongPart = record { boot = p.boot; serial = n } in Some r) serial

-- where the entry of a slot is known, whether a key opens it
pub named_entry : (t : Slots) (key : AnyKey) (entry : Entry) → names t key ≡ true
    → slice_get t.entries (slot_of key) ≡ Some (Some entry) → opens entry key ≡ true
named_entry t key entry h there =
    let x = both (peer_of key == t.peer) (is_opened (slice_get t.entries (slot_of key)) key) h in
    ap (λ (o : Option (Option Entry)). is_opened o key) (sym there) ∙ x.1

-- a route that takes a key for a client's
abbrev pub IsHome : Route → Type 0
IsHome (Route.Forward peer key) = ⊥
IsHome (Route.Send link) = Unit {0}
IsHome (Route.Unwait slot) = Unit {0}
IsHome (Route.Refused RouteRefusal.Spent) = ⊥
IsHome (Route.Refused RouteRefusal.Unknown) = ⊥
IsHome (Route.Refused RouteRefusal.NoPeer) = ⊥
IsHome (Route.Refused RouteRefusal.NoLink) = Unit {0}

-- a route by its tests
abbrev decided : Bool → Bool → Bool → Bool → Bool → Route → ℕ → AnyKey → Route
decided spent own named last listed home peer key =
    if spent then Route.Refused RouteRefusal.Spent
    else if own then (if named then home else Route.Refused RouteRefusal.Unknown)
    else (if last then Route.Refused RouteRefusal.Spent
    else if listed then Route.Forward peer key
    else Route.Refused RouteRefusal.NoPeer)

home_tests : (spent own named last listed : Bool) (home : Route) (peer : ℕ) (key : AnyKey)
    → IsHome (decided spent own named last listed home peer key)
    → (spent ≡ false) × (own ≡ true) × (named ≡ true)
    × (decided spent own named last listed home peer key ≡ home)
home_tests true own named last listed home peer key is = absurd is
home_tests false true true last listed home peer key is = (refl, refl, refl, refl)
home_tests false true false last listed home peer key is = absurd is
home_tests false false named true listed home peer key is = absurd is
home_tests false false named false true home peer key is = absurd is
home_tests false false named false false home peer key is = absurd is

-- what is known of a key that a node takes for a client's
pub record TakesHome (v : NodeView) (key : AnyKey) : Type 0 where
  pub hops : 1 ≤ (short_of key).hops
  pub own : peer_of key ≡ v.me
  pub named : names v.keys key ≡ true
  pub home : route_of v key ≡ served (slot_of key) (standing_in v (slot_of key))

pub takes_home : (v : NodeView) (key : AnyKey) → IsHome (route_of v key) → TakesHome v key
takes_home v key is =
    let x = home_tests ((short_of key).hops == 0) (peer_of key == v.me) (names v.keys key) ((short_of key).hops == 1)
    (list_any (λ peer. peer == peer_of key) v.peers) (served (slot_of key) (standing_in v (slot_of key)))
    (peer_of key) (any_lowered key) is in
    let apart = eqb_no (short_of key).hops 0 x.0 in
    record {
      hops = omega (arith, apart);
      own = eqb_yes (peer_of key) v.me x.1;
      named = x.2;
      home = x.3;
    }
