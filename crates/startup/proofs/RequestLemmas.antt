-- Requests are read again, and a CancelRequest is one for each key.
use Rattle.std.proofs.Common.{◌≡◌, ℕ, ◌+◌, Bool, true, false, ◌≢◌, ◌≤◌, codes, List, [], ◌++◌, length, take, refl, ap, ◌∙◌, inl, inr, arith, rules, length-append}
use Rattle.std.specs.Str.{IsUtf8}
use Rattle.std.proofs.lemmas.Str.{IsUtf8-from_ascii}
use Rattle.std.proofs.lemmas.List.{take_at}
use Rattle.pg_ids.specs.AnyKey.{any_key_bytes}
use Rattle.pg_ids.specs.declared.any_key.AnyKey.{AnyKey}
use Rattle.pg_ids.specs.declared.any_key.AnyKey.TheVariants.{Short, Long}
use Rattle.pg_ids.specs.declared.any_key.Kind.TheVariants as kind
use Rattle.startup.specs.Kinds.{Seen}
use Rattle.startup.specs.CancelPacket.{cancel_packet, packet_bytes}
use Rattle.startup.specs.Packet.{cancel_request, Begins}
use Rattle.startup.specs.StartupMessage.{IsText, IsParameter, AreParameters, HasNoZero, asked_for, body_of, startup_request, unless_empty}
use Rattle.startup.specs.FirstPacket.{IsOutcome, Starts, Startup, Cancel}

-- the request that a text of this outcome begins with
begins_request : (text key : List ℕ) → Begins text (cancel_request key) → take (8 + length key) text ≡ cancel_request key
begins_request text key begins =
    ap (take (8 + length key)) begins.spelled ∙ take_at (cancel_request key) begins.after (8 + length key) (omega arith)

pub one_request : (seen : Seen) (text key : List ℕ) (at_end : Bool) → IsOutcome seen text at_end (Cancel key) → take (8 + length key) text ≡ cancel_request key
one_request seen text key at_end (inl decides) = begins_request text key decides.1
one_request seen text key true (inr (none, is)) = cc
one_request seen text key false (inr (none, is)) = cc

abbrev Whole : AnyKey → List ℕ
Whole key = packet_bytes (cancel_packet key)

-- the request of a key is read as one of it, and it is the only one
pub cancel_read : (key : AnyKey) (seen : Seen) (after : List ℕ) (at_end : Bool) → IsOutcome seen (Whole key ++ after) at_end (Cancel (any_key_bytes key))
cancel_read (Short key) seen after at_end = inl (inl refl, record { after = after; spelled = refl })
cancel_read (Long key part) seen after at_end = inl (inr refl, record { after = after; spelled = refl })

pub only_cancel : (key : AnyKey) (seen : Seen) (text : List ℕ) (at_end : Bool) → IsOutcome seen text at_end (Cancel (any_key_bytes key)) → take (length (Whole key)) text ≡ Whole key
only_cancel (Short key) seen text at_end is = one_request seen text (any_key_bytes (Short key)) at_end is
only_cancel (Long key part) seen text at_end is = one_request seen text (any_key_bytes (Long key part)) at_end is

-- the name of a parameter that a pooler sends
asked_name : (name : List ℕ) → IsUtf8 name → HasNoZero name → IsText name
asked_name name utf8 no_zero = record { utf8 = utf8; no_zero = no_zero }

length-asked : (user database : List ℕ) → length (body_of (asked_for user database)) ≡ 17 + length user + length database
length-asked user database = simp length-append (omega arith)

-- what a pooler sends to a server is read as a session of that user and database
pub session_begun : (user database after : List ℕ) → IsText user → user ≢ [] → IsText database → length user + length database ≤ 8000 → (seen : Seen) (at_end : Bool) → IsOutcome seen (startup_request user database ++ after) at_end (Startup kind.Short user (unless_empty database user) (length (startup_request user database)))
session_begun user database after is_user named is_database short seen at_end =
    let ps = asked_for user database in
    let is_first : IsParameter record { name = codes "user"; value = user } =
    record { named = λ e. cc; name = asked_name (codes "user") (IsUtf8-from_ascii (codes "user") (search rules)) (search rules); value = is_user } in
    let is_second : IsParameter record { name = codes "database"; value = database } =
    record { named = λ e. cc; name = asked_name (codes "database") (IsUtf8-from_ascii (codes "database") (search rules)) (search rules); value = is_database } in
    let sendable : AreParameters ps = record {
      formed = (is_first, (is_second, tt));
      once = ((λ e. cc, tt), (tt, tt));
      allowed = (refl, (refl, tt));
    } in
    let starts : Starts kind.Short (startup_request user database ++ after) ps =
    record { sendable = sendable; message = record { begins = record { after = after; spelled = refl }; upper = omega (arith, length-asked user database) } } in
    inl (ps, starts, named, refl, refl, omega (arith, length-asked user database))
