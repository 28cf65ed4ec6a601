-- The route of a cancel request (own; PgBouncer manual, `peer_id` and `[peers]`). For another
-- node's key: refused if too few hops are left (60) or the node is no peer (62), otherwise
-- forwarded with one hop fewer. For this node's key: refused without hops (60) or if no slot in use
-- has that key (61); otherwise the wait of the slot's client is ended, or the request is refused
-- because the client holds no link (63), or goes to the server of its link.
use Rattle.std.specs.Prelude.{ℕ, ◌==◌, List, if◌then◌else◌}
use Rattle.std.specs.List.{list_any}
use Rattle.pg_ids.specs.AnyKey.{short_of, peer_of, slot_of, any_lowered}
use Rattle.pg_ids.specs.declared.any_key.AnyKey.{AnyKey}
use Rattle.key_table.specs.Slots.{Slots, names}
use Rattle.cancel_router.specs.declared.refusal.RouteRefusal.TheVariants.{Spent, Unknown, NoPeer, NoLink}
use Rattle.cancel_router.specs.declared.table_view.Standing.{Standing}
use Rattle.cancel_router.specs.declared.table_view.Standing.TheVariants.{Without, Waits, Holds}
use Rattle.cancel_router.specs.declared.decision.Route.{Route}
use Rattle.cancel_router.specs.declared.decision.Route.TheVariants.{Forward, Send, Unwait, Refused}

-- a request for a live slot, by how its client stands
abbrev pub served : ℕ → Standing → Route
served slot Without = Refused NoLink
served slot Waits = Unwait slot
served slot (Holds link) = Send link

-- at the pooler that the key names, by its slot there
abbrev pub at_home : Slots → (ℕ → Standing) → AnyKey → ℕ → Route
at_home slots standing key slot =
    if names slots key then served slot (standing slot) else Refused Unknown

-- at another pooler: the last hop brings nobody to the pooler that the key names
abbrev pub away : List ℕ → AnyKey → Route
away peers key =
    if (short_of key).hops == 1 then Refused Spent
    else if list_any (λ peer. peer == peer_of key) peers then
    Forward (peer_of key) (any_lowered key)
    else Refused NoPeer

-- the route of a request with this key at the pooler `me`
abbrev pub route : ℕ → List ℕ → Slots → (ℕ → Standing) → AnyKey → Route
route me peers slots standing key =
    if (short_of key).hops == 0 then Refused Spent
    else if peer_of key == me then at_home slots standing key (slot_of key)
    else away peers key
