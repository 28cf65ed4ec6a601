-- A kind fixes how many numbers its calls have.
use Rattle.std.proofs.Common.{◌≡◌, ℕ, ◌+◌, ◌*◌, ◌≤◌, Bool, true, false, List, [], ◌∷◌, length, Ok, Err, refl, sym, ap, ◌∙◌, arith}
use Rattle.std.specs.Prelude.{slice_index, ◌==◌, if◌then◌else◌}
use Rattle.std.proofs.lemmas.List.{length-append}
use Rattle.pg_ids.specs.AnyKey.{any_key, any_lowered, kind_of, short_of, peer_of, slot_of}
use Rattle.pg_ids.specs.declared.client_key.ClientKey.{ClientKey}
use Rattle.pg_ids.specs.declared.any_key.AnyKey.{AnyKey}
use Rattle.pg_ids.specs.declared.any_key.AnyKey.TheVariants as key
use Rattle.pg_ids.specs.declared.any_key.Kind.{Kind}
use Rattle.pg_ids.specs.declared.any_key.Kind.TheVariants.{Short, Long}
use Rattle.startup.specs.CancelPacket.{cancel_packet}
use Rattle.startup.specs.declared.packet.Packet.{Packet}
use Rattle.std.specs.List.{list_any}
use Rattle.cancel_router.specs.Route.{served, at_home, away, route}
use Rattle.key_table.specs.Slots.{Slots, names}
use Rattle.cancel_router.specs.declared.refusal.RouteRefusal.TheVariants as lost
use Rattle.cancel_router.specs.declared.table_view.Standing.{Standing}
use Rattle.cancel_router.specs.declared.table_view.Standing.TheVariants as standing
use Rattle.cancel_router.specs.declared.decision.Route.{Route}
use Rattle.cancel_router.specs.declared.decision.Route.TheVariants as way
use Rattle.node_core.specs.View.{NodeView}
use Rattle.node_core.specs.NodeStep.{NodeStep, Orders, part_of, standing_in}
use Rattle.link_pool.specs.declared.replies.AcquireReply.TheVariants as acquire
use Rattle.link_pool.specs.declared.replies.UpReply.TheVariants as up
use Rattle.link_pool.specs.declared.replies.UpFailedReply.TheVariants as failing
use Rattle.link_pool.specs.declared.replies.ReleaseReply.TheVariants as release
use Rattle.link_pool.specs.declared.replies.CloseReply.TheVariants as close
use Rattle.link_pool.specs.declared.replies.EndedReply.TheVariants as ended
use Rattle.link_pool.specs.declared.replies.FailedReply.TheVariants as failed
use Rattle.link_pool.specs.declared.replies.RestartReply.TheVariants as restart
use Rattle.node_core.specs.declared.refusal.JoinRefusal.TheVariants as join
use Rattle.node_core.specs.declared.refusal.CancelRefusal.TheVariants as cancel
use Rattle.node_core.specs.declared.exchange.LeaveReply.TheVariants as leave
use Rattle.node_core.specs.declared.exchange.Order.TheVariants as order
use Rattle.node_core.specs.declared.exchange.Exchange.{Exchange}
use Rattle.node_core.specs.declared.exchange.Exchange.TheVariants.{Join, Leave, Acquire, Up, UpFailed, Release, Close, Cancel, Ended, Failed, Restart}
use Rattle.locked_node.specs.declared.call_kind.TheConstants.{REST, KEYS}
use Rattle.locked_node.specs.CallNumbers.{answer_of, answer_index, asked_of, index_of, key_width, key_numbers, key_number, packet_numbers, numbers_of}
use Rattle.locked_node.specs.CallNumbers as counted
use Rattle.locked_node.proofs.Cells.{ROOMS, room_of, room_is, own_room, same_room}

-- how many numbers a key has
key_wide : (k : AnyKey) → length (key_numbers k) ≡ key_width (kind_of k)
key_wide (key.Short short) = refl
key_wide (key.Long short part) = refl

key_most : (k : AnyKey) → length (key_numbers k) ≤ 3
key_most (key.Short short) = omega arith
key_most (key.Long short part) = omega arith

packet_most : (packet : Packet) → length (packet_numbers packet) ≤ 3
packet_most (Packet.Short bytes) = omega arith
packet_most (Packet.Long bytes) = omega arith

-- the request of a key has as many
packet_wide : (k : AnyKey) → length (packet_numbers (cancel_packet k)) ≡ key_width (kind_of k)
packet_wide (key.Short short) = refl
packet_wide (key.Long short part) = refl

-- a new key is of the kind that was asked for
issued_kind : (asked : Kind) (v : NodeView) (first : ClientKey)
    → kind_of (any_key first (part_of asked v)) ≡ asked
issued_kind Short v first = refl
issued_kind Long v first = refl

-- a key that goes on by this way is of the request's kind
abbrev SentAs : AnyKey → Route → Type 0
SentAs k (way.Forward to sent) = kind_of sent ≡ kind_of k
SentAs k (way.Send link) = Unit {0}
SentAs k (way.Unwait slot) = Unit {0}
SentAs k (way.Refused reason) = Unit {0}

lowered_kind : (k : AnyKey) → kind_of (any_lowered k) ≡ kind_of k
lowered_kind (key.Short short) = refl
lowered_kind (key.Long short part) = refl

sent_home : (found : Bool) (slot : ℕ) (stands : Standing) (k : AnyKey)
    → SentAs k (if found then served slot stands else way.Refused lost.Unknown)
sent_home false slot stands k = tt
sent_home true slot standing.Without k = tt
sent_home true slot standing.Waits k = tt
sent_home true slot (standing.Holds link) k = tt

sent_away : (spent listed : Bool) (peer : ℕ) (k : AnyKey)
    → SentAs k (if spent then way.Refused lost.Spent
    else if listed then way.Forward peer (any_lowered k) else way.Refused lost.NoPeer)
sent_away true listed peer k = tt
sent_away false true peer k = lowered_kind k
sent_away false false peer k = tt

sent_by : (spent own : Bool) (home out : Route) (k : AnyKey) → SentAs k home → SentAs k out
    → SentAs k (if spent then way.Refused lost.Spent else if own then home else out)
sent_by true own home out k at_home away = tt
sent_by false true home out k at_home away = at_home
sent_by false false home out k at_home away = away

sent_as : (me : ℕ) (peers : List ℕ) (slots : Slots) (stands : ℕ → Standing) (k : AnyKey)
    → SentAs k (route me peers slots stands k)
sent_as me peers slots stands k =
    sent_by ((short_of k).hops == 0) (peer_of k == me) (at_home slots stands k (slot_of k))
    (away peers k) k (sent_home (names slots k) (slot_of k) (stands (slot_of k)) k)
    (sent_away ((short_of k).hops == 1) (list_any (λ peer. peer == peer_of k) peers) (peer_of k) k)

forwarded_wide : (slot : ℕ) (r : Route) (to : ℕ) (packet : Packet) (k : AnyKey)
    (old new : NodeView) → SentAs k r → Orders slot r (order.Forward to packet) old new
    → length (packet_numbers packet) ≡ key_width (kind_of k)
forwarded_wide slot (way.Forward peer sent) to packet k old new same o =
    ap (λ p. length (packet_numbers p)) o.1 ∙ packet_wide sent ∙ ap key_width same
forwarded_wide slot (way.Send link) to packet k old new same o = absurd o
forwarded_wide slot (way.Unwait waiting) to packet k old new same o = absurd o
forwarded_wide slot (way.Refused reason) to packet k old new same o = absurd o

-- how many numbers a call of this kind has
abbrev width : Exchange → ℕ
width call =
    slice_index REST (answer_index (answer_of call))
    + slice_index KEYS (answer_index (answer_of call)) * key_width (asked_of call)

-- each reply once; the last line stands for the other replies of each step
pub wide : (old new : NodeView) (call : Exchange) → NodeStep old call new
    → length (numbers_of call) ≡ width call
wide old new (Join database secret asked (Ok pass)) step =
    let k = key_wide pass.key in
    let same = ap key_width (ap kind_of step.slot.key ∙ issued_kind asked old _) in
    omega (arith, k, same)
wide old new (Join database secret asked (Err join.Full)) step = omega arith
wide old new (Join database secret asked (Err join.Exhausted)) step = omega arith
wide old new (Leave pass (leave.Holding again)) step =
    let k = key_wide pass.key in
    let other = key_wide again.key in
    let same = ap (λ p. key_width (kind_of p.key)) step.1 in
    let joined = length-append (key_numbers pass.key) (key_numbers again.key) in
    omega (arith, k, other, same, joined)
wide old new (Leave pass leave.Left) step = let k = key_wide pass.key in omega (arith, k)
wide old new (Leave pass leave.Stale) step = let k = key_wide pass.key in omega (arith, k)
wide old new (Leave pass leave.Exhausted) step = absurd step
wide old new (Acquire pass (acquire.Got lease)) step =
    let k = key_wide pass.key in omega (arith, k)
wide old new (Acquire pass (acquire.Open permit)) step =
    let k = key_wide pass.key in omega (arith, k)
wide old new (Acquire pass acquire.Waiting) step = let k = key_wide pass.key in omega (arith, k)
wide old new (Acquire pass acquire.Cancelled) step = let k = key_wide pass.key in omega (arith, k)
wide old new (Acquire pass acquire.Holding) step = let k = key_wide pass.key in omega (arith, k)
wide old new (Acquire pass acquire.Exhausted) step = let k = key_wide pass.key in omega (arith, k)
wide old new (Acquire pass acquire.Stale) step = let k = key_wide pass.key in omega (arith, k)
wide old new (Cancel asked (order.Serve ticket database server)) step =
    let k = key_wide asked in
    let joined = length-append (key_numbers asked) (key_number server ∷ []) in
    omega (arith, k, joined)
wide old new (Cancel asked (order.Forward to packet)) step =
    let k = key_wide asked in
    let sent = forwarded_wide _ _ to packet asked old new
    (sent_as old.me old.peers old.keys (standing_in old) asked) step in
    let joined = length-append (key_numbers asked) (packet_numbers packet) in
    omega (arith, k, sent, joined)
wide old new (Cancel asked (order.Unwait slot)) step = let k = key_wide asked in omega (arith, k)
wide old new (Cancel asked (order.Refused (cancel.Route lost.Spent))) step =
    let k = key_wide asked in omega (arith, k)
wide old new (Cancel asked (order.Refused (cancel.Route lost.Unknown))) step =
    let k = key_wide asked in omega (arith, k)
wide old new (Cancel asked (order.Refused (cancel.Route lost.NoPeer))) step =
    let k = key_wide asked in omega (arith, k)
wide old new (Cancel asked (order.Refused (cancel.Route lost.NoLink))) step =
    let k = key_wide asked in omega (arith, k)
wide old new (Cancel asked (order.Refused cancel.Busy)) step =
    let k = key_wide asked in omega (arith, k)
wide old new (Cancel asked (order.Refused cancel.Exhausted)) step =
    let k = key_wide asked in omega (arith, k)
wide old new (Up permit key (up.Up lease)) step = refl
wide old new (UpFailed permit failing.Freed) step = refl
wide old new (Release lease release.Idle) step = refl
wide old new (Close lease (close.Closed stream)) step = refl
wide old new (Ended ticket ended.Freed) step = refl
wide old new (Failed ticket failed.Condemned) step = refl
wide old new (Restart boot restart.Restarted) step = refl
wide old new call step = refl

-- and for how many a call's kind has room
abbrev room : Exchange → ℕ
room call = room_of (asked_of call) (answer_index (answer_of call))

le_same : (a b : ℕ) → a ≡ b → a ≤ b
le_same a b e = omega (arith, e)

fewer : (call : Exchange) → length (numbers_of call) ≤ room call
fewer (Join database secret asked (Ok pass)) =
    let k = key_most pass.key in
    let room = same_room asked 2 8 refl refl in
    omega (arith, k, room)
fewer (Join database secret asked (Err join.Full)) = le_same _ _ (sym (same_room asked 3 2 refl refl))
fewer (Join database secret asked (Err join.Exhausted)) = le_same _ _ (sym (same_room asked 4 2 refl refl))
fewer (Leave pass (leave.Holding again)) =
    let k = key_most pass.key in
    let other = key_most again.key in
    let joined = length-append (key_numbers pass.key) (key_numbers again.key) in
    let room = same_room (kind_of pass.key) 6 12 refl refl in
    omega (arith, k, other, joined, room)
fewer (Leave pass leave.Left) =
    let k = key_wide pass.key in
    let room = own_room (kind_of pass.key) 5 3 refl refl in
    omega (arith, k, room)
fewer (Leave pass leave.Stale) =
    let k = key_wide pass.key in
    let room = own_room (kind_of pass.key) 7 3 refl refl in
    omega (arith, k, room)
fewer (Leave pass leave.Exhausted) =
    let k = key_wide pass.key in
    let room = own_room (kind_of pass.key) 8 3 refl refl in
    omega (arith, k, room)
fewer (Acquire pass (acquire.Got lease)) =
    let k = key_wide pass.key in
    let room = own_room (kind_of pass.key) 0 8 refl refl in
    omega (arith, k, room)
fewer (Acquire pass (acquire.Open permit)) =
    let k = key_wide pass.key in
    let room = own_room (kind_of pass.key) 9 8 refl refl in
    omega (arith, k, room)
fewer (Acquire pass acquire.Waiting) =
    let k = key_wide pass.key in
    let room = own_room (kind_of pass.key) 10 3 refl refl in
    omega (arith, k, room)
fewer (Acquire pass acquire.Cancelled) =
    let k = key_wide pass.key in
    let room = own_room (kind_of pass.key) 11 3 refl refl in
    omega (arith, k, room)
fewer (Acquire pass acquire.Holding) =
    let k = key_wide pass.key in
    let room = own_room (kind_of pass.key) 12 3 refl refl in
    omega (arith, k, room)
fewer (Acquire pass acquire.Stale) =
    let k = key_wide pass.key in
    let room = own_room (kind_of pass.key) 13 3 refl refl in
    omega (arith, k, room)
fewer (Acquire pass acquire.Exhausted) =
    let k = key_wide pass.key in
    let room = own_room (kind_of pass.key) 14 3 refl refl in
    omega (arith, k, room)
fewer (Cancel asked (order.Serve ticket database server)) =
    let k = key_wide asked in
    let joined = length-append (key_numbers asked) (key_number server ∷ []) in
    let room = own_room (kind_of asked) 29 8 refl refl in
    omega (arith, k, joined, room)
fewer (Cancel asked (order.Forward to packet)) =
    let k = key_most asked in
    let sent = packet_most packet in
    let joined = length-append (key_numbers asked) (packet_numbers packet) in
    let room = same_room (kind_of asked) 30 7 refl refl in
    omega (arith, k, sent, joined, room)
fewer (Cancel asked (order.Unwait slot)) =
    let k = key_wide asked in
    let room = own_room (kind_of asked) 31 1 refl refl in
    omega (arith, k, room)
fewer (Cancel asked (order.Refused (cancel.Route lost.Spent))) =
    let k = key_wide asked in
    let room = own_room (kind_of asked) 32 0 refl refl in
    omega (arith, k, room)
fewer (Cancel asked (order.Refused (cancel.Route lost.Unknown))) =
    let k = key_wide asked in
    let room = own_room (kind_of asked) 33 0 refl refl in
    omega (arith, k, room)
fewer (Cancel asked (order.Refused (cancel.Route lost.NoPeer))) =
    let k = key_wide asked in
    let room = own_room (kind_of asked) 34 0 refl refl in
    omega (arith, k, room)
fewer (Cancel asked (order.Refused (cancel.Route lost.NoLink))) =
    let k = key_wide asked in
    let room = own_room (kind_of asked) 35 0 refl refl in
    omega (arith, k, room)
fewer (Cancel asked (order.Refused cancel.Busy)) =
    let k = key_wide asked in
    let room = own_room (kind_of asked) 36 0 refl refl in
    omega (arith, k, room)
fewer (Cancel asked (order.Refused cancel.Exhausted)) =
    let k = key_wide asked in
    let room = own_room (kind_of asked) 37 0 refl refl in
    omega (arith, k, room)
fewer (Up permit key (up.Up lease)) = le_same _ _ refl
fewer (UpFailed permit failing.Freed) = le_same _ _ refl
fewer (Release lease release.Idle) = le_same _ _ refl
fewer (Close lease (close.Closed stream)) = le_same _ _ refl
fewer (Ended ticket ended.Freed) = le_same _ _ refl
fewer (Failed ticket failed.Condemned) = le_same _ _ refl
fewer (Restart boot restart.Restarted) = le_same _ _ refl
fewer call = le_same _ _ refl

-- no call has more numbers than there are sums of its kind
pub narrow : (call : Exchange) → length (numbers_of call) ≤ slice_index ROOMS (index_of (counted.kind_of call))
narrow call =
    let some = fewer call in
    let room = room_is (asked_of call) (answer_index (answer_of call)) in
    omega (arith, some, room)
