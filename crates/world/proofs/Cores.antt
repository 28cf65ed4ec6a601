-- The nodes of a world as they are kept: the one with a number, and a step of one.
use Rattle.std.proofs.Common.{◌≡◌, ℕ, ◌+◌, ◌<◌, ◌≤◌, ◌==◌, Bor, List, [], ◌∷◌, ◌++◌, Option, Some, None, Ok, Err, length, map, position, take, add-one, refl, ap, sym, subst, ◌∙◌, ⊎_elim}
use Rattle.std.proofs.Math.ListN.{set, get_or}
use Rattle.std.specs.List.{slice_get}
use Rattle.std.specs.Option.{IfSome, IfNone, is_some}
use Rattle.std.proofs.Math.Dec.{ltb}
use Rattle.std.proofs.Math.Seq.{take-suc}
use Rattle.std.proofs.lemmas.Bool.{eqb-true, eq-eqb, false≢true, lt-ltb}
use Rattle.std.proofs.lemmas.List.Quantifiers.{position-Some}
use Rattle.std.proofs.lemmas.Option.{same_Some, none-some, slice_get-get_or, get_or_from_slice_get}
use Rattle.std.proofs.lemmas.Slice.Zip.{all_zipped_more}
use Rattle.std.proofs.lemmas.List.{take_all}
use Rattle.pg_ids.specs.AnyKey.{slot_of}
use Rattle.lease.specs.declared.{ticket.TicketRecord.TicketRecord}
use Rattle.link_pool.specs.declared.replies.{AcquireReply.AcquireReply, RestartReply.RestartReply}
use Rattle.cancel_router.specs.declared.{decision.Route.Route}
use Rattle.node_core.specs.declared.refusal.{JoinRefusal.JoinRefusal, CancelRefusal.CancelRefusal}
use Rattle.node_core.specs.declared.exchange.{Exchange.Exchange, LeaveReply.LeaveReply, Order.Order}
use Rattle.ini_config.specs.Node.{NodeSettings}
use Rattle.ini_config.specs.Group.{IsGroup}
use Rattle.node_core.specs.View.{NodeView, IsView, IsFresh}
use Rattle.node_core.specs.NodeStep.{NodeStep, Orders, route_of}
use Rattle.world.specs.World.{IsNode}
use Rattle.world.specs.Changes.{Steps}
use Rattle.world.specs.WorldRun.{AreFresh}
use Rattle.world.specs.Facts.{AreWhole, AreApart, AreKept}
use Rattle.world.proofs.Lists.{before_end, set_cases, set_here, added_cases, read_map, from_map, map_write, map_added}
use Rattle.world.proofs.ServerNumbers.{first_there}
use Rattle.world.proofs.Starting.{fresh_apart}

-- a node is where a search by its number found it
pub found_node : {X : Type 0} (view : X → NodeView) (xs : List X) (node : ℕ) (nodes : List NodeView) (found : Option ℕ)
    → found ≡ position (λ (x : X). (view x).me == node) xs → map view xs ≡ nodes
    → IfSome found (λ place. (v : NodeView) × IsNode nodes node place v)
found_node view xs node nodes None h is = tt
found_node view [] node nodes (Some place) h is = absurd (none-some place (sym h))
found_node {X} view (x ∷ xs) node nodes (Some place) h is =
    let at = position-Some (λ (y : X). (view y).me == node) (x ∷ xs) place x (sym h) in
    let there = slice_get-get_or (x ∷ xs) place x at.0 in
    let y = get_or (x ∷ xs) place x in
    subst (λ (ns : List NodeView). (v : NodeView) × IsNode ns node place v) is (
      view y,
      record {
        there = read_map view (x ∷ xs) place y there;
        named = eqb-true (view y).me node at.1;
      },
    )

-- where such a search finds none, there is none
pub no_node : {X : Type 0} (view : X → NodeView) (xs : List X) (node : ℕ) (nodes : List NodeView) (found : Option ℕ)
    → found ≡ position (λ (x : X). (view x).me == node) xs → map view xs ≡ nodes
    → IfNone found ((place : ℕ) (v : NodeView) → IsNode nodes node place v → ⊥)
no_node view xs node nodes (Some place) h same = tt
no_node {X} view xs node nodes None h same = λ place v was.
    let is = subst (λ (ns : List NodeView). IsNode ns node place v) (sym same) was in
    let x = from_map view xs place v is.there in
    let n = first_there (λ (y : X). (view y).me == node) xs place x.0 x.1
    (eq-eqb (view x.0).me node (ap (λ (z : NodeView). z.me) x.2 ∙ is.named)) in
    none-some n.0 (h ∙ n.1)

-- a node's number leads to one node
pub one_node : (nodes : List NodeView) (node p q : ℕ) (a b : NodeView) → AreApart nodes
    → IsNode nodes node p a → IsNode nodes node q b → a ≡ b
one_node nodes node p q a b apart is_a is_b =
    let place = apart p q a b is_a.there is_b.there (is_a.named ∙ sym is_b.named) in
    same_Some a b (sym is_a.there ∙ ap (slice_get nodes) place ∙ is_b.there)

-- what is read at a node's place is the node
pub node_read : {X : Type 0} (view : X → NodeView) (xs : List X) (node place : ℕ) (v : NodeView) (x : X)
    → IsNode (map view xs) node place v → x ≡ get_or xs place x
    → IsNode (map view xs) node place (view x)
node_read view xs node place v x is read =
    let y = from_map view xs place v is.there in
    let same = read ∙ get_or_from_slice_get xs place y.0 x y.1 in
    subst (λ (z : NodeView). IsNode (map view xs) node place z) (sym (ap view same ∙ y.2)) is

-- a step keeps a node's number
keeps_number : (v n : NodeView) (call : Exchange) → NodeStep v call n → n.me ≡ v.me
keeps_number v n (Exchange.Join database secret kind (Ok pass)) step = ap (λ (z : NodeView). z.me) step.after
keeps_number v n (Exchange.Join database secret kind (Err JoinRefusal.Full)) step = ap (λ (z : NodeView). z.me) step.1
keeps_number v n (Exchange.Join database secret kind (Err JoinRefusal.Exhausted)) step = ap (λ (z : NodeView). z.me) step.2
keeps_number v n (Exchange.Leave pass LeaveReply.Left) step = ap (λ (z : NodeView). z.me) step.1.after
keeps_number v n (Exchange.Leave pass (LeaveReply.Holding again)) step = ap (λ (z : NodeView). z.me) step.2
keeps_number v n (Exchange.Leave pass LeaveReply.Stale) step = ap (λ (z : NodeView). z.me) step.1
keeps_number v n (Exchange.Leave pass LeaveReply.Exhausted) step = absurd step
keeps_number v n (Exchange.Acquire pass (AcquireReply.Got lease)) step = ap (λ (z : NodeView). z.me) step.step.1
keeps_number v n (Exchange.Acquire pass (AcquireReply.Open permit)) step = ap (λ (z : NodeView). z.me) step.step.1
keeps_number v n (Exchange.Acquire pass AcquireReply.Waiting) step = ap (λ (z : NodeView). z.me) step.step.1
keeps_number v n (Exchange.Acquire pass AcquireReply.Cancelled) step = ap (λ (z : NodeView). z.me) step.step.1
keeps_number v n (Exchange.Acquire pass AcquireReply.Holding) step = ap (λ (z : NodeView). z.me) step.step.1
keeps_number v n (Exchange.Acquire pass AcquireReply.Exhausted) step = ap (λ (z : NodeView). z.me) step.step.1
keeps_number v n (Exchange.Acquire pass AcquireReply.Stale) step = ap (λ (z : NodeView). z.me) step.1
keeps_number v n (Exchange.Up permit key reply) step = ap (λ (z : NodeView). z.me) step.1
keeps_number v n (Exchange.UpFailed permit reply) step = ap (λ (z : NodeView). z.me) step.1
keeps_number v n (Exchange.Release lease reply) step = ap (λ (z : NodeView). z.me) step.1
keeps_number v n (Exchange.Close lease reply) step = ap (λ (z : NodeView). z.me) step.1
keeps_number v n (Exchange.Cancel key reply) step = ordered v n (slot_of key) (route_of v key) reply step
  where
    ordered : (v n : NodeView) (slot : ℕ) (way : Route) (given : Order TicketRecord) → Orders slot way given v n → n.me ≡ v.me
    ordered v n slot (Route.Forward peer key) (Order.Forward to packet) step = ap (λ (z : NodeView). z.me) step.2
    ordered v n slot (Route.Forward peer key) (Order.Serve ticket database server) step = absurd step
    ordered v n slot (Route.Forward peer key) (Order.Unwait told) step = absurd step
    ordered v n slot (Route.Forward peer key) (Order.Refused refusal) step = absurd step
    ordered v n slot (Route.Refused reason) (Order.Refused refusal) step = ap (λ (z : NodeView). z.me) step.1
    ordered v n slot (Route.Refused reason) (Order.Forward to packet) step = absurd step
    ordered v n slot (Route.Refused reason) (Order.Serve ticket database server) step = absurd step
    ordered v n slot (Route.Refused reason) (Order.Unwait told) step = absurd step
    ordered v n slot (Route.Send link) (Order.Serve ticket database server) step = ap (λ (z : NodeView). z.me) step.1.1
    ordered v n slot (Route.Send link) (Order.Refused CancelRefusal.Busy) step = ap (λ (z : NodeView). z.me) step.1
    ordered v n slot (Route.Send link) (Order.Refused CancelRefusal.Exhausted) step = ap (λ (z : NodeView). z.me) step.1
    ordered v n slot (Route.Send link) (Order.Refused (CancelRefusal.Route reason)) step = absurd step
    ordered v n slot (Route.Send link) (Order.Forward to packet) step = absurd step
    ordered v n slot (Route.Send link) (Order.Unwait told) step = absurd step
    ordered v n slot (Route.Unwait waiting) (Order.Unwait told) step = ap (λ (z : NodeView). z.me) step.1.1
    ordered v n slot (Route.Unwait waiting) (Order.Forward to packet) step = absurd step
    ordered v n slot (Route.Unwait waiting) (Order.Serve ticket database server) step = absurd step
    ordered v n slot (Route.Unwait waiting) (Order.Refused refusal) step = absurd step
keeps_number v n (Exchange.Ended ticket reply) step = ap (λ (z : NodeView). z.me) step.1
keeps_number v n (Exchange.Failed ticket reply) step = ap (λ (z : NodeView). z.me) step.1
keeps_number v n (Exchange.Restart boot RestartReply.Restarted) step = ap (λ (z : NodeView). z.me) step.after
keeps_number v n (Exchange.Restart boot RestartReply.Exhausted) step = ap (λ (z : NodeView). z.me) step.1

-- a node makes a step at its place
pub stepped : {X : Type 0} (view : X → NodeView) (xs : List X) (node place : ℕ) (v : NodeView) (old new : X) (made : Exchange)
    → IsNode (map view xs) node place v → old ≡ get_or xs place old
    → NodeStep (view old) made (view new)
    → Steps node made (map view xs) (map view (set xs place new))
stepped view xs node place v old new made is read step = record {
  place = place;
  view = view old;
  next = view new;
  is = node_read view xs node place v old is read;
  step = step;
  after = map_write view xs place new;
}

-- which keeps what is true of the nodes, if its view is whole
pub kept_on : {X : Type 0} (view : X → NodeView) (xs : List X) (node place : ℕ) (v : NodeView) (old new again : X) (made : Exchange)
    → AreKept (map view xs) → IsNode (map view xs) node place v → old ≡ get_or xs place old
    → NodeStep (view old) made (view new) → again ≡ get_or (set xs place new) place again → IsView (view again)
    → AreKept (map view (set xs place new))
kept_on {X} view xs node place v old new again made kept is read step read_again whole =
    subst AreKept (sym (map_write view xs place new)) (record {
      whole = λ i z at. ⊎_elim
          (λ was. kept.whole i z was.1)
          (λ is_new. subst IsView (sym is_new.1) whole_new)
          (set_cases olds place i z (view new) at);
      apart = λ i j a b at_i at_j e. ⊎_elim
          (λ was_i. ⊎_elim
          (λ was_j. kept.apart i j a b was_i.1 was_j.1 e)
          (λ new_j. kept.apart i place a (view old) was_i.1 was.there (e ∙ ap (λ (z : NodeView). z.me) new_j.1 ∙ number) ∙ sym new_j.0)
          (set_cases olds place j b (view new) at_j))
          (λ new_i. ⊎_elim
          (λ was_j. new_i.0 ∙ kept.apart place j (view old) b was.there was_j.1 (sym number ∙ sym (ap (λ (z : NodeView). z.me) new_i.1) ∙ e))
          (λ new_j. new_i.0 ∙ sym new_j.0)
          (set_cases olds place j b (view new) at_j))
          (set_cases olds place i a (view new) at_i);
    })
  where
    olds : List NodeView
    olds = map view xs

    was : IsNode (map view xs) node place (view old)
    was = node_read view xs node place v old is read

    number : (view new).me ≡ (view old).me
    number = keeps_number (view old) (view new) made step

    whole_new : IsView (view new)
    whole_new =
        let y = from_map view xs place v is.there in
        let there = set_here xs place y.0 new y.1 in
        subst (λ (z : X). IsView (view z)) (read_again ∙ get_or_from_slice_get (set xs place new) place new again there) whole

-- so is what is lent of it there
pub node_lent : {X : Type 0} (view : X → NodeView) (xs ys : List X) (node place : ℕ) (v : NodeView) (nodes : List NodeView) (lent : Option (Bor X))
    → map view xs ≡ nodes → ys ≡ xs → IsNode nodes node place v
    → IfSome lent (λ x. x.now ≡ get_or ys place x.now)
    → IfSome lent (λ x. (at : ℕ) × IsNode nodes node at (view x.now))
node_lent view xs ys node place v nodes None is same was read = tt
node_lent {X} view xs ys node place v nodes (Some x) is same was read = (
  place,
  subst (λ (ns : List NodeView). IsNode ns node place (view x.now)) is
      (node_read view xs node place v x.now (subst (λ (ns : List NodeView). IsNode ns node place v) (sym is) was)
      (read ∙ ap (λ (zs : List X). get_or zs place x.now) same)),
)

-- a node's place is within the list
node_within : {X : Type 0} (view : X → NodeView) (xs : List X) (node place : ℕ) (v : NodeView)
    → IsNode (map view xs) node place v → place < length xs
node_within view xs node place v is =
    let y = from_map view xs place v is.there in before_end xs place y.0 y.1

-- so it is lent there
pub node_there : {X : Type 0} (P : Type 0) (view : X → NodeView) (xs ys : List X) (node place : ℕ) (v : NodeView) (nodes : List NodeView) (lent : Option (Bor X))
    → map view xs ≡ nodes → ys ≡ xs → IsNode nodes node place v → is_some lent ≡ ltb place (length ys)
    → IfNone lent P
node_there P view xs ys node place v nodes (Some x) is same was read = tt
node_there {X} P view xs ys node place v nodes None is same was read =
    let below = node_within view xs node place v (subst (λ (ns : List NodeView). IsNode ns node place v) (sym is) was) in
    absurd (false≢true (read ∙ ap (λ (zs : List X). ltb place (length zs)) same ∙ lt-ltb place (length xs) below))

-- a new node comes to those that were made
pub made_more : {X : Type 0} (view : X → NodeView) (group : List NodeSettings) (i : ℕ) (xs : List X) (s : NodeSettings) (x : X)
    → slice_get group i ≡ Some s → IsFresh s 0 (view x) → IsView (view x)
    → AreFresh (take i group) (map view xs) × AreWhole (map view xs)
    → AreFresh (take (i + 1) group) (map view (xs ++ x ∷ [])) × AreWhole (map view (xs ++ x ∷ []))
made_more view group i xs s x at fresh whole were =
    let first : take (i + 1) group ≡ take i group ++ s ∷ [] =
    rw (add-one, take-suc group i s (before_end group i s at), get_or_from_slice_get group i s s at) refl in
    rw (first, map_added view xs x) (
      all_zipped_more (λ (settings : NodeSettings). IsFresh settings 0) (take i group) (map view xs) s (view x) were.0 fresh,
      λ j v there. ⊎_elim
          (λ was. were.1 j v was)
          (λ last. subst IsView (sym last.1) whole)
          (added_cases (map view xs) (view x) j v there),
    )

-- all were made
pub made_all : (group : List NodeSettings) (i : ℕ) (nodes : List NodeView) → length group ≤ i
    → AreFresh (take i group) nodes → AreFresh group nodes
made_all group i nodes past fresh =
    subst (λ (some : List NodeSettings). AreFresh some nodes) (take_all i group past) fresh

-- new nodes of a group are what nodes are
pub made_kept : (group : List NodeSettings) (i : ℕ) (nodes : List NodeView) → IsGroup group → length group ≤ i
    → AreFresh (take i group) nodes × AreWhole nodes → AreKept nodes
made_kept group i nodes is past were = record {
  whole = were.1;
  apart = fresh_apart group nodes is.distinct (made_all group i nodes past were.0);
}
