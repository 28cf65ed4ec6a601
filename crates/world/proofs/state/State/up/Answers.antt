use Rattle.std.proofs.Common.{◌≡◌, ℕ, List, Some, None, length, refl, ap, subst, ◌∙◌}
use Rattle.std.proofs.lemmas.Option.{none-some}
use Rattle.world.specs.declared.reply.Reply.{Reply}
use Rattle.world.specs.World.{World, Backend, Hand, IsBackend}
use Rattle.world.specs.Changes.{and_then, holding, with_nodes, with_session}
use Rattle.world.specs.LinkEvents.{new_backend, with_new}
use Rattle.world.specs.contracts.state.State.{the_view}
use Rattle.link_pool.specs.declared.replies.UpReply.{UpReply}
use Rattle.world.proofs.Holding.{one_session}
use Rattle.world.proofs.Possible.{session_node}
use Rattle.world.proofs.Asked.{opens, same_server, one_more}
use Rattle.world.proofs.state.State.up.Goals as goal

pub up-requires : goal.up-requires
up-requires c =
    let f = rw (← c.self.view_is) at c.requires in
    let is = rw (← c.self.view_is) at c.in-Some.ensures.found in
    record { has = session_node _ f c.in-Some.opening.place c.in-Some.opening.session is.there }

pub returns-in_default-server_of-clause-step : goal.returns-in_default-server_of-clause-step
returns-in_default-server_of-clause-step c = (
  λ may.
      let f = rw (← c.self.view_is) at c.requires in
      let is = rw (← c.self.view_is) at c.in-Some.ensures.found in
      let other = rw (← c.self.view_is) at may in
      let one = one_session _ f c.args.label c.in-Some.opening.place other.place c.in-Some.opening.session other.session
      is other.is in
      c.in_default-server_of.ensures.none other.server
      (same_server _ c.args.label c.args.key c.in-Some.opening.place c.in-Some.opening.session other one.1),
  refl,
)

pub returns-in_default-find-clause-step : goal.returns-in_default-find-clause-step
returns-in_default-find-clause-step c = (
  λ may.
      let f = rw (← c.self.view_is) at c.requires in
      let is = rw (← c.self.view_is) at c.in-Some.ensures.found in
      let other = rw (← c.self.view_is) at may in
      let one = one_session _ f c.args.label c.in-Some.opening.place other.place c.in-Some.opening.session other.session
      is other.is in
      let server = c.in-Some-server_of.ensures.one c.in-Some-server_of.server other.server c.in-Some-server_of.ensures.found
      (same_server _ c.args.label c.args.key c.in-Some.opening.place c.in-Some.opening.session other one.1) in
      let there = c.in_default-find.ensures.found in
      other.new c.in_default-find.field-0 there.0
      (subst (λ (n : ℕ). IsBackend c.self.inside.backends.rows n c.args.key c.in_default-find.field-0 there.0) server there.1),
  refl,
)

pub push-requires-clause-new : goal.push-requires-clause-new
push-requires-clause-new c = λ at b is.
    none-some at (c.in-None.ensures.only at b
    (subst (λ (bs : List Backend). IsBackend bs c.in-Some-server_of.server c.args.key at b) c.in_ok-reserve.ensures.rows is))

pub push-requires-in-Exhausted-clause-new : goal.push-requires-in-Exhausted-clause-new
push-requires-in-Exhausted-clause-new c = λ at b is.
    none-some at (c.in-None.ensures.only at b
    (subst (λ (bs : List Backend). IsBackend bs c.in-Some-server_of.server c.args.key at b) c.in_ok-reserve.ensures.rows is))

pub push-requires-in-Stale-clause-new : goal.push-requires-in-Stale-clause-new
push-requires-in-Stale-clause-new c = λ at b is.
    none-some at (c.in-None.ensures.only at b
    (subst (λ (bs : List Backend). IsBackend bs c.in-Some-server_of.server c.args.key at b) c.in_ok-reserve.ensures.rows is))

pub returns-in-Up-clause-step : goal.returns-in-Up-clause-step
returns-in-Up-clause-step c =
    let s = c.in-Some.opening.session in
    let found = rw (← c.self.view_is) at c.in-Some.ensures.found in
    let rows : c.push.new.self.rows ≡ and_then c.self.inside.backends.rows
    (new_backend c.in-Some-server_of.server c.args.key (Some c.in-Up.lease) (Some s.label)) =
    c.push.ensures ∙ rw (c.in_ok-reserve.ensures.rows, found.named) refl in
    let count : c.len.result ≡ length c.self.inside.backends.rows = c.len.ensures ∙ ap length c.in_ok-reserve.ensures.rows in
    rw (← c.self.view_is) (opens _ _ c.args.label c.args.key _ c.in-Some.opening.place s c.in-Some.opening.permit
    c.in-Some-server_of.server c.up.new.self (UpReply.Up c.in-Up.lease) found c.in-Some.ensures.stays c.in-Some.ensures.hand
    c.in-Some-server_of.ensures.found (λ at b is. none-some at (c.in-None.ensures.only at b is)) c.in-Up.ensures (
      ap (λ (n : ℕ). Reply.Lease n) count,
      c.put_in_hand.ensures
          ∙ one_more (the_view c.self.inside) c.up.new.self c.in-Some.opening.place s (Hand.Lease c.in-Up.lease c.len.result 0) c.push.new.self.rows _ rows
          ∙ ap (λ (n : ℕ). with_session c.in-Some.opening.place (holding (Hand.Lease c.in-Up.lease n 0) s)
          (with_new (new_backend c.in-Some-server_of.server c.args.key (Some c.in-Up.lease) (Some s.label))
          (with_nodes c.up.new.self (the_view c.self.inside)))) count,
    ))

pub returns-in-Exhausted-clause-step : goal.returns-in-Exhausted-clause-step
returns-in-Exhausted-clause-step c =
    let s = c.in-Some.opening.session in
    let found = rw (← c.self.view_is) at c.in-Some.ensures.found in
    let rows : c.push-in-Exhausted.new.self.rows ≡ and_then c.self.inside.backends.rows
    (new_backend c.in-Some-server_of.server c.args.key None None) =
    c.push-in-Exhausted.ensures ∙ rw (c.in_ok-reserve.ensures.rows) refl in
    rw (← c.self.view_is) (opens _ _ c.args.label c.args.key _ c.in-Some.opening.place s c.in-Some.opening.permit
    c.in-Some-server_of.server c.up.new.self (UpReply.Exhausted c.in-Exhausted.field-0 c.in-Exhausted.field-1) found c.in-Some.ensures.stays c.in-Some.ensures.hand
    c.in-Some-server_of.ensures.found (λ at b is. none-some at (c.in-None.ensures.only at b is)) c.in-Exhausted.ensures (
      refl,
      ap (λ (bs : List Backend). let w : World = the_view c.self.inside in
          let x : World = record w { nodes = c.up.new.self; backends = bs } in x) rows,
    ))

pub returns-in-Stale-clause-step : goal.returns-in-Stale-clause-step
returns-in-Stale-clause-step c =
    let s = c.in-Some.opening.session in
    let found = rw (← c.self.view_is) at c.in-Some.ensures.found in
    let rows : c.push-in-Stale.new.self.rows ≡ and_then c.self.inside.backends.rows
    (new_backend c.in-Some-server_of.server c.args.key None None) =
    c.push-in-Stale.ensures ∙ rw (c.in_ok-reserve.ensures.rows) refl in
    rw (← c.self.view_is) (opens _ _ c.args.label c.args.key _ c.in-Some.opening.place s c.in-Some.opening.permit
    c.in-Some-server_of.server c.up.new.self (UpReply.Stale c.in-Stale.field-0) found c.in-Some.ensures.stays c.in-Some.ensures.hand
    c.in-Some-server_of.ensures.found (λ at b is. none-some at (c.in-None.ensures.only at b is)) c.in-Stale.ensures (
      refl,
      c.put_in_hand-in-Stale.ensures
          ∙ one_more (the_view c.self.inside) c.up.new.self c.in-Some.opening.place s Hand.Empty c.push-in-Stale.new.self.rows _ rows,
    ))
