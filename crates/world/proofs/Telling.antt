-- A node learns that a cancel connection was ended, or that it broke.
use Rattle.std.proofs.Common.{◌≡◌, ℕ, ◌+◌, ⊎_elim, true, false, List, Some, None, refl, ap, sym, subst, ◌∙◌, arith}
use Rattle.std.proofs.Math.ListN.{set}
use Rattle.std.specs.List.{slice_get}
use Rattle.std.proofs.lemmas.Option.{same_Some}
use Rattle.quarantine.specs.OpenTickets.{OpenTickets}
use Rattle.link_pool.specs.declared.place.{Place.Place, Link.Link, LinkState.LinkState}
use Rattle.link_pool.specs.declared.replies.{EndedReply.EndedReply, FailedReply.FailedReply}
use Rattle.link_pool.specs.Pool.{PoolView, place_at, with_place, in_state, nothing_for}
use Rattle.link_pool.specs.PoolStep.{is_quarantined, giver_of, IsTicket, StaleTicket, link_of, with_hold, one_less, one_failed, EndedStep, FailedStep}
use Rattle.link_pool.proofs.Changes.{place_there}
use Rattle.node_core.specs.View.{NodeView}
use Rattle.node_core.specs.NodeStep.{LinksStep}
use Rattle.world.specs.declared.reply.Reply.{Reply}
use Rattle.world.specs.World.{World, Connection, Report, IsNode}
use Rattle.world.specs.Changes.{with_nodes, with_connection}
use Rattle.world.specs.Admissible.{IsUnreported}
use Rattle.world.specs.CancelEvents.{Tells, Breaks}
use Rattle.world.specs.Facts.{processes_of, lasts_of, faces_of, IsProcess, LinkStands, is_with_client, Facts, AreWhole}
use Rattle.world.proofs.Lists.{set_cases}
use Rattle.world.proofs.Connections.{Advances}
use Rattle.world.proofs.LinkSteps.{with_links}
use Rattle.world.proofs.GivingBack.{process_again, process_at, written_at}
use Rattle.world.proofs.Asking.{one_open}
use Rattle.world.proofs.Reporting.{open_less, other_stands, ticket_link, report_kept, grips_apart, grips_held}

-- a link has one open ticket less
less_stands : (w : World) (k : ℕ) (c d : Connection) (v : NodeView) (link l : Link) (b : ℕ) (how : Report)
    → slice_get w.connections k ≡ Some c → c.backend ≡ b → c.report ≡ None → d.report ≡ Some how
    → LinkStands (faces_of w) (lasts_of w) w.connections v link b
    → l.hold.tickets + 1 ≡ link.hold.tickets
    → (link.hold.condemned ≡ true → l.hold.condemned ≡ true)
    → (d.acted ≡ false → l.hold.condemned ≡ true)
    → ((slot : ℕ) → l.state ≡ LinkState.Quarantined (Some slot) → link.state ≡ LinkState.Quarantined (Some slot))
    → LinkStands (faces_of w) (lasts_of w) (set w.connections k d) v l b
less_stands w k c d v link l b how there of none some h less condemned hasty giver = record {
  tickets =
      let was = h.tickets in
      let one = open_less w.connections k c d b how there of none some in
      omega (arith, was, one, less);
  hasty = λ i x by at of_b acted reported. ⊎_elim
      (λ was. condemned (h.hasty i x by was.1 of_b acted reported))
      (λ new. hasty (ap (λ (z : Connection). z.acted) (sym new.1) ∙ acted))
      (set_cases w.connections k i x d at);
  giver = λ i slot face given at is key. h.giver i slot face (giver slot given) at is key;
}

-- the process of a ticket's link is that of its connection
ticket_process : (w : World) (k q : ℕ) (c : Connection) (v : NodeView) (link : Link) → Facts w
    → slice_get w.connections k ≡ Some c → slice_get w.nodes q ≡ Some v
    → IsTicket c.ticket link v.links
    → (b : ℕ) × IsProcess w.group (processes_of w) v.me link b
    × LinkStands (faces_of w) (lasts_of w) w.connections v link b × (c.backend ≡ b)
ticket_process w k q c v link f there at_q is =
    let h = f.links q v at_q c.ticket.at link is.at in
    let x = f.connections.each k c there in (
      h.0,
      h.1,
      h.2,
      process_at w f c.backend h.0 x.process h.1.process (link_of c.ticket) link.details
          x.there h.1.there x.link h.1.of (sym is.says),
    )

-- the world after a report
reported_is : (w new : World) (nodes : List NodeView) (k q : ℕ) (d : Connection) (v n : NodeView) (u : PoolView)
    → new ≡ with_connection k d (with_nodes nodes w) → nodes ≡ set w.nodes q n
    → n ≡ with_links v n.links → n.links ≡ u
    → new ≡ record w { nodes = set w.nodes q (with_links v u); connections = set w.connections k d }
reported_is w new nodes k q d v n u after all node links =
    after ∙ ap (λ (ns : List NodeView). with_connection k d (with_nodes ns w))
    (all ∙ ap (set w.nodes q) (node ∙ ap (with_links v) links))

apart_if_quarantined : (x : LinkState) → is_quarantined x ≡ true → is_with_client x ≡ false
apart_if_quarantined LinkState.Idle h = refl
apart_if_quarantined (LinkState.Held slot) h = absurd (cc)
apart_if_quarantined (LinkState.Quarantined giver) h = refl

same_link : (a b : Link) → Place.Link a ≡ Place.Link b → a ≡ b
same_link a b h = cc

-- the ticket's link stays where it is, with one ticket less
held_report : (w : World) (k q : ℕ) (c d : Connection) (v : NodeView) (link : Link) (hold : OpenTickets) (how : Report)
    → AreWhole w.nodes → slice_get w.connections k ≡ Some c → Advances c d → c.report ≡ None
    → d.report ≡ Some how → IsNode w.nodes c.ticket.peer q v → IsTicket c.ticket link v.links
    → hold.tickets + 1 ≡ link.hold.tickets → (link.hold.condemned ≡ true → hold.condemned ≡ true)
    → (d.acted ≡ false → hold.condemned ≡ true) → Facts w
    → Facts (record w {
      nodes = set w.nodes q (with_links v (with_place v.links c.ticket.at (Place.Link (with_hold link hold))));
      connections = set w.connections k d;
    })
held_report w k q c d v link hold how whole there step none some is ticket less condemned hasty f =
    let p = Place.Link (with_hold link hold) in
    let u = with_place v.links c.ticket.at p in
    let h = ticket_process w k q c v link f there is.there ticket in
    let is_link : (l : Link) → place_at u c.ticket.at ≡ Some (Place.Link l) → with_hold link hold ≡ l =
    λ l e. same_link (with_hold link hold) l (written_at v.links c.ticket.at (Place.Link link) p (Place.Link l) _ ticket.at e) in
    report_kept w k q c d v u whole (record {
      there = there;
      step = step;
      node = is;
      moves = record { incarnation = refl; places = λ j n. place_there v.links c.ticket.at j p _ n };
      link = omega arith;
      ticket = omega arith;
      grips = grips_held v.links c.ticket.at link hold ticket.at;
      here = λ l e. subst (λ (z : Link). (b : ℕ) × IsProcess w.group (processes_of w) v.me z b
          × LinkStands (faces_of w) (lasts_of w) (set w.connections k d) v z b) (is_link l e) (
            h.0,
            process_again link (with_hold link hold) h.0 refl refl h.1,
            less_stands w k c d v link (with_hold link hold) h.0 how there h.3 none some h.2 less condemned hasty
                (λ slot g. g),
          );
      rest = λ l j b e free at_j of. f.loads.rest q v is.there c.ticket.at link j b ticket.at
          (ap (λ (z : Link). is_with_client z.state) (is_link l e) ∙ free) at_j
          (of ∙ ap (λ (z : Link). Some z.details) (sym (is_link l e)));
    }) f

-- the quarantined link of the ticket is idle, or leaves the pool
freed_report : (w : World) (k q : ℕ) (c d : Connection) (v : NodeView) (link : Link) (p : Place) (how : Report)
    → AreWhole w.nodes → slice_get w.connections k ≡ Some c → Advances c d → c.report ≡ None
    → d.report ≡ Some how → IsNode w.nodes c.ticket.peer q v → IsTicket c.ticket link v.links
    → is_quarantined link.state ≡ true
    → ((l : Link) → p ≡ Place.Link l
    → (l ≡ in_state LinkState.Idle (with_hold link (one_less link.hold))) × (d.acted ≡ true))
    → Facts w
    → Facts (record w {
      nodes = set w.nodes q (with_links v (nothing_for (giver_of link.state) (with_place v.links c.ticket.at p)));
      connections = set w.connections k d;
    })
freed_report w k q c d v link p how whole there step none some is ticket quarantined idle f =
    let free = apart_if_quarantined link.state quarantined in
    let u = nothing_for (giver_of link.state) (with_place v.links c.ticket.at p) in
    let new : Link = in_state LinkState.Idle (with_hold link (one_less link.hold)) in
    let h = ticket_process w k q c v link f there is.there ticket in
    let is_link : (l : Link) → place_at u c.ticket.at ≡ Some (Place.Link l) → p ≡ Place.Link l =
    λ l e. written_at v.links c.ticket.at (Place.Link link) p (Place.Link l) _ ticket.at e in
    let some_ticket = ticket.some in
    report_kept w k q c d v u whole (record {
      there = there;
      step = step;
      node = is;
      moves = record { incarnation = refl; places = λ j n. place_there v.links c.ticket.at j p _ n };
      link = omega arith;
      ticket = omega arith;
      grips = grips_apart v.links c.ticket.at link p (giver_of link.state) ticket.at free;
      here = λ l e.
          let is_new = idle l (is_link l e) in
          subst (λ (z : Link). (b : ℕ) × IsProcess w.group (processes_of w) v.me z b
          × LinkStands (faces_of w) (lasts_of w) (set w.connections k d) v z b) (sym is_new.0) (
            h.0,
            process_again link new h.0 refl refl h.1,
            less_stands w k c d v link new h.0 how there h.3 none some h.2 (omega (arith, some_ticket)) (λ x. x)
                (λ x. absurd (differ (sym is_new.1 ∙ x))) (λ slot g. absurd (idle_or_given slot g)),
          );
      rest = λ l j b e without at_j of.
          let is_new = idle l (is_link l e) in
          f.loads.rest q v is.there c.ticket.at link j b ticket.at free at_j
          (of ∙ ap (λ (z : Link). Some z.details) is_new.0);
    }) f
  where
    differ : true ≡ false → ⊥
    differ h = cc

    idle_or_given : (slot : ℕ) → LinkState.Idle ≡ LinkState.Quarantined (Some slot) → ⊥
    idle_or_given slot h = cc

-- the ticket is stale: its link is gone
stale_report : (w : World) (k q : ℕ) (c d : Connection) (v : NodeView)
    → AreWhole w.nodes → slice_get w.connections k ≡ Some c → Advances c d → c.report ≡ None
    → IsNode w.nodes c.ticket.peer q v → StaleTicket c.ticket v.links → Facts w
    → Facts (record w { nodes = set w.nodes q (with_links v v.links); connections = set w.connections k d })
stale_report w k q c d v whole there step none is stale f =
    report_kept w k q c d v v.links whole (record {
      there = there;
      step = step;
      node = is;
      moves = record { incarnation = refl; places = λ j n. refl };
      link = omega arith;
      ticket = omega arith;
      grips = λ s g fits. fits;
      here = λ l e.
          let h = f.links q v is.there c.ticket.at l e in (
            h.0,
            h.1,
            other_stands w k c d v v l h.0 there step (λ same.
                let mine = ticket_link w k q q c v v c.ticket.at l f whole there is is.there e
                (subst (IsProcess w.group (processes_of w) v.me l) (sym same) h.1) in
                let more = one_open w.connections k h.0 c there same none in
                let tickets = h.2.tickets in
                stale l (record { at = e; says = mine.2; some = omega (arith, more, tickets) })) refl refl h.2,
          );
      rest = λ l j b e free at_j of. f.loads.rest q v is.there c.ticket.at l j b e free at_j of;
    }) f

-- the clean end of a connection is reported
told_by : (w new : World) (nodes : List NodeView) (k q : ℕ) (c : Connection) (v n : NodeView) (given : EndedReply)
    → Facts w → AreWhole w.nodes → slice_get w.connections k ≡ Some c → c.report ≡ None
    → c.ended ≡ true → IsNode w.nodes c.ticket.peer q v → LinksStep (EndedStep c.ticket given) v n
    → nodes ≡ set w.nodes q n
    → new ≡ with_connection k (record c { report = Some Report.Clean }) (with_nodes nodes w) → Facts new
told_by w new nodes k q c v n given f whole there none ended is step all after = by_reply given step
  where
    acted : c.acted ≡ true
    acted = (f.connections.each k c there).acted ended

    differ : true ≡ false → ⊥
    differ h = cc

    advances : Advances c (record c { report = Some Report.Clean })
    advances = record {
      server = refl;
      key = refl;
      backend = refl;
      holder = refl;
      arrival = refl;
      ticket = refl;
      waits = λ e. e;
      ending = λ e. e;
      acted = (f.connections.each k c there).acted;
      clean = λ e. ended;
    }

    is_idle : (x : Link) (l : Link) → Place.Link x ≡ Place.Link l → l ≡ x
    is_idle x l h = cc

    by_reply : (given : EndedReply) → LinksStep (EndedStep c.ticket given) v n → Facts new
    by_reply EndedReply.Freed step =
        subst Facts (sym (reported_is w new nodes k q (record c { report = Some Report.Clean }) v n _ after all step.1 step.0.4))
        (freed_report w k q c (record c { report = Some Report.Clean }) v step.0.0 _ Report.Clean whole there advances none refl is step.0.1 step.0.2
        (λ l e. (is_idle _ l e, acted)) f)
    by_reply EndedReply.Counted step =
        let some = step.0.1.some in
        subst Facts (sym (reported_is w new nodes k q (record c { report = Some Report.Clean }) v n _ after all step.1 step.0.3))
        (held_report w k q c (record c { report = Some Report.Clean }) v step.0.0 (one_less step.0.0.hold) Report.Clean whole there advances none refl is step.0.1
        (omega (arith, some)) (λ x. x) (λ x. absurd (differ (sym acted ∙ x))) f)
    by_reply EndedReply.Stale step =
        subst Facts (sym (reported_is w new nodes k q (record c { report = Some Report.Clean }) v n v.links after all step.1 step.0.1))
        (stale_report w k q c (record c { report = Some Report.Clean }) v whole there advances none is step.0.0 f)
    by_reply EndedReply.Exhausted step = absurd step.0

pub told_kept : (old new : World) (place : ℕ) (said : Reply) (connection : Connection) → AreWhole old.nodes
    → IsUnreported old place connection → connection.ended ≡ true → Tells place said old new
    → Facts old → Facts new
told_kept old new place said connection whole may ended does f =
    let r = does.reports in
    let same : connection ≡ r.connection = same_Some connection r.connection (sym may.there ∙ r.there) in
    told_by old new r.nodes place r.step.place r.connection r.step.view r.step.next does.given f whole r.there
    (ap (λ (c : Connection). c.report) (sym same) ∙ may.unreported)
    (ap (λ (c : Connection). c.ended) (sym same) ∙ ended) r.step.is r.step.step r.step.after r.after

-- that a connection broke is reported
broken_by : (w new : World) (nodes : List NodeView) (k q : ℕ) (c : Connection) (v n : NodeView) (given : FailedReply (Unit {0}))
    → Facts w → AreWhole w.nodes → slice_get w.connections k ≡ Some c → c.report ≡ None
    → IsNode w.nodes c.ticket.peer q v → LinksStep (FailedStep c.ticket given) v n
    → nodes ≡ set w.nodes q n
    → new ≡ with_connection k (record c { report = Some Report.Fault }) (with_nodes nodes w) → Facts new
broken_by w new nodes k q c v n given f whole there none is step all after = by_reply given step
  where
    no_clean : Some Report.Fault ≡ Some Report.Clean → ⊥
    no_clean h = cc

    no_link : (l : Link) → Place.Free ≡ Place.Link l → ⊥
    no_link l h = cc

    advances : Advances c (record c { report = Some Report.Fault })
    advances = record {
      server = refl;
      key = refl;
      backend = refl;
      holder = refl;
      arrival = refl;
      ticket = refl;
      waits = λ e. e;
      ending = λ e. e;
      acted = (f.connections.each k c there).acted;
      clean = λ e. absurd (no_clean e);
    }

    by_reply : (given : FailedReply (Unit {0})) → LinksStep (FailedStep c.ticket given) v n → Facts new
    by_reply FailedReply.Condemned step =
        let some = step.0.2.some in
        subst Facts (sym (reported_is w new nodes k q (record c { report = Some Report.Fault }) v n _ after all step.1 step.0.4))
        (held_report w k q c (record c { report = Some Report.Fault }) v step.0.0 (one_failed step.0.0.hold) Report.Fault whole there advances none refl is step.0.2
        (omega (arith, some)) (λ x. refl) (λ x. refl) f)
    by_reply (FailedReply.Closed stream) step =
        subst Facts (sym (reported_is w new nodes k q (record c { report = Some Report.Fault }) v n _ after all step.1 step.0.3))
        (freed_report w k q c (record c { report = Some Report.Fault }) v step.0.0 Place.Free Report.Fault whole there advances none refl is step.0.1 step.0.2
        (λ l e. absurd (no_link l e)) f)
    by_reply FailedReply.Stale step =
        subst Facts (sym (reported_is w new nodes k q (record c { report = Some Report.Fault }) v n v.links after all step.1 step.0.1))
        (stale_report w k q c (record c { report = Some Report.Fault }) v whole there advances none is step.0.0 f)
    by_reply FailedReply.Exhausted step = absurd step.0

pub broken_kept : (old new : World) (place : ℕ) (said : Reply) (connection : Connection) → AreWhole old.nodes
    → IsUnreported old place connection → Breaks place said old new → Facts old → Facts new
broken_kept old new place said connection whole may does f =
    let r = does.reports in
    let same : connection ≡ r.connection = same_Some connection r.connection (sym may.there ∙ r.there) in
    broken_by old new r.nodes place r.step.place r.connection r.step.view r.step.next does.given f whole r.there
    (ap (λ (c : Connection). c.report) (sym same) ∙ may.unreported)
    r.step.is r.step.step r.step.after r.after
