-- The calls by which what clients have is handed back, and that a node to which they came makes no
-- others.
use Rattle.std.proofs.Common.{ℕ, ◌≡◌, List, [], ◌∷◌, ◌++◌, Option, Some, None, refl, sym, ap, ◌∙◌, subst}
use Rattle.lease.specs.declared.link_record.LinkRecord.{LinkRecord}
use Rattle.lease.specs.declared.pass.PassRecord.{PassRecord}
use Rattle.lease.specs.declared.ticket.TicketRecord.{TicketRecord}
use Rattle.link_pool.specs.declared.replies.CloseReply.TheVariants as closing
use Rattle.link_pool.specs.declared.replies.FailedReply.TheVariants as failing
use Rattle.node_core.specs.View.{NodeView}
use Rattle.node_core.specs.NodeStep.{NodeStep}
use Rattle.node_core.specs.declared.exchange.LeaveReply.{LeaveReply}
use Rattle.node_core.specs.declared.exchange.LeaveReply.TheVariants as leaving
use Rattle.node_core.specs.declared.exchange.Exchange.{Exchange}
use Rattle.node_core.specs.declared.exchange.Exchange.TheVariants.{Leave, Close, Failed}
use Rattle.locked_node.specs.Lock.{CallerView, CallerStep}
use Rattle.answer.specs.declared.fault.Reply.{Reply}
use Rattle.answer.specs.Attended.{Rests, Asked}
use Rattle.answer.specs.Decision.{Calls, Cannot, Closes, Goes, IsLast, Leaves, Leads, Makes, Reports, SomeRest, Trips, WasAsked, reply_of, leave_reply}
use Rattle.answer.proofs.CallLemmas.{makes_none, makes_one, makes_then, leads_none, leads_one, leads_then, cannot_trip, cannot_then, cannot_of}
use Rattle.answer.proofs.ClientSteps.{leave_expected, leave_leads}
use Rattle.answer.proofs.BackSteps.{failed_expected, failed_leads, close_expected, close_leads}

-- ---- the request

pub reports_none : (caller : CallerView) → Reports caller None caller
reports_none caller = record {
  calls = [];
  makes = makes_none caller;
  leads = λ passes leases first last asked end. subst (Rests passes leases) (sym end) asked.0;
}

pub reports_one : (ticket : TicketRecord) (old new : CallerView)
    → CallerStep old (Failed ticket failing.Condemned) new → Reports old (Some ticket) new
reports_one ticket old new step = record {
  calls = Failed ticket failing.Condemned ∷ [];
  makes = makes_one old (Failed ticket failing.Condemned) new step;
  leads = λ passes leases. leads_one (Asked passes leases (Some ticket))
      (Asked passes leases (Some ticket)) (Rests passes leases) (Failed ticket failing.Condemned)
      (λ v w asked stepped. failed_leads passes leases ticket v w (Unit {0}) asked stepped);
}

pub cannot_report : (ticket : TicketRecord) (given : Reply) (old new : CallerView)
    → Trips old (λ said. Failed ticket said) given new → Cannot (WasAsked (Some ticket)) old new
cannot_report ticket given old new trips =
    cannot_trip (WasAsked (Some ticket)) (λ said. Failed ticket said) given old new trips
    (λ v w reply before step says.
    let is = failed_expected before.0 before.1 ticket v w _ reply before.2 step in
    let none : None ≡ Some given = ap (λ r. reply_of (Failed ticket r)) (sym is) ∙ says in
    absurd (cc))

-- ---- links

pub closes_none : (leases : List LinkRecord) (caller : CallerView) → Closes caller leases leases caller
closes_none leases caller = record {
  calls = [];
  makes = makes_none caller;
  leads = λ passes. leads_none (Rests passes leases);
}

-- one more is closed
pub closes_push : (all had left : List LinkRecord) (lease : LinkRecord) (old middle new : CallerView)
    → Closes old all had middle → had ≡ left ++ lease ∷ []
    → CallerStep middle (Close lease (closing.Closed tt)) new → Closes old all left new
closes_push all had left lease old middle new closes last step =
    let call = Close lease (closing.Closed tt) in
    record {
      calls = closes.calls ++ call ∷ [];
      makes = makes_then old middle new closes.calls (call ∷ []) closes.makes
          (makes_one middle call new step);
      leads = λ passes. leads_then (Rests passes all) (Rests passes had) (Rests passes left)
          closes.calls (call ∷ []) (closes.leads passes)
          (leads_one (Rests passes had) (Rests passes had) (Rests passes left) call
          (λ v w rests stepped. close_leads passes left lease v w (Unit {0}) tt
          (subst (λ ls. Rests passes ls v) last rests) stepped));
    }

pub cannot_close : (all had left : List LinkRecord) (lease : LinkRecord) (given : Reply)
    (old middle new : CallerView) → Closes old all had middle → had ≡ left ++ lease ∷ []
    → Trips middle (λ said. Close lease said) given new → Cannot (SomeRest all) old new
cannot_close all had left lease given old middle new closes last trips =
    cannot_then (SomeRest all) (SomeRest had) old middle new closes.calls closes.makes
    (λ first end some replay. (some.0, closes.leads some.0 first end some.1 replay))
    (cannot_trip (SomeRest had) (λ said. Close lease said) given middle new trips
    (λ v w reply before step says.
    let is = close_expected before.0 left lease v w _ reply
    (subst (λ ls. Rests before.0 ls v) last before.1) step in
    let none : None ≡ Some given = ap (λ r. reply_of (Close lease r)) (sym is.1) ∙ says in
    absurd (cc)))

-- ---- clients

-- a client that has nothing leaves at once
leaves_at_once : (pass : PassRecord) (given : Reply) (v w : NodeView) (reply : LeaveReply PassRecord)
    → IsLast pass v → NodeStep v (Leave pass reply) w → reply_of (Leave pass reply) ≡ Some given → ⊥
leaves_at_once pass given v w reply last step says =
    let is = leave_expected last.0 pass v w reply last.1 step in
    let none : None ≡ Some given = ap (λ r. reply_of (Leave pass r)) (sym is) ∙ says in absurd (cc)

pub cannot_leave : (pass : PassRecord) (given : Reply) (old new : CallerView)
    → Trips old (λ said. Leave pass said) given new → Cannot (IsLast pass) old new
cannot_leave pass given old new trips =
    cannot_trip (IsLast pass) (λ said. Leave pass said) given old new trips
    (leaves_at_once pass given)

pub goes_one : (pass : PassRecord) (held : Option PassRecord) (old new : CallerView) → held ≡ None
    → CallerStep old (Leave pass (leave_reply held)) new → Goes old pass new
goes_one pass held old new none said =
    let call = Leave pass leaving.Left in
    let step : CallerStep old call new =
    subst (λ h. CallerStep old (Leave pass (leave_reply h)) new) none said in
    record {
      calls = call ∷ [];
      makes = makes_one old call new step;
      leads = λ passes. leads_one (Rests (passes ++ pass ∷ []) []) (Rests (passes ++ pass ∷ []) [])
          (Rests passes []) call (λ v w rests stepped. leave_leads passes pass v w rests stepped);
    }

-- it isn't asked a second time
pub cannot_hold : (pass again : PassRecord) (held : Option PassRecord) (more : List Exchange)
    (old middle new : CallerView) → held ≡ Some again
    → CallerStep old (Leave pass (leave_reply held)) middle → Makes middle more new
    → Cannot (IsLast pass) old new
cannot_hold pass again held more old middle new some said makes =
    let call = Leave pass (leaving.Holding again) in
    let step : CallerStep old call middle =
    subst (λ h. CallerStep old (Leave pass (leave_reply h)) middle) some said in
    record {
      calls = call ∷ more;
      makes = makes_then old middle new (call ∷ []) more (makes_one old call middle step) makes;
      never = leads_then (IsLast pass) (λ _. ⊥) (λ _. ⊥) (call ∷ []) more
          (leads_one (IsLast pass) (IsLast pass) (λ _. ⊥) call
          (λ v w last stepped. leaves_at_once pass _ v w (leaving.Holding again) last stepped refl))
          (λ first last never replay. never);
    }

pub goes_never : (pass : PassRecord) (old new : CallerView) → Cannot (IsLast pass) old new
    → Goes old pass new
goes_never pass old new cannot = record {
  calls = cannot.calls;
  makes = cannot.makes;
  leads = λ passes first last rests replay. absurd (cannot.never first last (passes, rests) replay);
}

pub leaves_none : (passes : List PassRecord) (caller : CallerView)
    → Leaves caller passes passes caller
leaves_none passes caller = record {
  calls = [];
  makes = makes_none caller;
  leads = leads_none (Rests passes []);
}

-- one more leaves
pub leaves_push : (all had left : List PassRecord) (pass : PassRecord) (old middle new : CallerView)
    → Leaves old all had middle → had ≡ left ++ pass ∷ [] → Goes middle pass new
    → Leaves old all left new
leaves_push all had left pass old middle new leaves last goes = record {
  calls = leaves.calls ++ goes.calls;
  makes = makes_then old middle new leaves.calls goes.calls leaves.makes goes.makes;
  leads = leads_then (Rests all []) (Rests had []) (Rests left []) leaves.calls goes.calls
      leaves.leads
      (λ first end rests replay. goes.leads left first end
      (subst (λ ps. Rests ps [] first) last rests) replay);
}

pub cannot_go : (all had left : List PassRecord) (pass : PassRecord) (old middle new : CallerView)
    → Leaves old all had middle → had ≡ left ++ pass ∷ [] → Cannot (IsLast pass) middle new
    → Cannot (Rests all []) old new
cannot_go all had left pass old middle new leaves last cannot =
    cannot_then (Rests all []) (Rests had []) old middle new leaves.calls leaves.makes leaves.leads
    (cannot_of (Rests had []) (IsLast pass) middle new
    (λ v rests. (left, subst (λ ps. Rests ps [] v) last rests)) cannot)

-- ---- all

module _ (passes : List PassRecord) (leases : List LinkRecord) (ticket : Option TicketRecord)
    (old reported : CallerView) where
  pub cannot_report_asked : Cannot (WasAsked ticket) old reported
      → Cannot (Asked passes leases ticket) old reported
  cannot_report_asked cannot = cannot_of (Asked passes leases ticket) (WasAsked ticket) old reported
      (λ v asked. (passes, leases, asked)) cannot

  pub cannot_close_asked : (closed : CallerView) → Reports old ticket reported
      → Cannot (SomeRest leases) reported closed → Cannot (Asked passes leases ticket) old closed
  cannot_close_asked closed reports cannot =
      cannot_then (Asked passes leases ticket) (Rests passes leases) old reported closed
      reports.calls reports.makes (reports.leads passes leases)
      (cannot_of (Rests passes leases) (SomeRest leases) reported closed
      (λ v rests. (passes, rests)) cannot)

  pub cannot_leave_asked : (closed left : CallerView) → Reports old ticket reported
      → Closes reported leases [] closed → Cannot (Rests passes []) closed left
      → Cannot (Asked passes leases ticket) old left
  cannot_leave_asked closed left reports closes cannot =
      cannot_then (Asked passes leases ticket) (Rests passes leases) old reported left
      reports.calls reports.makes (reports.leads passes leases)
      (cannot_then (Rests passes leases) (Rests passes []) reported closed left closes.calls
      closes.makes (closes.leads passes) cannot)

  pub calls_all : (closed left : CallerView) → Reports old ticket reported
      → Closes reported leases [] closed → Leaves closed passes [] left → Calls old left
  calls_all closed left reports closes leaves = record {
    calls = reports.calls ++ (closes.calls ++ leaves.calls);
    makes = makes_then old reported left reports.calls (closes.calls ++ leaves.calls) reports.makes
        (makes_then reported closed left closes.calls leaves.calls closes.makes leaves.makes);
  }
