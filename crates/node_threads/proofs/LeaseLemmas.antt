-- What is known of the lease that a client got.
use Rattle.std.proofs.Common.{ℕ, ◌≡◌, ◌⊎◌, inl, inr, List, Option, Some, None, IfSome, refl, ap, sym, ◌∙◌, subst}
use Rattle.lease.specs.LinkValue.{LinkValue}
use Rattle.lease.specs.declared.link_place.LinkPlace.{LinkPlace}
use Rattle.lease.specs.declared.pass.PassRecord.{PassRecord}
use Rattle.lease.specs.declared.permit.PermitRecord.{PermitRecord}
use Rattle.link_pool.specs.Said.{acquire_said, up_said}
use Rattle.link_pool.specs.declared.replies.AcquireReply.{AcquireReply}
use Rattle.link_pool.specs.declared.replies.AcquireReply.TheVariants as acquire
use Rattle.link_pool.specs.declared.replies.UpReply.{UpReply}
use Rattle.link_pool.specs.declared.replies.UpReply.TheVariants as up
use Rattle.lease.specs.declared.link_record.LinkRecord.{LinkRecord}
use Rattle.node_core.specs.declared.exchange.Exchange.TheVariants as step
use Rattle.locked_node.specs.Lock.{CallerView, Counted}
use Rattle.startup.specs.declared.error_code.ErrorCode.{ErrorCode}
use Rattle.startup.specs.declared.error_code.ErrorCode.TheVariants.{TooManyConnections}
use Rattle.session_io.specs.LinkView.{LinkView}
use Rattle.node_threads.specs.Balance.{Balanced, nothing}
use Rattle.node_threads.specs.Meaning.{Meaning, IsLoggedIn, Logins, logins as logins_of, IsThisLogin}
use Rattle.node_threads.specs.Leasing.{OfLease, WasAnswered, WentUp, IsGiven, IsUnopened, IsDenied, IsAnswer, IsOpened, IsKept}
use Rattle.node_threads.specs.declared.session.leases.Acquired.{Acquired}
use Rattle.node_threads.specs.declared.session.leases.Acquired.TheVariants.{Lease, Cancelled, Refused, Ended}
use Rattle.node_threads.proofs.Balancing.{moves_on, moves_nothing}
use Rattle.node_threads.proofs.Told.{said-counted}

-- what follows of a lease from three facts about it
pub of_lease : {L : Type 0} (A B C D : L → Type 0)
    → ((lease : L) → A lease → B lease → C lease → D lease) → (acquired : Acquired L)
    → OfLease A acquired → OfLease B acquired → OfLease C acquired → OfLease D acquired
of_lease A B C D all (Lease lease) a b c = all lease a b c
of_lease A B C D all Cancelled a b c = tt
of_lease A B C D all (Refused code) a b c = tt
of_lease A B C D all Ended a b c = tt

-- a link at the same place, over the same stream
pub same_link : {T : Type 0} (m : Meaning T) (key : List ℕ) (at is : LinkPlace)
    (link opened : LinkView T) → at ≡ is → link ≡ opened
    → IsLoggedIn m is.database key opened.stream → IsLoggedIn m at.database key link.stream
same_link m key at is link opened place stream logged =
    subst (λ (l : LinkView _). IsLoggedIn m at.database key l.stream) (sym stream)
    (subst (λ (p : LinkPlace). IsLoggedIn m p.database key opened.stream) (sym place) logged)

-- the node was asked for a link, or told that one is up
pub was_answered : {S : Type 0} (pass : PassRecord)
    (reply : AcquireReply (LinkValue S) PermitRecord) (old new : CallerView)
    → Counted (step.Acquire pass (acquire_said reply)) reply acquire.Exhausted old new
    → WasAnswered pass (acquire_said reply) old new
was_answered pass reply old new counted =
    (old, moves_nothing nothing old old refl, said-counted acquire_said _ _ _ _ _ counted)

pub went_up : {S : Type 0} (permit : PermitRecord) (key : List ℕ) (stream : S)
    (reply : UpReply (LinkValue S) PermitRecord S) (old new : CallerView)
    → Counted (step.Up permit key (up_said reply)) reply (up.AtEnd stream) old new
    → WentUp (IsThisLogin permit.at.database key) permit (up_said reply) old new
went_up permit key stream reply old new counted =
    (key, (refl, refl), said-counted up_said _ _ _ _ _ counted)

-- a client that has something already, or for whom no number is left
pub is_denied : {S : Type 0} (logins : Logins) (pass : PassRecord)
    (reply : AcquireReply (LinkValue S) PermitRecord)
    (old new : CallerView) → (reply ≡ acquire.Holding) ⊎ (reply ≡ acquire.Exhausted)
    → Counted (step.Acquire pass (acquire_said reply)) reply acquire.Exhausted old new
    → IsDenied logins pass TooManyConnections old new
is_denied {S} logins pass reply old new is counted =
    let was = was_answered pass reply old new counted in
    let said : AcquireReply (LinkValue S) PermitRecord → AcquireReply _ PermitRecord =
    λ r. acquire_said r in
    inl (elim is [
      | inl holding ↦ (
        acquire.Holding,
        refl,
        subst (λ r. WasAnswered pass r old new) (ap said holding)
            was,
      )
      | inr none ↦ (
        acquire.Exhausted,
        refl,
        subst (λ r. WasAnswered pass r old new) (ap said none) was,
      )
    ])

-- the login that gave this key at this database is one of these
pub is_login : {T : Type 0} (m : Meaning T) (database at : ℕ) (key : List ℕ) (stream : T)
    → database ≡ at → IsLoggedIn m database key stream
    → (number : ℕ) (given : List ℕ) → IsThisLogin at key number given → logins_of m number given
is_login m database at key stream is logged number given this = (
  stream,
  subst (λ (k : List ℕ). IsLoggedIn m number k stream) (sym this.1)
      (subst (λ n. IsLoggedIn m n key stream) (is ∙ sym this.0) logged),
)

went_up_by : (P Q : Logins) (permit : PermitRecord)
    (reply : UpReply LinkRecord PermitRecord (Unit {0})) (old new : CallerView)
    → ((number : ℕ) (given : List ℕ) → P number given → Q number given)
    → WentUp P permit reply old new → WentUp Q permit reply old new
went_up_by P Q permit reply old new all up = (up.0, all permit.at.database up.0 up.1, up.2)

unopened_by : (P Q : Logins) (permit : PermitRecord) (code : ErrorCode) (old new : CallerView)
    → ((number : ℕ) (given : List ℕ) → P number given → Q number given)
    → IsUnopened P permit code old new → IsUnopened Q permit code old new
unopened_by P Q permit code old new all is = elim is [
  | inl denied ↦ inl (
    denied.0,
    denied.1,
    went_up_by P Q permit denied.0 old new all denied.2,
  )
  | inr rest ↦ elim rest [
    | inl back ↦ inr (inl (
      back.0,
      back.1,
      went_up_by P Q permit (up.Exhausted back.0 tt) old back.1 all back.2,
      back.3,
      back.4,
    ))
    | inr failed ↦ inr (inr failed)
  ]
]

-- what came of a permit, where logins of one kind are of another
pub opened_by : {L : Type 0} (P Q : Logins) (permit : PermitRecord)
    (opened : Acquired (LinkValue L)) (old new : CallerView)
    → ((number : ℕ) (given : List ℕ) → P number given → Q number given)
    → IsOpened P permit opened old new → IsOpened Q permit opened old new
opened_by P Q permit (Lease lease) old new all is =
    (is.0, went_up_by P Q permit (up.Up lease.details) old new all is.1)
opened_by P Q permit Cancelled old new all is = absurd is
opened_by P Q permit (Refused code) old new all is = unopened_by P Q permit code old new all is
opened_by P Q permit Ended old new all is = tt

-- what came of a permit is the node's answer
pub opened_answer : {L : Type 0} (logins : Logins) (pass : PassRecord) (permit : PermitRecord)
    (opened : Acquired (LinkValue L)) (old asked new : CallerView)
    → WasAnswered pass (acquire.Open permit) old asked → IsOpened logins permit opened asked new
    → IsAnswer logins pass opened old new
opened_answer logins pass permit (Lease lease) old asked new was is =
    inr (permit, asked, was, is.0, is.1)
opened_answer logins pass permit Cancelled old asked new was is = absurd is
opened_answer logins pass permit (Refused code) old asked new was is = inr (permit, asked, was, is)
opened_answer logins pass permit Ended old asked new was is = tt

-- and stays so
pub kept_answer : {L : Type 0} (logins : Logins) (pass : PassRecord)
    (opened result : Acquired (LinkValue L)) (old middle new : CallerView)
    → IsAnswer logins pass opened old middle → IsKept opened result middle new
    → IsAnswer logins pass result old new
kept_answer {L} logins pass opened result old middle new answer kept = elim kept [
  | inl same ↦ subst (λ (v : CallerView). IsAnswer logins pass result old v) (sym same.1)
      (subst (λ (r : Acquired (LinkValue L)). IsAnswer logins pass r old middle) (sym same.0)
      answer)
  | inr ended ↦ subst (λ (r : Acquired (LinkValue L)). IsAnswer logins pass r old new) (sym ended)
      tt
]

pub kept_answers : {L : Type 0} (logins : Logins) (pass : PassRecord)
    (opened : Acquired (LinkValue L))
    (found : Option (Acquired (LinkValue L))) (old middle new : CallerView)
    → IsAnswer logins pass opened old middle
    → IfSome found (λ result. IsKept opened result middle new)
    → IfSome found (λ result. IsAnswer logins pass result old new)
kept_answers logins pass opened None old middle new answer kept = tt
kept_answers logins pass opened (Some result) old middle new answer kept =
    kept_answer logins pass opened result old middle new answer kept

-- the node's answer to a client that held nothing before it asked
later_was : (pass : PassRecord) (reply : AcquireReply LinkRecord PermitRecord)
    (old middle new : CallerView) → Balanced old middle → WasAnswered pass reply middle new
    → WasAnswered pass reply old new
later_was pass reply old middle new moves was =
    (was.0, moves_on nothing nothing nothing old middle was.0 moves was.1, was.2)

later_given : (logins : Logins) (pass : PassRecord) (link : LinkRecord)
    (old middle new : CallerView) → Balanced old middle → IsGiven logins pass link middle new
    → IsGiven logins pass link old new
later_given logins pass link old middle new moves given = elim given [
  | inl got ↦ inl (later_was pass (acquire.Got link) old middle new moves got)
  | inr is ↦ inr (
    is.0,
    is.1,
    later_was pass (acquire.Open is.0) old middle is.1 moves is.2,
    is.3,
    is.4,
  )
]

later_denied : (logins : Logins) (pass : PassRecord) (code : ErrorCode)
    (old middle new : CallerView) → Balanced old middle → IsDenied logins pass code middle new
    → IsDenied logins pass code old new
later_denied logins pass code old middle new moves denied = elim denied [
  | inl is ↦ inl (is.0, is.1, later_was pass is.0 old middle new moves is.2)
  | inr is ↦ inr (
    is.0,
    is.1,
    later_was pass (acquire.Open is.0) old middle is.1 moves is.2,
    is.3,
  )
]

pub later_answer : {L : Type 0} (logins : Logins) (pass : PassRecord)
    (result : Acquired (LinkValue L)) (old middle new : CallerView) → Balanced old middle
    → IsAnswer logins pass result middle new → IsAnswer logins pass result old new
later_answer logins pass (Lease lease) old middle new moves is =
    later_given logins pass lease.details old middle new moves is
later_answer logins pass Cancelled old middle new moves is =
    later_was pass acquire.Cancelled old middle new moves is
later_answer logins pass (Refused code) old middle new moves is =
    later_denied logins pass code old middle new moves is
later_answer logins pass Ended old middle new moves is = tt
