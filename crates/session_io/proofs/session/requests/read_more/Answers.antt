use Rattle.std.proofs.Common.{◌≡◌, ◌∙◌, ℕ, List, refl, ap, inr, [], ◌∷◌, append-nil, arith}
use Rattle.pg_frames.specs.Pending.{Pending, with_piece}
use Rattle.session_io.proofs.CallLists.{Read-nothing, one_read, no_read, reads_nothing}
use Rattle.session_io.proofs.FaultLemmas.{fault_here}
use Rattle.session_io.proofs.AskingLemmas.{quits_faulty, quits_at_end}
use Rattle.session_io.proofs.session.requests.read_more.Goals as goal

pub returns-in-Some-clause-ends : goal.returns-in-Some-clause-ends
returns-in-Some-clause-ends g c = (
  [],
  refl,
  quits_faulty _ c.args.cutter.now.bytes c.in-Some.error _ c.requires.none c.in-Some.ensures.stands
      c.refusal.ensures,
)

pub returns-then-count-eq0-clause-ends : goal.returns-then-count-eq0-clause-ends
returns-then-count-eq0-clause-ends g c =
    let call =
    no_read g.C.WriteCalls.wrote g.C.ReadCalls.gave c.args.client.now c.read_from.new.stream
    c.in-Ok.count (λ (piece : List ℕ). c.read_from.new.self ≡ with_piece c.args.cutter.now piece)
    c.in-Ok.ensures.ok c.if-count-eq0.true in
    let nothing = reads_nothing g.C.ReadCalls.gave c.args.client.now c.read_from.new.stream
    c.in-Ok.count (λ (piece : List ℕ). c.read_from.new.self ≡ with_piece c.args.cutter.now piece)
    c.in-Ok.ensures.ok c.if-count-eq0.true in (
      call.0 ∷ [],
      call.1,
      quits_at_end _ c.args.cutter.now.bytes call.0 _ _ call.2
          (fault_here _ c.args.cutter.now.bytes _ c.requires.none c.in_default.ensures.stands)
          (ap (λ (p : Pending). p.bytes) nothing ∙ append-nil c.args.cutter.now.bytes)
          c.nothing-then-count-eq0.ensures,
    )

pub returns-clause-more : goal.returns-clause-more
returns-clause-more g c none =
    let read =
    one_read g.C.WriteCalls.wrote g.C.ReadCalls.gave c.args.client.now c.read_from.new.stream
    c.in-Ok.count (λ (piece : List ℕ). c.read_from.new.self ≡ with_piece c.args.cutter.now piece)
    c.in-Ok.ensures.ok (omega (arith, c.if-count-eq0.false)) in
    (read.0 ∷ [], read.1, (read.2, read.3, read.4))

pub returns-in_default-read_from-clause-ends : goal.returns-in_default-read_from-clause-ends
returns-in_default-read_from-clause-ends g c = (
  [],
  c.in_default-read_from.ensures.unread,
  inr (inr ([], Read-nothing, c.nothing.ensures)),
)
