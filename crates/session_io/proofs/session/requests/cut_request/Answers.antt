use Rattle.std.proofs.Common.{◌∙◌, ◌++◌, ◌<◌, ℕ, Ok, refl, sym, ap, subst, length, arith}
use Rattle.pg_frames.proofs.TextLemmas.{no_frame-short}
use Rattle.pg_frames.specs.FrameText.{text, BeginsNoFrame}
use Rattle.session_io.specs.declared.session.requests.Found.TheVariants.{More, Request, End}
use Rattle.session_io.proofs.FindingLemmas.{finds_more, finds_request, finds_end, gathered_on, some_text, asked_in, ended_in, frame_at}
use Rattle.session_io.proofs.session.requests.cut_request.Goals as goal

pub returns-then-len-eq0-clause-finds : goal.returns-then-len-eq0-clause-finds
returns-then-len-eq0-clause-finds c =
    let short : length c.args.cutter.now.bytes < 5 =
    omega (arith, c.if-len-eq0.true, ap length c.pending-len.ensures) in
    finds_more _ c.args.session.now c.args.cutter.now.bytes _ c.requires.session
    (no_frame-short _ c.args.cutter.now.bytes short) refl

pub returns-in_default-found-clause-finds : goal.returns-in_default-found-clause-finds
returns-in_default-found-clause-finds c =
    let none = c.in-Ok.ensures.none (ap Ok c.in_default-found.is) in
    let no_frame =
    subst (λ (n : ℕ). BeginsNoFrame n c.loop-found.cutter.bytes) c.loop-found.invariant.2 none.0 in
    c.loop-found.invariant.1 More c.loop-found.session c.next.new.self.bytes
    (finds_more _ c.loop-found.session c.loop-found.cutter.bytes _ c.loop-found.invariant.0
    no_frame (ap (λ p. p.bytes) none.1))

pub returns-in-ToLink-clause-finds : goal.returns-in-ToLink-clause-finds
returns-in-ToLink-clause-finds c =
    let came =
    frame_at c.args.session.now.limit _ _ c.in-Some.frame _ _ c.loop-found.invariant.2 c.in-Some.is
    c.in-Ok.ensures.frame in
    let whole =
    came.1 ∙ ap (λ p. text c.in-Some.frame ++ p.bytes) (sym c.recycle.ensures) in
    c.loop-found.invariant.1 (Request c.in-ToLink.request) c.on_client-act.new.self
    c.recycle.new.self.bytes
    (finds_request _ c.loop-found.session _ c.loop-found.cutter.bytes _ c.in-ToLink.request
    c.on_client-act.result c.in-Some.frame (asked_in _ _ c.in-ToLink.is) c.loop-found.invariant.0
    came.0 whole c.on_client-act.ensures)

pub returns-in-Close-clause-finds : goal.returns-in-Close-clause-finds
returns-in-Close-clause-finds c =
    let came =
    frame_at c.args.session.now.limit _ _ c.in-Some.frame _ _ c.loop-found.invariant.2 c.in-Some.is
    c.in-Ok.ensures.frame in
    let whole =
    came.1 ∙ ap (λ p. text c.in-Some.frame ++ p.bytes) (sym c.recycle.ensures) in
    c.loop-found.invariant.1 (End c.in-Close.reply) c.on_client-act.new.self
    c.recycle.new.self.bytes
    (finds_end _ c.loop-found.session _ c.loop-found.cutter.bytes _ c.in-Close.reply
    c.on_client-act.result c.in-Some.frame (ended_in _ _ c.in-Close.is) c.loop-found.invariant.0
    came.0 whole c.on_client-act.ensures)

pub loop-found-smaller-in-ToClient : goal.loop-found-smaller-in-ToClient
loop-found-smaller-in-ToClient c =
    let came =
    frame_at c.args.session.now.limit _ _ c.in-Some.frame _ _ c.loop-found.invariant.2 c.in-Some.is
    c.in-Ok.ensures.frame in
    let whole =
    came.1 ∙ ap (λ p. text c.in-Some.frame ++ p.bytes) (sym c.recycle.ensures) in
    some_text c.in-Some.frame _ _ whole

pub loop-found-preserved-in-ToClient : goal.loop-found-preserved-in-ToClient
loop-found-preserved-in-ToClient c =
    let came =
    frame_at c.args.session.now.limit _ _ c.in-Some.frame _ _ c.loop-found.invariant.2 c.in-Some.is
    c.in-Ok.ensures.frame in
    let whole =
    came.1 ∙ ap (λ p. text c.in-Some.frame ++ p.bytes) (sym c.recycle.ensures) in
    let on =
    gathered_on _ _ c.loop-found.session _ _ c.loop-found.cutter.bytes _ _ c.in-Some.frame
    c.loop-found.invariant.0 came.0 whole c.in-ToClient.ensures c.loop-found.invariant.1 in (
      on.0,
      on.1,
      ap (λ p. p.limit) c.recycle.ensures ∙ c.in-Ok.ensures.limit
          ∙ c.loop-found.invariant.2,
    )

pub loop-found-smaller-in-ToClient-2 : goal.loop-found-smaller-in-ToClient-2
loop-found-smaller-in-ToClient-2 c =
    let came =
    frame_at c.args.session.now.limit _ _ c.in-Some.frame _ _ c.loop-found.invariant.2 c.in-Some.is
    c.in-Ok.ensures.frame in
    let whole =
    came.1 ∙ ap (λ p. text c.in-Some.frame ++ p.bytes) (sym c.recycle.ensures) in
    some_text c.in-Some.frame _ _ whole

pub loop-found-preserved-in-ToClient-2 : goal.loop-found-preserved-in-ToClient-2
loop-found-preserved-in-ToClient-2 c =
    let came =
    frame_at c.args.session.now.limit _ _ c.in-Some.frame _ _ c.loop-found.invariant.2 c.in-Some.is
    c.in-Ok.ensures.frame in
    let whole =
    came.1 ∙ ap (λ p. text c.in-Some.frame ++ p.bytes) (sym c.recycle.ensures) in
    let on =
    gathered_on _ _ c.loop-found.session _ _ c.loop-found.cutter.bytes _ _ c.in-Some.frame
    c.loop-found.invariant.0 came.0 whole c.in-ToClient.ensures c.loop-found.invariant.1 in (
      on.0,
      on.1,
      ap (λ p. p.limit) c.recycle.ensures ∙ c.in-Ok.ensures.limit
          ∙ c.loop-found.invariant.2,
    )
