-- A stay, round after round.
use Rattle.std.proofs.Common.{Option, Result, IfSome, None, Some, ◌≡◌, ℕ, List, [], ◌∷◌, ◌++◌, Ok, Err, refl, sym, ap, ◌∙◌, subst, append_assoc}
use Rattle.peer_forward.specs.Calls.{Call, Effect, Makes}
use Rattle.pg_frames.specs.Passage.{Passage, start}
use Rattle.startup.specs.declared.error_code.ErrorCode.TheVariants.{ConnectionFailure}
use Rattle.client_state.specs.Session.{Session}
use Rattle.session_io.specs.declared.session.outcome.Stayed.{Stayed}
use Rattle.session_io.specs.declared.session.outcome.Stayed.TheVariants.{End}
use Rattle.session_io.specs.StreamCalls.{SomeCalls, Wrote, WroteSome}
use Rattle.session_io.specs.Asking.{IsError}
use Rattle.session_io.specs.Replying.{ReplyEnd, Ready, Replies, WritesReply}
use Rattle.session_io.specs.Progress.{asking, in_transaction, Finishes, EndsHere, GoesOn, LeavesBehind}
use Rattle.session_io.specs.Finding.{AsksNext}
use Rattle.session_io.specs.Stay.{Round, IsRound, Ending, Unsent, Replied, Deserted, Ends, Runs, Stay}
use Rattle.peer_forward.proofs.CallLemmas.{Makes-append}
use Rattle.session_io.proofs.Totals.{stay_of}

-- a reply of which nothing was read or written before
replies : (limit : ℕ) (before : List ℕ) (end : ReplyEnd) (reads tells : List Call)
    → (finishes : Finishes limit before [] end reads tells)
    → Replies limit before finishes.frames end reads tells
replies limit before end reads tells finishes = record {
  each = finishes.each;
  bytes = finishes.bytes;
  bytes_are = finishes.bytes_are;
  read = finishes.read;
  stops = finishes.stops;
  told = subst (λ text. WritesReply end text tells) finishes.text_is finishes.told;
}

-- So far there were rounds, and this is in hand: what follows it follows the rounds.
pub record Staying {L C : Type 0} (limit : ℕ) (wrote gave : Effect L) (wrote' gave' : Effect C)
    (link : L)
    (client : C) (request before kept : List ℕ) (request' before' kept' : List ℕ) (link' : L)
    (client' : C) : Type 0 where
  pub on_link : List Call
  pub made : Makes wrote gave link on_link link'
  pub on_client : List Call
  pub made' : Makes wrote' gave' client on_client client'
  pub rounds : List Round
  pub follows : (more : List Round) (ending : Ending) (calls calls' : List Call)
      (outcome : Stayed) (left : List ℕ)
      → Runs limit more ending request' before' kept' calls calls' outcome left
      → Runs limit (rounds ++ more) ending request before kept (on_link ++ calls) (on_client ++
      calls')
      outcome left

pub staying_start : {L C : Type 0} (limit : ℕ) (wrote gave : Effect L) (wrote' gave' : Effect C)
    (link : L)
    (client : C) (request before kept : List ℕ)
    → Staying limit wrote gave wrote' gave' link client request before kept request before kept link
    client
staying_start limit wrote gave wrote' gave' link client request before kept = record {
  on_link = [];
  made = refl;
  on_client = [];
  made' = refl;
  rounds = [];
  follows = λ more ending calls calls' outcome left runs. runs;
}

-- the end follows the rounds
pub staying_ends : {L C : Type 0} (limit : ℕ) (wrote gave : Effect L) (wrote' gave' : Effect C)
    (link link' link'' : L) (client client' client'' : C) (request before kept : List ℕ)
    (request' before' kept' : List ℕ) (ending : Ending) (calls calls' : List Call)
    (outcome : Stayed) (left : List ℕ)
    → Staying limit wrote gave wrote' gave' link client request before kept request' before' kept'
    link'
    client' → Makes wrote gave link' calls link'' → Makes wrote' gave' client' calls' client''
    → Ends limit ending request' before' kept' calls calls' outcome left
    → SomeCalls wrote gave link link'' (λ on_link. SomeCalls wrote' gave' client client''
    (λ on_client. Stay limit request before kept on_link on_client outcome left))
staying_ends limit wrote gave wrote' gave' link link' link'' client client' client'' request before
    kept
    request' before' kept' ending calls calls' outcome left so_far made made' ends = (
      so_far.on_link ++ calls,
      Makes-append wrote gave link link' link'' so_far.on_link calls so_far.made made,
      (
        so_far.on_client ++ calls',
        Makes-append wrote' gave' client client' client'' so_far.on_client calls' so_far.made'
            made',
        stay_of limit request before kept (so_far.on_link ++ calls) (so_far.on_client ++ calls')
            outcome left
            (so_far.rounds ++ []) ending (so_far.follows [] ending calls calls' outcome left ends),
      ),
    )

-- the link doesn't take the request
pub staying_unsent : {L C : Type 0} (limit : ℕ) (wrote gave : Effect L) (wrote' gave' : Effect C)
    (link link' link'' : L) (client client' : C) (request before kept : List ℕ)
    (request' before' kept' reply : List ℕ)
    → Staying limit wrote gave wrote' gave' link client request before kept request' before' kept'
    link'
    client' → SomeCalls wrote gave link' link'' (WroteSome request')
    → IsError ConnectionFailure reply
    → SomeCalls wrote gave link link'' (λ on_link. SomeCalls wrote' gave' client client'
    (λ on_client. Stay limit request before kept on_link on_client (End reply) kept'))
staying_unsent limit wrote gave wrote' gave' link link' link'' client client' request before kept
    request'
    before' kept' reply so_far sent error =
    staying_ends limit wrote gave wrote' gave' link link' link'' client client' client' request
    before
    kept request' before' kept' Unsent sent.0 [] (End reply) kept' so_far sent.1 refl
    (sent.2, refl, refl, (reply, error, refl))

-- the stay ends with the reply
pub staying_replied : {L C : Type 0} (limit : ℕ) (wrote gave : Effect L) (wrote' gave' : Effect C)
    (link link' sent_link link'' : L) (client client' client'' : C) (request before kept : List ℕ)
    (request' before' kept' : List ℕ) (outcome : Stayed)
    → Staying limit wrote gave wrote' gave' link client request before kept request' before' kept'
    link'
    client' → SomeCalls wrote gave link' sent_link (Wrote request')
    → SomeCalls wrote gave sent_link link'' (λ reads. SomeCalls wrote' gave' client' client''
    (λ tells. EndsHere limit before' [] reads tells outcome))
    → SomeCalls wrote gave link link'' (λ on_link. SomeCalls wrote' gave' client client''
    (λ on_client. Stay limit request before kept on_link on_client outcome kept'))
staying_replied limit wrote gave wrote' gave' link link' sent_link link'' client client' client''
    request
    before kept request' before' kept' outcome so_far sent ends =
    let tells = ends.2 in
    staying_ends limit wrote gave wrote' gave' link link' link'' client client' client'' request
    before
    kept request' before' kept' (Replied tells.2.1.frames tells.2.0) (sent.0 ++ ends.0) tells.0
    outcome kept' so_far
    (Makes-append wrote gave link' sent_link link'' sent.0 ends.0 sent.1 ends.1) tells.1 (
      sent.0,
      ends.0,
      refl,
      sent.2,
      replies limit before' tells.2.0 ends.0 tells.0 tells.2.1,
      tells.2.2,
      refl,
    )

-- the client leaves after a reply
pub staying_deserted : {L C : Type 0} (limit : ℕ) (wrote gave : Effect L) (wrote' gave' : Effect C)
    (link link' sent_link link'' : L) (client client' told_client client'' : C)
    (request before kept : List ℕ) (request' before' kept' reply left : List ℕ)
    → Staying limit wrote gave wrote' gave' link client request before kept request' before' kept'
    link'
    client' → SomeCalls wrote gave link' sent_link (Wrote request')
    → SomeCalls wrote gave sent_link link'' (λ reads. SomeCalls wrote' gave' client' told_client
    (λ tells. GoesOn limit before' [] reads tells))
    → SomeCalls wrote' gave' told_client client'' (λ calls. AsksNext limit kept' calls (Err reply)
    left)
    → SomeCalls wrote gave link link'' (λ on_link. SomeCalls wrote' gave' client client''
    (λ on_client. Stay limit request before kept on_link on_client (End reply) left))
staying_deserted limit wrote gave wrote' gave' link link' sent_link link'' client client'
    told_client
    client'' request before kept request' before' kept' reply left so_far sent goes asks =
    let tells = goes.2 in
    let round = tells.2 in
    staying_ends limit wrote gave wrote' gave' link link' link'' client client' client'' request
    before
    kept request' before' kept' (Deserted round.1.frames round.0 asks.2.0) (sent.0 ++ goes.0)
    (tells.0 ++ asks.0) (End reply) left so_far
    (Makes-append wrote gave link' sent_link link'' sent.0 goes.0 sent.1 goes.1)
    (Makes-append wrote' gave' client' told_client client'' tells.0 asks.0 tells.1 asks.1) (
      sent.0,
      goes.0,
      refl,
      tells.0,
      asks.0,
      refl,
      sent.2,
      replies limit before' (Ready round.0 []) goes.0 tells.0 round.1,
      round.2,
      reply,
      asks.2.1,
      refl,
    )

-- one round more
pub staying_more : {L C : Type 0} (limit : ℕ) (wrote gave : Effect L) (wrote' gave' : Effect C)
    (link link' sent_link link'' : L) (client client' told_client client'' : C)
    (request before kept : List ℕ) (request' before' kept' next left : List ℕ)
    → Staying limit wrote gave wrote' gave' link client request before kept request' before' kept'
    link'
    client' → SomeCalls wrote gave link' sent_link (Wrote request')
    → SomeCalls wrote gave sent_link link'' (λ reads. SomeCalls wrote' gave' client' told_client
    (λ tells. GoesOn limit before' [] reads tells))
    → SomeCalls wrote' gave' told_client client'' (λ calls. AsksNext limit kept' calls (Ok next)
    left)
    → Staying limit wrote gave wrote' gave' link client request before kept next [] left link''
    client''
staying_more limit wrote gave wrote' gave' link link' sent_link link'' client client' told_client
    client''
    request before kept request' before' kept' next left so_far sent goes asks =
    let tells = goes.2 in
    let reply = tells.2 in
    let bytes = asks.2.0 in
    let parts = asks.2.1 in
    let last = asks.2.2 in
    let round : Round = record {
      frames = reply.1.frames;
      status = reply.0;
      parts = parts;
      last = last;
    } in
    let is : IsRound limit request' before' kept' round (sent.0 ++ goes.0) (tells.0 ++ asks.0) left
    =
    record {
      sends = sent.0;
      reads = goes.0;
      link_is = refl;
      tells = tells.0;
      asks = asks.0;
      client_is = refl;
      sent = sent.2;
      replied = replies limit before' (Ready reply.0 []) goes.0 tells.0 reply.1;
      in_transaction = reply.2;
      bytes = bytes;
      read = asks.2.3;
      bytes_are = asks.2.4;
      requested = asks.2.5;
    } in
    record {
      on_link = so_far.on_link ++ (sent.0 ++ goes.0);
      made = Makes-append wrote gave link link' link'' so_far.on_link (sent.0 ++ goes.0) so_far.made
          (Makes-append wrote gave link' sent_link link'' sent.0 goes.0 sent.1 goes.1);
      on_client = so_far.on_client ++ (tells.0 ++ asks.0);
      made' = Makes-append wrote' gave' client client' client'' so_far.on_client
          (tells.0 ++ asks.0) so_far.made'
          (Makes-append wrote' gave' client' told_client client'' tells.0 asks.0 tells.1 asks.1);
      rounds = so_far.rounds ++ round ∷ [];
      follows = λ more ending calls calls' outcome rest runs.
          let now : Runs limit (round ∷ more) ending request' before' kept' ((sent.0 ++ goes.0) ++
          calls)
          ((tells.0 ++ asks.0) ++ calls') outcome rest = (
            sent.0 ++ goes.0,
            calls,
            refl,
            tells.0 ++ asks.0,
            calls',
            refl,
            left,
            is,
            subst (λ r. Runs limit more ending r [] left calls calls' outcome rest) asks.2.6 runs,
          ) in
          let whole = so_far.follows (round ∷ more) ending ((sent.0 ++ goes.0) ++ calls)
          ((tells.0 ++ asks.0) ++ calls') outcome rest now in
          subst (λ rs. Runs limit rs ending request before kept
          ((so_far.on_link ++ (sent.0 ++ goes.0)) ++ calls)
          ((so_far.on_client ++ (tells.0 ++ asks.0)) ++ calls') outcome rest)
          (sym (append_assoc so_far.rounds (round ∷ []) more))
          (subst (λ xs. Runs limit (so_far.rounds ++ round ∷ more) ending request before kept xs
          ((so_far.on_client ++ (tells.0 ++ asks.0)) ++ calls') outcome rest)
          (sym (append_assoc so_far.on_link (sent.0 ++ goes.0) calls))
          (subst (λ xs. Runs limit (so_far.rounds ++ round ∷ more) ending request before kept
          (so_far.on_link ++ ((sent.0 ++ goes.0) ++ calls)) xs outcome rest)
          (sym (append_assoc so_far.on_client (tells.0 ++ asks.0) calls')) whole));
    }

-- a session that asks again is as it was
pub asks_again : (old now replied next : Session) → old ≡ asking old.limit old.database → now ≡ old
    → replied ≡ in_transaction now.limit now.database
    → next ≡ asking replied.limit replied.database → next ≡ old
asks_again old now replied next is same after again =
    again ∙ ap (λ s. asking s.limit s.database) after ∙ ap (λ s. asking s.limit s.database) same
    ∙ sym is

pub leaves_from : (limit at : ℕ) (stayed : Stayed) (old now new : Session) (passage : Passage)
    → at ≡ limit → now ≡ old → LeavesBehind at stayed now new passage
    → LeavesBehind limit stayed old new passage
leaves_from limit at stayed old now new passage is same leaves =
    subst (λ (s : Session). LeavesBehind limit stayed s new passage) same
    (subst (λ (n : ℕ). LeavesBehind n stayed now new passage) is leaves)

pub leaves_some : (limit at : ℕ) (found : Option Stayed) (old now new : Session) (passage : Passage)
    → at ≡ limit → now ≡ old → IfSome found (λ stayed. LeavesBehind at stayed now new passage)
    → IfSome found (λ stayed. LeavesBehind limit stayed old new passage)
leaves_some limit at None old now new passage is same leaves = tt
leaves_some limit at (Some stayed) old now new passage is same leaves =
    leaves_from limit at stayed old now new passage is same leaves

-- a reply over a link of this limit
pub ends_of : {L C : Type 0} (limit at : ℕ) (wrote gave : Effect L) (wrote' gave' : Effect C)
    (a b : L) (c d : C) (before : List ℕ) (outcome : Stayed) → at ≡ limit
    → SomeCalls wrote gave a b (λ reads. SomeCalls wrote' gave' c d
    (λ tells. EndsHere at before [] reads tells outcome))
    → SomeCalls wrote gave a b (λ reads. SomeCalls wrote' gave' c d
    (λ tells. EndsHere limit before [] reads tells outcome))
ends_of limit at wrote gave wrote' gave' a b c d before outcome is ends =
    subst (λ (n : ℕ). SomeCalls wrote gave a b (λ reads. SomeCalls wrote' gave' c d
    (λ tells. EndsHere n before [] reads tells outcome))) is ends

pub goes_of : {L C : Type 0} (limit at : ℕ) (wrote gave : Effect L) (wrote' gave' : Effect C)
    (a b : L) (c d : C) (before : List ℕ) → at ≡ limit
    → SomeCalls wrote gave a b (λ reads. SomeCalls wrote' gave' c d
    (λ tells. GoesOn at before [] reads tells))
    → SomeCalls wrote gave a b (λ reads. SomeCalls wrote' gave' c d
    (λ tells. GoesOn limit before [] reads tells))
goes_of limit at wrote gave wrote' gave' a b c d before is goes =
    subst (λ (n : ℕ). SomeCalls wrote gave a b (λ reads. SomeCalls wrote' gave' c d
    (λ tells. GoesOn n before [] reads tells))) is goes

-- what a session of this limit asks
pub asks_of : {C : Type 0} (limit at : ℕ) (wrote gave : Effect C) (c d : C) (kept : List ℕ)
    (result : Result (List ℕ) (List ℕ)) (left : List ℕ) → at ≡ limit
    → SomeCalls wrote gave c d (λ calls. AsksNext at kept calls result left)
    → SomeCalls wrote gave c d (λ calls. AsksNext limit kept calls result left)
asks_of limit at wrote gave c d kept result left is asks =
    subst (λ (n : ℕ). SomeCalls wrote gave c d (λ calls. AsksNext n kept calls result left)) is asks

pub wrote_same : {T : Type 0} (wrote gave : Effect T) (a b : T) (xs ys : List ℕ) → xs ≡ ys
    → SomeCalls wrote gave a b (Wrote xs) → SomeCalls wrote gave a b (Wrote ys)
wrote_same wrote gave a b xs ys same sent =
    (sent.0, sent.1, subst (λ zs. Wrote zs sent.0) same sent.2)

pub wrote_some_same : {T : Type 0} (wrote gave : Effect T) (a b : T) (xs ys : List ℕ) → xs ≡ ys
    → SomeCalls wrote gave a b (WroteSome xs) → SomeCalls wrote gave a b (WroteSome ys)
wrote_some_same wrote gave a b xs ys same sent =
    (sent.0, sent.1, subst (λ zs. WroteSome zs sent.0) same sent.2)

-- one round more, where nothing is left of what was read of the link
pub staying_on : {L C : Type 0} (limit : ℕ) (wrote gave : Effect L) (wrote' gave' : Effect C)
    (link link' sent_link link'' : L) (client client' told_client client'' : C)
    (request before kept : List ℕ) (request' before' kept' next left : List ℕ) (flow : Passage)
    → flow ≡ start limit
    → Staying limit wrote gave wrote' gave' link client request before kept request' before' kept'
    link'
    client' → SomeCalls wrote gave link' sent_link (Wrote request')
    → SomeCalls wrote gave sent_link link'' (λ reads. SomeCalls wrote' gave' client' told_client
    (λ tells. GoesOn limit before' [] reads tells))
    → SomeCalls wrote' gave' told_client client'' (λ calls. AsksNext limit kept' calls (Ok next)
    left)
    → Staying limit wrote gave wrote' gave' link client request before kept next flow.bytes left
    link''
    client'' × (flow.left ≡ None) × (flow.passed ≡ []) × (flow.limit ≡ limit)
staying_on limit wrote gave wrote' gave' link link' sent_link link'' client client' told_client
    client''
    request before kept request' before' kept' next left flow drained so_far sent goes asks = (
      subst
          (λ xs. Staying limit wrote gave wrote' gave' link client request before kept next xs left
          link''
          client'') (sym (ap (λ p. p.bytes) drained))
          (staying_more limit wrote gave wrote' gave' link link' sent_link link'' client client'
          told_client
          client'' request before kept request' before' kept' next left so_far sent goes asks),
      ap (λ p. p.left) drained,
      ap (λ p. p.passed) drained,
      ap (λ p. p.limit) drained,
    )

-- a request follows what is kept of the client
pub asks_kept : {C : Type 0} (limit : ℕ) (wrote gave : Effect C) (c c' : C) (kept kept' : List ℕ)
    (result : Result (List ℕ) (List ℕ)) (left : List ℕ) → kept' ≡ kept
    → SomeCalls wrote gave c c' (λ calls. AsksNext limit kept' calls result left)
    → SomeCalls wrote gave c c' (λ calls. AsksNext limit kept calls result left)
asks_kept limit wrote gave c c' kept kept' result left same asks =
    (asks.0, asks.1, subst (λ (xs : List ℕ). AsksNext limit xs asks.0 result left) same asks.2)
