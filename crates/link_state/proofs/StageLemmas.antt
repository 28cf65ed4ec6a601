-- The stages to which messages lead: one for each list, and the code reaches it.
use Rattle.std.proofs.Common.{◌≡◌, ◌↔◌, ℕ, true, false, List, [], ◌∷◌, ◌++◌, Option, Some, None, IsTrue, filter_map, inl, inr, refl, sym, ap, subst, ◌∙◌, append_assoc}
use Rattle.std.specs.List.{last_or, cons_option}
use Rattle.std.specs.Option.{option_or}
use Rattle.std.proofs.lemmas.List.{same_from_push}
use Rattle.pg_frames.specs.declared.frame.Frame.{Frame}
use Rattle.link_state.specs.declared.error.LinkError.{LinkError}
use Rattle.link_state.specs.declared.error.LinkError.TheVariants.{OutOfProfile}
use Rattle.link_state.specs.declared.stage.Stage.{Stage}
use Rattle.link_state.specs.declared.stage.Stage.TheVariants.{Waiting, Reading, Done, Refused}
use Rattle.link_state.specs.declared.message.Message.{Message}
use Rattle.link_state.specs.declared.message.Message.TheVariants.{Passed, Key, Ready, Fault}
use Rattle.link_state.specs.Message.{message, goes_on, key_in}
use Rattle.link_state.specs.Login.{GoOn, last_key, refusal, IsUpAt, FailsAt, GoesPast, IsRefused, IsUp, Waits, LeadTo}
use Rattle.link_state.specs.Stages.{outcome, step}

-- the keys that messages give
abbrev keys : List Frame → List (List ℕ)
keys frames = filter_map (λ frame. key_in (message frame)) frames

-- the stage after several messages
abbrev run : Stage → List Frame → Stage
run stage [] = stage
run stage (frame ∷ frames) = run (step stage frame) frames

abbrev start : Stage
start = Waiting None

run-append : (xs ys : List Frame) (stage : Stage) → run stage (xs ++ ys) ≡ run (run stage xs) ys
run-append [] ys stage = refl
run-append (x ∷ xs) ys stage = run-append xs ys (step stage x)

-- a run goes on from where its front leads
run_on : (xs ys : List Frame) (stage : Stage) → run start xs ≡ stage
    → run start (xs ++ ys) ≡ run stage ys
run_on xs ys stage leads = run-append xs ys start ∙ ap (λ (s : Stage). run s ys) leads

-- messages after which a login goes on lead to waiting with the last key
run_waits : (frames : List Frame) (key : Option (List ℕ)) → GoOn frames
    → run (Waiting key) frames ≡ Waiting (last_or key (keys frames))
run_waits [] key go_on = refl
run_waits (x ∷ xs) key go_on =
    let by : (t : Message) → IsTrue (goes_on t)
    → run (outcome t key) xs ≡ Waiting (last_or key (cons_option (key_in t) (keys xs))) = λ t.
    elim t as (λ t. IsTrue (goes_on t) → run (outcome t key) xs ≡ Waiting
    (last_or key (cons_option (key_in t) (keys xs)))) [
      | Passed ↦ λ _. run_waits xs key go_on.1
      | Key new ↦ λ _. run_waits xs (Some new) go_on.1
      | Ready idle ↦ λ (no : IsTrue false). cc
      | Fault error ↦ λ (no : IsTrue false). cc
    ] in
    by (message x) go_on.0

-- a refusal stays
run_refused : (frames : List Frame) (error : LinkError) → run (Refused error) frames ≡ Refused error
run_refused [] error = refl
run_refused (x ∷ xs) error = run_refused xs error

-- a refusal's stage
outcome_refused : (t : Message) (key : Option (List ℕ)) (error : LinkError)
    → refusal t key ≡ Some error → outcome t key ≡ Refused error
outcome_refused Passed key error why = cc
outcome_refused (Key new) key error why = cc
outcome_refused (Ready idle) None error why = cc
outcome_refused (Ready true) (Some key) error why = cc
outcome_refused (Ready false) (Some key) error why = cc
outcome_refused (Fault fault) key error why = cc

run_up : (before : List Frame) (ready : Frame) (key : List ℕ) → IsUpAt before ready key
    → run start (before ++ ready ∷ []) ≡ Done key
run_up before ready key up =
    let waits : run start before ≡ Waiting (Some key) =
    run_waits before None up.go_on ∙ ap (λ (k : Option (List ℕ)). Waiting k) up.key_is in
    run_on before (ready ∷ []) (Waiting (Some key)) waits
    ∙ ap (λ (t : Message). outcome t (Some key)) up.idle

run_fails : (frames : List Frame) (error : LinkError) → FailsAt frames error
    → run start frames ≡ Refused error
run_fails frames error h =
    let waits : run start h.before ≡ Waiting (last_key h.before) =
    run_waits h.before None h.go_on in
    let fails : outcome (message h.failing) (last_key h.before) ≡ Refused error =
    outcome_refused (message h.failing) (last_key h.before) error h.why in
    ap (run start) h.whole
    ∙ run_on h.before (h.failing ∷ h.later) (Waiting (last_key h.before)) waits
    ∙ ap (λ (s : Stage). run s h.later) fails ∙ run_refused h.later error

run_past : (frames : List Frame) → GoesPast frames → run start frames ≡ Refused OutOfProfile
run_past frames h =
    let up : run start (h.before ++ h.ready ∷ []) ≡ Done h.key =
    run_up h.before h.ready h.key h.up in
    ap (run start) (h.whole ∙ sym (append_assoc h.before (h.ready ∷ []) (h.further ∷ h.later)))
    ∙ run_on (h.before ++ h.ready ∷ []) (h.further ∷ h.later) (Done h.key) up
    ∙ run_refused h.later OutOfProfile

-- messages lead to the stage that the code reaches
run_leads : (frames : List Frame) (stage : Stage) → LeadTo frames stage → run start frames ≡ stage
run_leads frames (Waiting key) h =
    run_waits frames None h.go_on ∙ ap (λ (k : Option (List ℕ)). Waiting k) h.key_is
run_leads frames (Reading part key) h = absurd h
run_leads frames (Done key) h = ap (run start) h.whole ∙ run_up h.before h.ready key h.up
run_leads frames (Refused error) (inl fails) = run_fails frames error fails
run_leads frames (Refused error) (inr past) =
    run_past frames past.1 ∙ ap (λ (e : LinkError). Refused e) (sym past.0)

-- and to no other
pub one_stage : (frames : List Frame) (a b : Stage) → LeadTo frames a → LeadTo frames b → a ≡ b
one_stage frames a b to_a to_b = sym (run_leads frames a to_a) ∙ run_leads frames b to_b

-- one more message after which a login goes on
go_on_more : (frames : List Frame) (frame : Frame) → GoOn frames → IsTrue (goes_on (message frame))
    → GoOn (frames ++ frame ∷ [])
go_on_more [] frame go_on more = (more, tt)
go_on_more (x ∷ xs) frame go_on more = (go_on.0, go_on_more xs frame go_on.1 more)

-- the last key, with one more message
last_more : (frames : List Frame) (frame : Frame) (key : Option (List ℕ))
    → last_or key (keys (frames ++ frame ∷ [])) ≡ option_or (key_in (message frame))
    (last_or key (keys frames))
last_more [] frame key =
    elim (key_in (message frame)) as
    (λ (k : Option (List ℕ)). last_or key (cons_option k []) ≡ option_or k key) [
      | None ↦ refl
      | Some new ↦ refl
    ]
last_more (x ∷ xs) frame key =
    elim (key_in (message x)) as (λ (k : Option (List ℕ)). last_or key
    (cons_option k (keys (xs ++ frame ∷ []))) ≡ option_or (key_in (message frame))
    (last_or key (cons_option k (keys xs)))) [
      | None ↦ last_more xs frame key
      | Some new ↦ last_more xs frame (Some new)
    ]

-- the refusal of one more message
why_more : (t : Message) (key : Option (List ℕ)) (frames : List Frame) (frame : Frame)
    → message frame ≡ t → Waits frames key
    → refusal (message frame) (last_key frames) ≡ refusal t key
why_more t key frames frame tells waits =
    ap (λ (u : Message). refusal u (last_key frames)) tells
    ∙ ap (λ (k : Option (List ℕ)). refusal t k) waits.key_is

-- a refusal at one more message
fails_more : (t : Message) (key : Option (List ℕ)) (frames : List Frame) (frame : Frame)
    (error : LinkError) → message frame ≡ t → Waits frames key → refusal t key ≡ Some error
    → IsRefused error (frames ++ frame ∷ [])
fails_more t key frames frame error tells waits why =
    inl (record {
      before = frames;
      failing = frame;
      later = [];
      whole = refl;
      go_on = waits.go_on;
      why = why_more t key frames frame tells waits ∙ why;
    })

-- one more message, by what it means, leads from waiting to its outcome
waits_more : (t : Message) (key : Option (List ℕ)) (frames : List Frame) (frame : Frame)
    → message frame ≡ t → Waits frames key → LeadTo (frames ++ frame ∷ []) (outcome t key)
waits_more Passed key frames frame tells waits = record {
  go_on = go_on_more frames frame waits.go_on (ap goes_on tells);
  key_is = last_more frames frame None
      ∙ ap (λ (t : Message). option_or (key_in t) (last_key frames)) tells ∙ waits.key_is;
}
waits_more (Key new) key frames frame tells waits = record {
  go_on = go_on_more frames frame waits.go_on (ap goes_on tells);
  key_is = last_more frames frame None
      ∙ ap (λ (t : Message). option_or (key_in t) (last_key frames)) tells;
}
waits_more (Ready idle) None frames frame tells waits =
    fails_more (Ready idle) None frames frame _ tells waits refl
waits_more (Ready true) (Some key) frames frame tells waits = record {
  before = frames;
  ready = frame;
  whole = refl;
  up = record { go_on = waits.go_on; idle = tells; key_is = waits.key_is };
}
waits_more (Ready false) (Some key) frames frame tells waits =
    fails_more (Ready false) (Some key) frames frame _ tells waits refl
waits_more (Fault fault) key frames frame tells waits =
    fails_more (Fault fault) key frames frame _ tells waits refl

-- a refusal, with one more message
pub refused_more : (error : LinkError) (frames : List Frame) (frame : Frame)
    → IsRefused error frames → IsRefused error (frames ++ frame ∷ [])
refused_more error frames frame (inl h) =
    inl (record {
      before = h.before;
      failing = h.failing;
      later = h.later ++ frame ∷ [];
      whole = ap (λ (xs : List Frame). xs ++ frame ∷ []) h.whole
          ∙ append_assoc h.before (h.failing ∷ h.later) (frame ∷ []);
      go_on = h.go_on;
      why = h.why;
    })
refused_more error frames frame (inr (is, h)) =
    inr (
      is,
      record {
        before = h.before;
        ready = h.ready;
        further = h.further;
        later = h.later ++ frame ∷ [];
        key = h.key;
        whole = ap (λ (xs : List Frame). xs ++ frame ∷ []) h.whole
            ∙ append_assoc h.before (h.ready ∷ h.further ∷ h.later) (frame ∷ []);
        up = h.up;
      },
    )

-- a message leads from a stage to the next
pub leads_on : (frames : List Frame) (stage : Stage) (frame : Frame) → LeadTo frames stage
    → LeadTo (frames ++ frame ∷ []) (step stage frame)
leads_on frames (Waiting key) frame h = waits_more (message frame) key frames frame refl h
leads_on frames (Reading part key) frame h = absurd h
leads_on frames (Done key) frame h =
    inr (
      refl,
      record {
        before = h.before;
        ready = h.ready;
        further = frame;
        later = [];
        key = key;
        whole = ap (λ (xs : List Frame). xs ++ frame ∷ []) h.whole
            ∙ append_assoc h.before (h.ready ∷ []) (frame ∷ []);
        up = h.up;
      },
    )
leads_on frames (Refused error) frame h = refused_more error frames frame h

-- the stage says exactly whether they went on, are up with a key, or were refused
pub waits_exactly : (frames : List Frame) (stage : Stage) → LeadTo frames stage
    → (stage ≡ Waiting (last_key frames)) ↔ GoOn frames
waits_exactly frames stage leads = (
  λ is. (subst (λ (s : Stage). LeadTo frames s) is leads).go_on,
  λ go_on. one_stage frames stage (Waiting (last_key frames)) leads
      (record { go_on = go_on; key_is = refl }),
)

-- up after the last of these is up at it
up_at_last : (frames : List Frame) (frame : Frame) (key : List ℕ) → IsUp (frames ++ frame ∷ []) key
    → IsUpAt frames frame key
up_at_last frames frame key h =
    let same : (frames ≡ h.before) × (frame ≡ h.ready) =
    same_from_push frames h.before frame h.ready h.whole in
    subst (λ (f : Frame). IsUpAt frames f key) (sym same.1)
    (subst (λ (xs : List Frame). IsUpAt xs h.ready key) (sym same.0) h.up)

pub up_exactly : (frames : List Frame) (frame : Frame) (stage : Stage) (key : List ℕ)
    → LeadTo (frames ++ frame ∷ []) stage → (stage ≡ Done key) ↔ IsUpAt frames frame key
up_exactly frames frame stage key leads = (
  λ is. up_at_last frames frame key
      (subst (λ (s : Stage). LeadTo (frames ++ frame ∷ []) s) is leads),
  λ up. one_stage (frames ++ frame ∷ []) stage (Done key) leads
      (record { before = frames; ready = frame; whole = refl; up = up }),
)

pub refused_exactly : (frames : List Frame) (stage : Stage) (error : LinkError)
    → LeadTo frames stage → (stage ≡ Refused error) ↔ IsRefused error frames
refused_exactly frames stage error leads = (
  λ is. subst (λ (s : Stage). LeadTo frames s) is leads,
  λ refused. one_stage frames stage (Refused error) leads refused,
)
