-- What `on_head` returns, against the messages that were read.
use Rattle.std.proofs.Common.{◌≡◌, ◌↔◌, ℕ, ◌+◌, ◌⊎◌, if◌then◌else◌, ◌==◌, List, [], ◌∷◌, ◌++◌, length, Option, Some, None, Result, Ok, Err, inl, inr, refl, sym, ap, subst, ◌∙◌, arith, length-append}
use Rattle.std.proofs.lemmas.List.{append-nil}
use Rattle.std.proofs.lemmas.Bool.Decides.{nat_tests}
use Rattle.byteorder.specs.Endian.{big_number}
use Rattle.pg_frames.specs.declared.frame.Frame.{Frame}
use Rattle.link_state.specs.declared.act.LoginHead.{LoginHead}
use Rattle.link_state.specs.declared.act.LoginHead.TheVariants.{Skip, Body as ReadBody}
use Rattle.link_state.specs.declared.error.LinkError.{LinkError}
use Rattle.link_state.specs.declared.error.LinkError.TheVariants.{AuthAsked}
use Rattle.link_state.specs.declared.head.Head.{Head}
use Rattle.link_state.specs.declared.head.Head.TheVariants.{Skipped, Fault as Fails, OtherReady, Body}
use Rattle.link_state.specs.declared.part.Part.{Part}
use Rattle.link_state.specs.declared.part.Part.TheVariants.{Number, Key as KeyData, Status}
use Rattle.link_state.specs.declared.stage.Stage.{Stage}
use Rattle.link_state.specs.declared.stage.Stage.TheVariants.{Waiting, Reading, Done, Refused}
use Rattle.link_state.specs.declared.message.Message.{Message}
use Rattle.link_state.specs.declared.message.Message.TheVariants.{Passed, Fault}
use Rattle.link_state.specs.Message.{message, message_of, message_in, head_of, part_of, part_len}
use Rattle.link_state.specs.Login.{Login, GoOn, last_key, HasRead, HasHead, body_part, IsRefused, LeadTo, LeadInto, Waits, ReadsOn}
use Rattle.link_state.specs.Stages.{outcome, step, after_head, head_answer}
use Rattle.link_state.proofs.StageLemmas.{leads_on, waits_exactly, refused_exactly}

-- the length field of a message of which such a part is read, where it is the whole body
abbrev FitsPart : Part → ℕ → Type 0
FitsPart Number len = Unit {0}
FitsPart KeyData len = len ≡ 12
FitsPart Status len = len ≡ 5

fits_part : (part : Part) (kind len : ℕ) → head_of kind len ≡ Body part → FitsPart part len
unfolding head_of
fits_part Number kind len is = tt
fits_part KeyData kind len is = grind (arith, nat_tests)
fits_part Status kind len is = grind (arith, nat_tests)

-- with as many bytes as the whole body has, nothing follows
no_rest : (bytes rest : List ℕ) (n : ℕ) → length bytes ≡ n → length (bytes ++ rest) ≡ n → rest ≡ []
no_rest bytes [] n is whole = refl
no_rest bytes (x ∷ rest) n is whole =
    absurd (omega (arith, is, whole, length-append bytes (x ∷ rest)))

-- the part that is read says what the message means, whatever follows it
number_alone : (bytes rest : List ℕ) → length bytes ≡ 4
    → big_number 4 (bytes ++ rest) ≡ big_number 4 bytes
number_alone [] rest is = cc
number_alone (a ∷ []) rest is = cc
number_alone (a ∷ b ∷ []) rest is = cc
number_alone (a ∷ b ∷ c ∷ []) rest is = cc
number_alone (a ∷ b ∷ c ∷ d ∷ []) rest is = refl
number_alone (a ∷ b ∷ c ∷ d ∷ e ∷ more) rest is = absurd (omega (arith, is))

whole_alone : (part : Part) (bytes rest : List ℕ) → rest ≡ []
    → message_in part (bytes ++ rest) ≡ message_in part bytes
whole_alone part bytes rest none = ap (λ (r : List ℕ). message_in part (bytes ++ r)) none
    ∙ ap (message_in part) (append-nil bytes)

pub part_alone : (part : Part) (kind : ℕ) (bytes rest : List ℕ)
    → head_of kind (4 + length (bytes ++ rest)) ≡ Body part → length bytes ≡ part_len part
    → message_in part (bytes ++ rest) ≡ message_in part bytes
part_alone Number kind bytes rest is size =
    ap (λ n. if n == 0 then Passed else Fault AuthAsked) (number_alone bytes rest size)
part_alone KeyData kind bytes rest is size =
    let len : 4 + length (bytes ++ rest) ≡ 12 = fits_part KeyData kind _ is in
    whole_alone KeyData bytes rest (no_rest bytes rest 8 size (omega (arith, len)))
part_alone Status kind bytes rest is size =
    let len : 4 + length (bytes ++ rest) ≡ 5 = fits_part Status kind _ is in
    whole_alone Status bytes rest (no_rest bytes rest 1 size (omega (arith, len)))

-- a head that says all, or comes too late, leads where the whole message leads
abbrev Decides : Stage → Head → Type 0
Decides (Waiting key) head = part_of head ≡ None
Decides (Reading part key) head = ⊥
Decides (Done key) head = Unit {0}
Decides (Refused error) head = Unit {0}

head_leads : (found : Stage) (head : Head) (frame : Frame)
    → message frame ≡ message_of head frame.body → Decides found head
    → after_head found head ≡ step found frame
head_leads (Waiting key) Skipped frame is all = ap (λ (m : Message). outcome m key) (sym is)
head_leads (Waiting key) (Fails error) frame is all = ap (λ (m : Message). outcome m key) (sym is)
head_leads (Waiting key) OtherReady frame is all = ap (λ (m : Message). outcome m key) (sym is)
head_leads (Waiting key) (Body part) frame is all = cc
head_leads (Reading part key) head frame is all = absurd all
head_leads (Done key) head frame is all = refl
head_leads (Refused error) head frame is all = refl

message_at : (frame : Frame) (kind len : ℕ) → HasHead frame kind len
    → message frame ≡ message_of (head_of kind len) frame.body
message_at frame kind len at =
    ap (λ (k : ℕ). message_of (head_of k (4 + length frame.body)) frame.body) at.kind_is
    ∙ ap (λ (n : ℕ). message_of (head_of kind n) frame.body) at.len_is

-- a head that asks for a part of the body
record Asks (found : Stage) (head : Head) : Type 0 where
  key : Option (List ℕ)
  part : Part
  found_is : found ≡ Waiting key
  head_is : head ≡ Body part

cases_head : (frames : List Frame) (found : Stage) (head : Head) → LeadTo frames found
    → Decides found head ⊎ Asks found head
cases_head frames (Waiting key) Skipped leads = inl refl
cases_head frames (Waiting key) (Fails error) leads = inl refl
cases_head frames (Waiting key) OtherReady leads = inl refl
cases_head frames (Waiting key) (Body part) leads =
    inr (record { key = key; part = part; found_is = refl; head_is = refl })
cases_head frames (Reading part key) head leads = absurd leads
cases_head frames (Done key) head leads = inl tt
cases_head frames (Refused error) head leads = inl tt

asks_leads : (found : Stage) (head : Head) (asks : Asks found head)
    → after_head found head ≡ Reading asks.part asks.key
asks_leads found head asks =
    ap (λ (h : Head). after_head found h) asks.head_is
    ∙ ap (λ (f : Stage). after_head f (Body asks.part)) asks.found_is

asks_waits : (frames : List Frame) (found : Stage) (head : Head) → LeadTo frames found
    → (asks : Asks found head) → Waits frames asks.key
asks_waits frames found head leads asks = subst (λ (f : Stage). LeadTo frames f) asks.found_is leads

new_leads : (found : Stage) (head : Head) (frames : List Frame) (frame : Frame)
    → LeadTo frames found → message frame ≡ message_of head frame.body → Decides found head
    → LeadTo (frames ++ frame ∷ []) (after_head found head)
new_leads found head frames frame leads is all =
    subst (λ (s : Stage). LeadTo (frames ++ frame ∷ []) s)
    (sym (head_leads found head frame is all)) (leads_on frames found frame leads)

-- where they went on, the head says all
none_where_on : (frames : List Frame) (found : Stage) (head : Head) → LeadTo frames found
    → Decides found head → GoOn frames → part_of head ≡ None
none_where_on frames (Waiting key) head leads all go_on = all
none_where_on frames (Reading part key) head leads all go_on = absurd all
none_where_on frames (Done key) head leads all go_on =
    let e : Done key ≡ Waiting (last_key frames) =
    (waits_exactly frames (Done key) leads).1 go_on in cc
none_where_on frames (Refused error) head leads all go_on =
    let e : Refused error ≡ Waiting (last_key frames) =
    (waits_exactly frames (Refused error) leads).1 go_on in cc

none_where_skipped : (found : Stage) (head : Head) → Decides found head
    → head_answer (after_head found head) ≡ Ok Skip → part_of head ≡ None
none_where_skipped (Waiting key) head all is = all
none_where_skipped (Reading part key) head all is = absurd all
none_where_skipped (Done key) head all is = cc
none_where_skipped (Refused error) head all is = cc

-- a head that says all leaves no part to be read, and no key
abbrev IsSaid : Stage → Type 0
IsSaid (Waiting key) = Unit {0}
IsSaid (Reading part key) = ⊥
IsSaid (Done key) = ⊥
IsSaid (Refused error) = Unit {0}

other_said : (key : Option (List ℕ)) → IsSaid (after_head (Waiting key) OtherReady)
other_said None = tt
other_said (Some key) = tt

all_said : (found : Stage) (head : Head) → Decides found head → IsSaid (after_head found head)
all_said (Waiting key) Skipped all = tt
all_said (Waiting key) (Fails error) all = tt
all_said (Waiting key) OtherReady all = other_said key
all_said (Waiting key) (Body part) all = cc
all_said (Reading part key) head all = absurd all
all_said (Done key) head all = tt
all_said (Refused error) head all = tt

no_part : (stage : Stage) (n : ℕ) → IsSaid stage → head_answer stage ≡ Ok (ReadBody n) → ⊥
no_part (Waiting key) n said is = cc
no_part (Reading part key) n said is = said
no_part (Done key) n said is = said
no_part (Refused error) n said is = cc

refused_said : (stage : Stage) (error : LinkError) → IsSaid stage → head_answer stage ≡ Err error
    → stage ≡ Refused error
refused_said (Waiting key) error said is = cc
refused_said (Reading part key) error said is = absurd said
refused_said (Done key) error said is = absurd said
refused_said (Refused other) error said is = cc

-- messages after which a login waits for the next
on_where_skipped : (frames : List Frame) (stage : Stage) → LeadTo frames stage
    → head_answer stage ≡ Ok Skip → GoOn frames
on_where_skipped frames (Waiting key) leads is = leads.go_on
on_where_skipped frames (Reading part key) leads is = absurd leads
on_where_skipped frames (Done key) leads is = cc
on_where_skipped frames (Refused error) leads is = cc

-- each clause of `on_head`, by what was found and the head
skip_by : (frames : List Frame) (frame : Frame) (found : Stage) (head : Head) → LeadTo frames found
    → message frame ≡ message_of head frame.body → (head_answer (after_head found head) ≡ Ok Skip)
    ↔ (GoOn (frames ++ frame ∷ []) × (part_of head ≡ None))
skip_by frames frame found head leads is =
    elim (cases_head frames found head leads) [
      | inl all ↦
          let new : LeadTo (frames ++ frame ∷ []) (after_head found head) =
          new_leads found head frames frame leads is all in (
            λ e. (
              on_where_skipped (frames ++ frame ∷ []) (after_head found head) new e,
              none_where_skipped found head all e,
            ),
            λ h. ap head_answer
                ((waits_exactly (frames ++ frame ∷ []) (after_head found head) new).1 h.0),
          )
      | inr asks ↦
          let answer : head_answer (after_head found head) ≡ Ok (ReadBody (part_len asks.part)) =
          ap head_answer (asks_leads found head asks) in
          let part : part_of head ≡ Some (part_len asks.part) = ap part_of asks.head_is in
          (λ e. cc, λ h. let none : part_of head ≡ None = h.1 in cc)
    ]

body_by : (frames : List Frame) (found : Stage) (head : Head) (n : ℕ) → LeadTo frames found
    → (head_answer (after_head found head) ≡ Ok (ReadBody n))
    ↔ (GoOn frames × (part_of head ≡ Some n))
body_by frames found head n leads =
    elim (cases_head frames found head leads) [
      | inl all ↦ (
        λ e. absurd (no_part (after_head found head) n (all_said found head all) e),
        λ h.
            let none : part_of head ≡ None = none_where_on frames found head leads all h.0 in
            let some : part_of head ≡ Some n = h.1 in cc,
      )
      | inr asks ↦
          let answer : head_answer (after_head found head) ≡ Ok (ReadBody (part_len asks.part)) =
          ap head_answer (asks_leads found head asks) in
          let part : part_of head ≡ Some (part_len asks.part) = ap part_of asks.head_is in (
            λ e. ((asks_waits frames found head leads asks).go_on, cc),
            λ h. let some : part_of
                head ≡ Some n = h.1 in cc,
          )
    ]

refused_by : (frames : List Frame) (frame : Frame) (found : Stage) (head : Head) (error : LinkError)
    → LeadTo frames found → message frame ≡ message_of head frame.body
    → (head_answer (after_head found head) ≡ Err error)
    ↔ (IsRefused error (frames ++ frame ∷ []) × (GoOn frames → part_of head ≡ None))
refused_by frames frame found head error leads is =
    elim (cases_head frames found head leads) [
      | inl all ↦
          let new : LeadTo (frames ++ frame ∷ []) (after_head found head) =
          new_leads found head frames frame leads is all in (
            λ e. (
              (refused_exactly (frames ++ frame ∷ []) (after_head found head) error new).0
                  (refused_said (after_head found head) error (all_said found head all) e),
              λ go_on. none_where_on frames found head leads all go_on,
            ),
            λ h. ap head_answer
                ((refused_exactly (frames ++ frame ∷ []) (after_head found head) error new).1 h.0),
          )
      | inr asks ↦
          let answer : head_answer (after_head found head) ≡ Ok (ReadBody (part_len asks.part)) =
          ap head_answer (asks_leads found head asks) in
          let part : part_of head ≡ Some (part_len asks.part) = ap part_of asks.head_is in (
            λ e. cc,
            λ h.
                let none : part_of head ≡ None =
                h.1 (asks_waits frames found head leads asks).go_on in cc,
          )
    ]

again_by : (frames : List Frame) (found : Stage) (head : Head) (error : LinkError)
    → LeadTo frames found → IsRefused error frames → head_answer (after_head found head) ≡ Err error
again_by frames found head error leads refused =
    ap (λ (f : Stage). head_answer (after_head f head))
    ((refused_exactly frames found error leads).1 refused)

said_reads : (stage : Stage) (login : Login) (frames : List Frame) (kind len : ℕ) → IsSaid stage
    → ((frame : Frame) → HasHead frame kind len → HasRead login (frames ++ frame ∷ []))
    → ReadsOn (head_answer stage) login frames kind len
said_reads (Waiting key) login frames kind len said reads = reads
said_reads (Reading part key) login frames kind len said reads = absurd said
said_reads (Done key) login frames kind len said reads = absurd said
said_reads (Refused error) login frames kind len said reads = reads

read_by : (frames : List Frame) (kind len : ℕ) (found : Stage) (login : Login) → LeadTo frames found
    → login.stage ≡ after_head found (head_of kind len)
    → ReadsOn (head_answer (after_head found (head_of kind len))) login frames kind len
read_by frames kind len found login leads left =
    elim (cases_head frames found (head_of kind len) leads) [
      | inl all ↦
          said_reads (after_head found (head_of kind len)) login frames kind len
          (all_said found (head_of kind len) all)
          (λ frame at.
          let new : LeadTo (frames ++ frame ∷ []) (after_head found (head_of kind len)) =
          new_leads found (head_of kind len) frames frame leads (message_at frame kind len at)
          all in
          subst (λ (s : Stage). LeadTo (frames ++ frame ∷ []) s) (sym left) new)
      | inr asks ↦
          let reading : login.stage ≡ Reading asks.part asks.key =
          left ∙ asks_leads found (head_of kind len) asks in
          let into : LeadInto frames kind len login.stage =
          subst (λ (s : Stage). LeadInto frames kind len s) (sym reading)
          (asks_waits frames found (head_of kind len) leads asks, asks.head_is) in
          subst (λ (r : Result LoginHead LinkError). ReadsOn r login frames kind len)
          (sym (ap head_answer (asks_leads found (head_of kind len) asks))) into
    ]

-- one call of `on_head`: the login that it found and the one that it left, and its answer
pub record HeadCall (old new : Login) (kind len : ℕ) (answer : Result LoginHead LinkError) : Type 0
  where
    pub left_is : new.stage ≡ after_head old.stage (head_of kind len)
    pub says : answer ≡ head_answer new.stage

-- what holds of a value holds of an equal one
pub along : {X : Type 0} (a b x : X) (P : Type 0) → a ≡ b → (b ≡ x) ↔ P → (a ≡ x) ↔ P
along a b x P e holds = (λ is. holds.0 (sym e ∙ is), λ p. e ∙ holds.1 p)

says_by : (old new : Login) (kind len : ℕ) (answer : Result LoginHead LinkError)
    → HeadCall old new kind len answer
    → answer ≡ head_answer (after_head old.stage (head_of kind len))
says_by old new kind len answer call = call.says ∙ ap head_answer call.left_is

pub skip_exactly : (old new : Login) (kind len : ℕ) (answer : Result LoginHead LinkError)
    → HeadCall old new kind len answer → (frames : List Frame) (frame : Frame) → HasRead old frames
    → HasHead frame kind len → (answer ≡ Ok Skip)
    ↔ (GoOn (frames ++ frame ∷ []) × (body_part kind len ≡ None))
skip_exactly old new kind len answer call frames frame leads at =
    along _ _ _ _ (says_by old new kind len answer call)
    (skip_by frames frame old.stage (head_of kind len) leads (message_at frame kind len at))

pub body_exactly : (old new : Login) (kind len : ℕ) (answer : Result LoginHead LinkError)
    → HeadCall old new kind len answer → (frames : List Frame) → HasRead old frames → (n : ℕ)
    → (answer ≡ Ok (ReadBody n)) ↔ (GoOn frames × (body_part kind len ≡ Some n))
body_exactly old new kind len answer call frames leads n =
    along _ _ _ _ (says_by old new kind len answer call)
    (body_by frames old.stage (head_of kind len) n leads)

pub head_refused : (old new : Login) (kind len : ℕ) (answer : Result LoginHead LinkError)
    → HeadCall old new kind len answer → (frames : List Frame) (frame : Frame) → HasRead old frames
    → HasHead frame kind len → (error : LinkError) → (answer ≡ Err error)
    ↔ (IsRefused error (frames ++ frame ∷ []) × (GoOn frames → body_part kind len ≡ None))
head_refused old new kind len answer call frames frame leads at error =
    along _ _ _ _ (says_by old new kind len answer call)
    (refused_by frames frame old.stage (head_of kind len) error leads
    (message_at frame kind len at))

pub refused_again : (old new : Login) (kind len : ℕ) (answer : Result LoginHead LinkError)
    → HeadCall old new kind len answer → (frames : List Frame) → HasRead old frames
    → (error : LinkError) → IsRefused error frames → answer ≡ Err error
refused_again old new kind len answer call frames leads error refused =
    says_by old new kind len answer call
    ∙ again_by frames old.stage (head_of kind len) error leads refused

pub reads_on : (old new : Login) (kind len : ℕ) (answer : Result LoginHead LinkError)
    → HeadCall old new kind len answer → (frames : List Frame) → HasRead old frames
    → ReadsOn answer new frames kind len
reads_on old new kind len answer call frames leads =
    subst (λ (r : Result LoginHead LinkError). ReadsOn r new frames kind len)
    (sym (says_by old new kind len answer call))
    (read_by frames kind len old.stage new leads call.left_is)
