-- What `on_body` returns, against the messages that were read.
use Rattle.std.proofs.Common.{◌≡◌, ◌↔◌, ℕ, ◌+◌, ◌==◌, Bool, true, if◌then◌else◌, List, [], ◌∷◌, ◌++◌, length, Some, Result, Ok, Err, sym, ap, subst, ◌∙◌, arith}
use Rattle.std.proofs.lemmas.Bool.Decides.{nat_tests}
use Rattle.pg_frames.specs.declared.frame.Frame.{Frame}
use Rattle.link_state.specs.declared.act.LinkAct.{LinkAct}
use Rattle.link_state.specs.declared.act.LinkAct.TheVariants.{More, Up}
use Rattle.link_state.specs.declared.error.LinkError.{LinkError}
use Rattle.link_state.specs.declared.head.Head.{Head}
use Rattle.link_state.specs.declared.head.Head.TheVariants.{Body}
use Rattle.link_state.specs.declared.part.Part.{Part}
use Rattle.link_state.specs.declared.stage.Stage.{Stage}
use Rattle.link_state.specs.declared.stage.Stage.TheVariants.{Waiting, Reading, Done, Refused}
use Rattle.link_state.specs.declared.message.Message.{Message}
use Rattle.link_state.specs.Message.{message, message_of, message_in, head_of, part_of, part_len}
use Rattle.link_state.specs.Login.{Login, GoOn, HasRead, IsUpAt, IsRefused, LeadTo, LeadInto, body_part, Reaches}
use Rattle.link_state.specs.Stages.{outcome, after_body, body_answer}
use Rattle.link_state.proofs.StageLemmas.{leads_on, waits_exactly, up_exactly, refused_exactly}
use Rattle.link_state.proofs.HeadLemmas.{along, part_alone}

-- a part has as many bytes as its head asks for
part_size : (part : Part) (kind len n : ℕ) → head_of kind len ≡ Body part
    → body_part kind len ≡ Some n → n ≡ part_len part
part_size part kind len n head asked =
    let asks : body_part kind len ≡ Some (part_len part) = ap part_of head in cc

size_test : (a b : ℕ) → a ≡ b → (a == b) ≡ true
size_test a b same = grind (arith, nat_tests)

-- the stage after the part is that after the whole message
body_leads : (frames : List Frame) (frame : Frame) (bytes rest : List ℕ) (stage : Stage)
    → LeadInto frames frame.kind (4 + length frame.body) stage → frame.body ≡ bytes ++ rest
    → body_part frame.kind (4 + length frame.body) ≡ Some (length bytes)
    → LeadTo (frames ++ frame ∷ []) (after_body stage bytes)
body_leads frames frame bytes rest (Waiting key) into body asked = absurd into
body_leads frames frame bytes rest (Reading part key) into body asked =
    let head : head_of frame.kind (4 + length (bytes ++ rest)) ≡ Body part =
    subst (λ (b : List ℕ). head_of frame.kind (4 + length b) ≡ Body part) body into.1 in
    let size : length bytes ≡ part_len part =
    part_size part frame.kind (4 + length frame.body) (length bytes) into.1 asked in
    let by_head : message frame ≡ message_in part frame.body =
    ap (λ (h : Head). message_of h frame.body) into.1 in
    let by_part : message frame ≡ message_in part bytes =
    by_head ∙ ap (message_in part) body ∙ part_alone part frame.kind bytes rest head size in
    let whole : LeadTo (frames ++ frame ∷ []) (outcome (message_in part bytes) key) =
    subst (λ (m : Message). LeadTo (frames ++ frame ∷ []) (outcome m key)) by_part
    (leads_on frames (Waiting key) frame into.0) in
    subst (λ (b : Bool). LeadTo (frames ++ frame ∷ [])
    (if b then outcome (message_in part bytes) key else Reading part key))
    (sym (size_test (length bytes) (part_len part) size)) whole
body_leads frames frame bytes rest (Done key) into body asked = absurd into
body_leads frames frame bytes rest (Refused error) into body asked = absurd into

-- one call of `on_body`: the login that it found and the one that it left, and its answer
pub record BodyCall (old new : Login) (bytes : List ℕ) (answer : Result LinkAct LinkError) : Type 0
  where
    pub left_is : new.stage ≡ after_body old.stage bytes
    pub says : answer ≡ body_answer new.stage

pub reads_whole : (old new : Login) (bytes : List ℕ) (answer : Result LinkAct LinkError)
    → BodyCall old new bytes answer → (frames : List Frame) (frame : Frame)
    → Reaches old frames frame bytes → HasRead new (frames ++ frame ∷ [])
reads_whole old new bytes answer call frames frame at =
    subst (λ (s : Stage). LeadTo (frames ++ frame ∷ []) s) (sym call.left_is)
    (body_leads frames frame bytes at.rest old.stage at.begun at.body at.part)

-- what is returned at each stage
on_where_more : (frames : List Frame) (stage : Stage) → LeadTo frames stage
    → body_answer stage ≡ Ok More → GoOn frames
on_where_more frames (Waiting key) leads is = leads.go_on
on_where_more frames (Reading part key) leads is = absurd leads
on_where_more frames (Done key) leads is = cc
on_where_more frames (Refused error) leads is = cc

done_where_up : (stage : Stage) (key : List ℕ) → body_answer stage ≡ Ok (Up key) → stage ≡ Done key
done_where_up (Waiting other) key is = cc
done_where_up (Reading part other) key is = cc
done_where_up (Done other) key is = cc
done_where_up (Refused error) key is = cc

refused_where_err : (stage : Stage) (error : LinkError) → body_answer stage ≡ Err error
    → stage ≡ Refused error
refused_where_err (Waiting key) error is = cc
refused_where_err (Reading part key) error is = cc
refused_where_err (Done key) error is = cc
refused_where_err (Refused other) error is = cc

pub more_exactly : (old new : Login) (bytes : List ℕ) (answer : Result LinkAct LinkError)
    → BodyCall old new bytes answer → (frames : List Frame) (frame : Frame)
    → Reaches old frames frame bytes → (answer ≡ Ok More) ↔ GoOn (frames ++ frame ∷ [])
more_exactly old new bytes answer call frames frame at =
    let leads : LeadTo (frames ++ frame ∷ []) new.stage =
    reads_whole old new bytes answer call frames frame at in
    along _ _ _ _ call.says (
      λ is. on_where_more (frames ++ frame ∷ []) new.stage leads is,
      λ go_on. ap body_answer ((waits_exactly (frames ++ frame ∷ []) new.stage leads).1 go_on),
    )

pub up_at : (old new : Login) (bytes : List ℕ) (answer : Result LinkAct LinkError)
    → BodyCall old new bytes answer → (frames : List Frame) (frame : Frame)
    → Reaches old frames frame bytes → (key : List ℕ) → (answer ≡ Ok (Up key))
    ↔ IsUpAt frames frame key
up_at old new bytes answer call frames frame at key =
    let leads : LeadTo (frames ++ frame ∷ []) new.stage =
    reads_whole old new bytes answer call frames frame at in
    along _ _ _ _ call.says (
      λ is. (up_exactly frames frame new.stage key leads).0 (done_where_up new.stage key is),
      λ up. ap body_answer ((up_exactly frames frame new.stage key leads).1 up),
    )

pub body_refused : (old new : Login) (bytes : List ℕ) (answer : Result LinkAct LinkError)
    → BodyCall old new bytes answer → (frames : List Frame) (frame : Frame)
    → Reaches old frames frame bytes → (error : LinkError) → (answer ≡ Err error)
    ↔ IsRefused error (frames ++ frame ∷ [])
body_refused old new bytes answer call frames frame at error =
    let leads : LeadTo (frames ++ frame ∷ []) new.stage =
    reads_whole old new bytes answer call frames frame at in
    along _ _ _ _ call.says (
      λ is. (refused_exactly (frames ++ frame ∷ []) new.stage error leads).0
          (refused_where_err new.stage error is),
      λ refused. ap body_answer
          ((refused_exactly (frames ++ frame ∷ []) new.stage error leads).1 refused),
    )
