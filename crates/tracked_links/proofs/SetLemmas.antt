-- What a sink has taken, and how a query of the pooler's own ends.
use Rattle.std.proofs.Common.{◌≡◌, ◌∙◌, ℕ, ◌≤◌, Bool, true, false, Ok, Err, List, [], ◌∷◌, ◌++◌, length, take, drop, sym, ap, subst, arith, append_assoc, append-nil, take-append-drop}
use Rattle.std.proofs.lemmas.List.{take_all, drop_all}
use Rattle.peer_forward.specs.Calls.{Call, WriteCall, ReadCall, Effect, Makes, taken}
use Rattle.pg_frames.specs.FrameText.{texts}
use Rattle.pg_frames.specs.Passage.{Passage}
use Rattle.client_state.specs.Session.{Session}
use Rattle.link_state.specs.FirstError.{IsFirstError}
use Rattle.session_io.specs.Progress.{LeavesBehind}
use Rattle.session_io.specs.Stay.{Stay}
use Rattle.session_io.specs.StreamCalls.{SomeCalls}
use Rattle.session_io.specs.declared.session.outcome.Stayed.{Stayed}
use Rattle.session_io.specs.declared.session.outcome.Stayed.TheVariants.{Release}
use Rattle.tracked_links.specs.declared.sets.SetEnd.{SetEnd}
use Rattle.tracked_links.specs.declared.sets.SetEnd.TheVariants.{Set, Refused, Lost}
use Rattle.tracked_links.specs.Sets.{SinkView, HasTaken, Takes, GivesNothing, IsEnd, SetsLink, HasAnswered, IsRefusal, IsSet}

-- a sink after these calls
pub taken_by : (calls : List Call) (old new : SinkView) (text : List ℕ) → Makes Takes GivesNothing old calls new → HasTaken old text → HasTaken new (text ++ taken calls)
taken_by [] old new text made has =
    subst (HasTaken new) (sym (append-nil text)) (subst (λ (s : SinkView). HasTaken s text) (sym made) has)
taken_by (WriteCall bytes (Ok count) ∷ calls) old new text made has =
    let wrote : Takes old bytes (Ok count) made.0 = made.1 in
    let all = wrote.all in
    let count_is : count ≡ length bytes = cc in
    let bytes_are : take count bytes ≡ bytes = ap (λ (n : ℕ). take n bytes) count_is ∙ take_all (length bytes) bytes (omega arith) in
    subst (HasTaken new)
    (append_assoc text bytes (taken calls) ∙ ap (λ (xs : List ℕ). text ++ (xs ++ taken calls)) (sym bytes_are))
    (taken_by calls made.0 new (text ++ bytes) made.2 (wrote.took text has))
taken_by (WriteCall bytes (Err error) ∷ calls) old new text made has =
    let wrote : Takes old bytes (Err error) made.0 = made.1 in
    let all = wrote.all in
    absurd (cc)
taken_by (ReadCall buffer result ∷ calls) old new text made has =
    let gave : GivesNothing old buffer result made.0 = made.1 in
    taken_by calls made.0 new text made.2 (subst (λ (s : SinkView). HasTaken s text) (sym gave.same) has)

-- the first error stays so, whatever follows
error_stays : (kept rest error : List ℕ) → IsFirstError kept error → IsFirstError (kept ++ rest) error
error_stays kept rest error is = record {
  before = is.before;
  frame = is.frame;
  after = is.after ++ rest;
  each = is.each;
  others = is.others;
  is_message = is.is_message;
  kind_is = is.kind_is;
  error_is = is.error_is;
  whole = ap (λ (xs : List ℕ). xs ++ rest) is.whole
      ∙ append_assoc (texts is.before) (error ++ is.after) rest
      ∙ ap (λ (xs : List ℕ). texts is.before ++ xs) (append_assoc error is.after rest);
}

-- all that was written is kept
all_kept : (sink : SinkView) (answer : List ℕ) → HasTaken sink answer → sink.is_over ≡ false → answer ≡ sink.kept
all_kept sink answer has none =
    has.begins ∙ ap (λ (xs : List ℕ). sink.kept ++ xs) (has.whole none) ∙ append-nil sink.kept

-- the end, by what the sink took
pub ends_by : (limit : ℕ) (end : SetEnd) (sink : SinkView) (answer : List ℕ) (outcome : Stayed) (old new : Session) (flow : Passage) → HasTaken sink answer → HasAnswered sink outcome end → LeavesBehind limit outcome old new flow → IsEnd limit end answer outcome flow
ends_by limit Set sink answer outcome old new flow has answered leaves = (
  answered.0,
  (subst (λ (o : Stayed). LeavesBehind limit o old new flow) answered.0 leaves).1,
  λ error is. answered.2 error (subst (λ (xs : List ℕ). IsFirstError xs error) (all_kept sink answer has answered.1) is),
)
ends_by limit (Refused error) sink answer outcome old new flow has answered leaves = (
  answered.0,
  (subst (λ (o : Stayed). LeavesBehind limit o old new flow) answered.0 leaves).1,
  subst (λ (xs : List ℕ). IsFirstError xs error.items) (sym has.begins) (error_stays sink.kept has.rest error.items answered.1),
)
ends_by limit Lost sink answer outcome old new flow has answered leaves = tt

-- what a sink has taken with these bytes more
pub took_some : (old new : SinkView) (bytes : List ℕ) (count : ℕ) → old.is_over ≡ false → new.kept ≡ old.kept ++ take count bytes → (new.is_over ≡ false → length bytes ≤ count) → (text : List ℕ) → HasTaken old text → HasTaken new (text ++ bytes)
took_some old new bytes count none kept whole text has =
    let text_is : text ≡ old.kept = all_kept old text has none in
    record {
      rest = drop count bytes;
      begins = ap (λ (xs : List ℕ). xs ++ bytes) text_is
          ∙ ap (λ (xs : List ℕ). old.kept ++ xs) (sym (take-append-drop count bytes))
          ∙ sym (append_assoc old.kept (take count bytes) (drop count bytes))
          ∙ ap (λ (xs : List ℕ). xs ++ drop count bytes) (sym kept);
      whole = λ over. drop_all count bytes (whole over);
    }

-- it keeps no more
pub took_none : (old new : SinkView) (bytes : List ℕ) → new.kept ≡ old.kept → new.is_over ≡ true → (text : List ℕ) → HasTaken old text → HasTaken new (text ++ bytes)
took_none old new bytes same over text has = record {
  rest = has.rest ++ bytes;
  begins = ap (λ (xs : List ℕ). xs ++ bytes) has.begins ∙ append_assoc old.kept has.rest bytes
      ∙ ap (λ (xs : List ℕ). xs ++ (has.rest ++ bytes)) (sym same);
  whole = λ none. absurd (cc);
}

-- what a stay says of it
pub sets_by : {L : Type 0} (wrote gave : Effect L) (old new : L) (sink took : SinkView) (limit given : ℕ) (query request before kept left : List ℕ) (outcome : Stayed) (end : SetEnd) (was now : Session) (flow : Passage) → given ≡ limit → request ≡ query → before ≡ [] → kept ≡ [] → SomeCalls wrote gave old new (λ on_link. SomeCalls Takes GivesNothing sink took (λ on_sink. Stay given request before kept on_link on_sink outcome left)) → LeavesBehind given outcome was now flow → HasTaken sink [] → HasAnswered took outcome end → SomeCalls wrote gave old new (λ on_link. SetsLink limit query on_link end flow)
sets_by wrote gave old new sink took limit given query request before kept left outcome end was now flow limits queries befores kepts stays leaves none answered =
    let on_link = stays.0 in
    let on_sink = stays.2.0 in (
      on_link,
      stays.1,
      record {
        on_sink = on_sink;
        outcome = outcome;
        left = left;
        stays = subst (λ (n : ℕ). Stay n query [] [] on_link on_sink outcome left) limits
            (subst (λ (xs : List ℕ). Stay given xs [] [] on_link on_sink outcome left) queries
            (subst (λ (xs : List ℕ). Stay given request xs [] on_link on_sink outcome left) befores
            (subst (λ (xs : List ℕ). Stay given request before xs on_link on_sink outcome left) kepts stays.2.2)));
        ends = ends_by limit end took (taken on_sink) outcome was now flow (taken_by on_sink sink took [] stays.2.1 none) answered
            (subst (λ (n : ℕ). LeavesBehind n outcome was now flow) limits leaves);
      },
    )

-- how it ended, by the first error among what is kept
pub answered_refused : (end : SetEnd) (sink : SinkView) (kept error : List ℕ) (outcome : Stayed) → kept ≡ sink.kept → outcome ≡ Release → IsFirstError kept error → IsRefusal error end → HasAnswered sink outcome end
answered_refused Set sink kept error outcome same release first is = absurd is
answered_refused (Refused copy) sink kept error outcome same release first is =
    (release, subst (λ (xs : List ℕ). IsFirstError sink.kept xs) (sym is) (subst (λ (xs : List ℕ). IsFirstError xs error) same first))
answered_refused Lost sink kept error outcome same release first is = tt

pub answered_set : (end : SetEnd) (sink : SinkView) (kept : List ℕ) (is_over : Bool) (outcome : Stayed) → kept ≡ sink.kept → is_over ≡ sink.is_over → outcome ≡ Release → ((error : List ℕ) → IsFirstError kept error → ⊥) → IsSet is_over end → HasAnswered sink outcome end
answered_set Set sink kept is_over outcome same over release none is =
    (release, sym over ∙ is, λ error first. none error (subst (λ (xs : List ℕ). IsFirstError xs error) (sym same) first))
answered_set (Refused error) sink kept is_over outcome same over release none is = absurd is
answered_set Lost sink kept is_over outcome same over release none is = tt

-- a query that is handed out whole
pub whole_query : (count : ℕ) (query : List ℕ) → count ≡ length query → take count query ≡ query
whole_query count query is = ap (λ (n : ℕ). take n query) is ∙ take_all (length query) query (omega arith)
