-- A request that is read from a client, message by message.
use Rattle.std.proofs.Common.{IfSome, ◌≡◌, ◌⊎◌, ◌<◌, arith, length-append, inl, inr, ℕ, Bool, true, false, Option, Some, None, List, [], ◌∷◌, ◌++◌, length, refl, sym, ap, ◌∙◌, subst, append_assoc, append-nil}
use Rattle.pg_frames.specs.declared.frame.Frame.{Frame}
use Rattle.pg_frames.specs.FrameText.{text, texts, IsFrame, BeginsNoFrame}
use Rattle.client_state.specs.Acts.{ActsOn, ActsOnClient, asks, ends, fatal}
use Rattle.client_state.specs.Session.{Session}
use Rattle.client_state.specs.ClientMessage.{client_message}
use Rattle.client_state.specs.Request.{AreGathered, IsRequest}
use Rattle.client_state.specs.declared.act.Act.{Act}
use Rattle.client_state.specs.declared.act.Act.TheVariants.{ToLink, ToClient, Need, Release, Close, End as Ends}
use Rattle.client_state.specs.declared.client_message.ClientMessage.{ClientMessage}
use Rattle.client_state.specs.declared.client_message.ClientMessage.TheVariants as message
use Rattle.session_io.specs.declared.session.requests.Found.{Found}
use Rattle.session_io.specs.declared.session.requests.Found.TheVariants.{More, Request, End}
use Rattle.session_io.specs.Asking.{IsSaid}
use Rattle.session_io.specs.Progress.{asking}
use Rattle.session_io.specs.Finding.{gathering, Comes, Finds}

-- what follows a message that was gathered
comes_later : (limit : ℕ) (leased : Bool) (database : ℕ) (gathered kept more : List ℕ)
    (frame : Frame) (parts : List Frame)
    (last : Frame) (says : ClientMessage) (left : List ℕ) → IsFrame limit frame
    → client_message limit (length gathered) frame ≡ message.Gathered → kept ≡ text frame ++ more
    → Comes limit (gathering limit leased database (gathered ++ text frame)) more parts last says
    left
    → Comes limit (gathering limit leased database gathered) kept (frame ∷ parts) last says left
comes_later limit leased database gathered kept more frame parts last says left is means whole
    comes = record {
      whole = whole ∙ ap (λ xs. text frame ++ xs) comes.whole
          ∙ sym (append_assoc (text frame) (texts parts) (text last ++ left));
      gathered = (is, means, comes.gathered);
      is_frame = comes.is_frame;
      means = ap (λ xs. client_message limit (length xs) last)
          (sym (append_assoc gathered (text frame) (texts parts))) ∙ comes.means;
    }

pub finds_later : (limit : ℕ) (leased : Bool) (database : ℕ) (gathered kept more : List ℕ)
    (frame : Frame) (found : Found)
    (new : Session) (left : List ℕ) → IsFrame limit frame
    → client_message limit (length gathered) frame ≡ message.Gathered → kept ≡ text frame ++ more
    → Finds limit (gathering limit leased database (gathered ++ text frame)) more found new left
    → Finds limit (gathering limit leased database gathered) kept found new left
finds_later limit leased database gathered kept more frame More new left is means whole finds = (
  frame ∷ finds.0,
  whole ∙ ap (λ xs. text frame ++ xs) finds.1
      ∙ sym (append_assoc (text frame) (texts finds.0) left),
  (is, means, finds.2),
  finds.3,
  finds.4
      ∙ ap (λ xs. gathering limit leased database xs) (append_assoc gathered (text frame) (texts
      finds.0)),
)
finds_later limit leased database gathered kept more frame (Request request) new left is means
    whole finds = (
      frame ∷ finds.0,
      finds.1,
      comes_later limit leased database gathered kept more frame finds.0 finds.1 message.Request left
          is means whole
          finds.2,
      finds.3 ∙ ap (λ xs. xs ++ text finds.1) (append_assoc gathered (text frame) (texts finds.0)),
      finds.4,
    )
finds_later limit leased database gathered kept more frame (End reply) new left is means whole
    finds =
    elim finds [
      | inl says ↦ inl (
        frame ∷ says.0,
        says.1,
        says.2,
        comes_later limit leased database gathered kept more frame says.0 says.1 says.2 left is
            means whole
            says.3,
        says.4,
      )
      | inr memory ↦ inr (
        frame ∷ memory.0,
        memory.1,
        whole ∙ ap (λ xs. text frame ++ xs) memory.2
            ∙ sym (append_assoc (text frame) (texts memory.0) memory.1),
        (is, means, memory.3),
        memory.4,
      )
    ]

-- memory was refused at once
pub finds_no_memory : (limit : ℕ) (old new : Session) (kept left : List ℕ) (reply : List ℕ)
    → reply ≡ []
    → Finds limit old kept (End reply) new left
finds_no_memory limit old new kept left reply is = inr ([], kept, refl, tt, is)

-- the message is the first of what is there
comes_first : (limit : ℕ) (leased : Bool) (database : ℕ) (gathered kept left : List ℕ)
    (frame : Frame) (says : ClientMessage)
    → IsFrame limit frame → kept ≡ text frame ++ left
    → client_message limit (length gathered) frame ≡ says
    → Comes limit (gathering limit leased database gathered) kept [] frame says left
comes_first limit leased database gathered kept left frame says is whole means = record {
  whole = whole;
  gathered = tt;
  is_frame = is;
  means = ap (λ xs. client_message limit (length xs) frame) (append-nil gathered) ∙ means;
}

-- the request in an act, the reply with which it ends the session, and whether it only goes on
abbrev pub request_in : Act → Option (List ℕ)
request_in (ToLink text) = Some text
request_in (Need text) = Some text
request_in (ToClient text) = None
request_in (Release text) = None
request_in (Close text) = None
request_in (Ends text) = None

abbrev pub reply_in : Act → Option (List ℕ)
reply_in (Close text) = Some text
reply_in (Ends text) = Some text
reply_in (ToLink text) = None
reply_in (Need text) = None
reply_in (ToClient text) = None
reply_in (Release text) = None

abbrev goes_on : Act → Bool
goes_on (ToClient text) = true
goes_on (ToLink text) = false
goes_on (Need text) = false
goes_on (Release text) = false
goes_on (Close text) = false
goes_on (Ends text) = false

pub asked_in : (act : Act) (request : List ℕ) → (act ≡ ToLink request) ⊎ (act ≡ Need request)
    → request_in act ≡ Some request
asked_in act request is = elim is [ inl to ↦ ap request_in to | inr need ↦ ap request_in need ]

pub ended_in : (act : Act) (reply : List ℕ) → (act ≡ Close reply) ⊎ (act ≡ Ends reply)
    → reply_in act ≡ Some reply
ended_in act reply is = elim is [ inl close ↦ ap reply_in close | inr end ↦ ap reply_in end ]

some_same : (a b : List ℕ) → Some a ≡ Some b → a ≡ b
some_same a b is = cc

-- with a lease and without one, a request is asked and a session ended alike
asks_requests : (leased : Bool) (text : List ℕ) → request_in (asks leased text) ≡ Some text
asks_requests true text = refl
asks_requests false text = refl

asks_replies : (leased : Bool) (text : List ℕ) → reply_in (asks leased text) ≡ None
asks_replies true text = refl
asks_replies false text = refl

asks_goes : (leased : Bool) (text : List ℕ) → goes_on (asks leased text) ≡ false
asks_goes true text = refl
asks_goes false text = refl

ends_requests : (leased : Bool) (text : List ℕ) → request_in (ends leased text) ≡ None
ends_requests true text = refl
ends_requests false text = refl

ends_replies : (leased : Bool) (text : List ℕ) → reply_in (ends leased text) ≡ Some text
ends_replies true text = refl
ends_replies false text = refl

ends_goes : (leased : Bool) (text : List ℕ) → goes_on (ends leased text) ≡ false
ends_goes true text = refl
ends_goes false text = refl

-- what an act has is what it has by its equation
has_request : (act other : Act) (request : List ℕ) (found : Option (List ℕ)) → act ≡ other
    → request_in act ≡ Some request → request_in other ≡ found → found ≡ Some request
has_request act other request found is has other_is =
    sym other_is ∙ ap request_in (sym is) ∙ has

has_reply : (act other : Act) (reply : List ℕ) (found : Option (List ℕ)) → act ≡ other
    → reply_in act ≡ Some reply → reply_in other ≡ found → found ≡ Some reply
has_reply act other reply found is has other_is = sym other_is ∙ ap reply_in (sym is) ∙ has

has_gone : (act other : Act) (found : Bool) → act ≡ other → goes_on act ≡ true
    → goes_on other ≡ found → found ≡ true
has_gone act other found is has other_is = sym other_is ∙ ap goes_on (sym is) ∙ has

no_request : (request : List ℕ) → None ≡ Some request → ⊥
no_request request is = cc

not_true : false ≡ true → ⊥
not_true is = cc

-- the act on a message, by what it asks for
act_gathered : (limit : ℕ) (says : ClientMessage) (leased : Bool) (database : ℕ) (gathered : List ℕ)
    (frame : Frame) (act : Act) (new : Session) → goes_on act ≡ true
    → ActsOn says (gathering limit leased database gathered) frame act new
    → (says ≡ message.Gathered) × (new ≡ gathering limit leased database (gathered ++ text frame))
act_gathered limit message.Request leased database gathered frame act new has acts = elim acts [
  | inl is ↦ absurd (not_true (has_gone act _ false is.0 has (asks_goes leased (gathered ++ text
      frame))))
  | inr is ↦ absurd (not_true (has_gone act _ false is.0 has (ends_goes leased [])))
]
act_gathered limit message.Gathered leased database gathered frame act new has acts = elim acts [
  | inl is ↦ (refl, is.1)
  | inr is ↦ absurd (not_true (has_gone act _ false is.0 has (ends_goes leased [])))
]
act_gathered limit message.Terminate leased database gathered frame act new has acts = elim acts [
  | inl is ↦ absurd (not_true (has_gone act _ false is.0 has (ends_goes leased [])))
  | inr is ↦ absurd (not_true (has_gone act _ false is.0 has (ends_goes leased [])))
]
act_gathered limit (message.Refused code) leased database gathered frame act new has acts = elim
    acts [
      | inl is ↦ absurd (not_true (has_gone act _ false is.0 has (ends_goes leased (fatal code))))
      | inr is ↦ absurd (not_true (has_gone act _ false is.0 has (ends_goes leased [])))
    ]

act_request : (limit : ℕ) (says : ClientMessage) (leased : Bool) (database : ℕ) (gathered : List ℕ)
    (frame : Frame) (act : Act) (request : List ℕ) (new : Session)
    → request_in act ≡ Some request
    → ActsOn says (gathering limit leased database gathered) frame act new
    → (says ≡ message.Request) × (request ≡ gathered ++ text frame) × (new ≡ asking limit database)
act_request limit message.Request leased database gathered frame act request new has acts = elim
    acts [
      | inl is ↦ (
        refl,
        sym (some_same (gathered ++ text frame) request
            (has_request act _ request _ is.0 has (asks_requests leased (gathered ++ text frame)))),
        is.1,
      )
      | inr is ↦ absurd (no_request request (has_request act _ request None is.0 has (ends_requests
          leased [])))
    ]
act_request limit message.Gathered leased database gathered frame act request new has acts = elim
    acts [
      | inl is ↦ absurd (no_request request (has_request act _ request None is.0 has refl))
      | inr is ↦ absurd (no_request request (has_request act _ request None is.0 has (ends_requests
          leased [])))
    ]
act_request limit message.Terminate leased database gathered frame act request new has acts = elim
    acts [
      | inl is ↦ absurd (no_request request (has_request act _ request None is.0 has (ends_requests
          leased [])))
      | inr is ↦ absurd (no_request request (has_request act _ request None is.0 has (ends_requests
          leased [])))
    ]
act_request limit (message.Refused code) leased database gathered frame act request new has acts =
    elim acts [
      | inl is ↦ absurd (no_request request (has_request act _ request None is.0 has (ends_requests
          leased (fatal code))))
      | inr is ↦ absurd (no_request request (has_request act _ request None is.0 has (ends_requests
          leased [])))
    ]

-- the session ends without an error where memory was refused
act_silent : (leased : Bool) (act : Act) (reply : List ℕ) → reply_in act ≡ Some reply
    → act ≡ ends leased [] → reply ≡ []
act_silent leased act reply has is =
    sym (some_same [] reply (has_reply act _ reply _ is has (ends_replies leased [])))

act_close : (limit : ℕ) (says : ClientMessage) (leased : Bool) (database : ℕ) (gathered : List ℕ)
    (frame : Frame) (act : Act) (reply : List ℕ) (new : Session) → reply_in act ≡ Some reply
    → ActsOn says (gathering limit leased database gathered) frame act new
    → IsSaid says reply ⊎ (reply ≡ [])
act_close limit message.Request leased database gathered frame act reply new has acts = elim acts [
  | inl is ↦ absurd (no_request reply (has_reply act _ reply None is.0 has (asks_replies leased
      (gathered ++ text frame))))
  | inr is ↦ inr (act_silent leased act reply has is.0)
]
act_close limit message.Gathered leased database gathered frame act reply new has acts = elim acts [
  | inl is ↦ absurd (no_request reply (has_reply act _ reply None is.0 has refl))
  | inr is ↦ inr (act_silent leased act reply has is.0)
]
act_close limit message.Terminate leased database gathered frame act reply new has acts = elim acts [
  | inl is ↦ inl (act_silent leased act reply has is.0)
  | inr is ↦ inr (act_silent leased act reply has is.0)
]
act_close limit (message.Refused code) leased database gathered frame act reply new has acts =
    elim acts [
      | inl is ↦ inl (inl (sym (some_same (fatal code) reply
          (has_reply act _ reply _ is.0 has (ends_replies leased (fatal code))))))
      | inr is ↦ inr (act_silent leased act reply has is.0)
    ]

-- the session as it is known
at_session : (limit : ℕ) (old : Session) (frame : Frame) (act : Act) (new : Session)
    → old ≡ gathering limit old.leased old.database old.gathered → ActsOnClient old frame act new
    → ActsOn (client_message limit (length old.gathered) frame) (gathering limit old.leased
    old.database old.gathered)
    frame act new
at_session limit old frame act new is acts =
    let here : ActsOn (client_message limit (length old.gathered) frame) old frame act new =
    subst (λ (n : ℕ). ActsOn (client_message n (length old.gathered) frame) old frame act new)
    (ap (λ (s : Session). s.limit) is) acts in
    subst (λ (s : Session). ActsOn (client_message limit
    (length old.gathered) frame) s frame act new) is
    here

-- a message that is gathered
pub gathers : (limit : ℕ) (old : Session) (frame : Frame) (reply : List ℕ) (new : Session)
    → old ≡ gathering limit old.leased old.database old.gathered
    → ActsOnClient old frame (ToClient reply) new
    → (client_message limit (length old.gathered) frame ≡ message.Gathered)
    × (new ≡ gathering limit old.leased old.database (old.gathered ++ text frame))
gathers limit old frame reply new is acts =
    act_gathered limit (client_message limit (length old.gathered) frame) old.leased old.database
    old.gathered
    frame (ToClient reply) new refl (at_session limit old frame (ToClient reply) new is acts)

-- a message with which a request is whole
pub finds_request : (limit : ℕ) (old new : Session) (kept left request : List ℕ) (act : Act)
    (frame : Frame)
    → request_in act ≡ Some request
    → old ≡ gathering limit old.leased old.database old.gathered → IsFrame limit frame
    → kept ≡ text frame ++ left
    → ActsOnClient old frame act new
    → Finds limit (gathering limit old.leased old.database old.gathered) kept (Request request) new
    left
finds_request limit old new kept left request act frame has is frame_is whole acts =
    let asked = act_request limit (client_message limit (length old.gathered) frame) old.leased
    old.database
    old.gathered frame act request new has (at_session limit old frame act new is acts) in (
      [],
      frame,
      comes_first limit old.leased old.database old.gathered kept left frame message.Request
          frame_is whole asked.0,
      asked.1 ∙ ap (λ xs. xs ++ text frame) (sym (append-nil old.gathered)),
      asked.2,
    )

-- a message that ends the session
pub finds_end : (limit : ℕ) (old new : Session) (kept left reply : List ℕ) (act : Act)
    (frame : Frame)
    → reply_in act ≡ Some reply
    → old ≡ gathering limit old.leased old.database old.gathered → IsFrame limit frame
    → kept ≡ text frame ++ left
    → ActsOnClient old frame act new
    → Finds limit (gathering limit old.leased old.database old.gathered) kept (End reply) new left
finds_end limit old new kept left reply act frame has is frame_is whole acts =
    let says = client_message limit (length old.gathered) frame in
    elim (act_close limit says old.leased old.database old.gathered frame act reply new has
    (at_session limit old frame act new is acts)) [
      | inl said ↦ inl (
        [],
        frame,
        says,
        comes_first limit old.leased old.database old.gathered kept left frame says frame_is whole
            refl,
        said,
      )
      | inr none ↦ finds_no_memory limit (gathering limit old.leased old.database old.gathered) new
          kept left reply none
    ]

-- no more whole message is there
pub finds_more : (limit : ℕ) (session : Session) (kept left : List ℕ)
    → session ≡ gathering limit session.leased session.database session.gathered
    → BeginsNoFrame limit kept → left ≡ kept
    → Finds limit (gathering limit session.leased session.database session.gathered) kept More
    session left
finds_more limit session kept left is none same = (
  [],
  sym same,
  tt,
  subst (BeginsNoFrame limit) (sym same) none,
  is
      ∙ ap (λ xs. gathering limit session.leased session.database xs) (sym (append-nil
      session.gathered)),
)

-- a message was gathered, and the next is looked for
pub gathered_on : (limit : ℕ) (old session new : Session) (start kept left reply : List ℕ)
    (frame : Frame)
    → session ≡ gathering limit session.leased session.database session.gathered
    → IsFrame limit frame
    → kept ≡ text frame ++ left → ActsOnClient session frame (ToClient reply) new
    → ((found : Found) (last : Session) (rest : List ℕ)
    → Finds limit (gathering limit session.leased session.database session.gathered) kept found
    last rest
    → Finds limit old start found last rest)
    → (new ≡ gathering limit new.leased new.database new.gathered)
    × ((found : Found) (last : Session) (rest : List ℕ)
    → Finds limit (gathering limit new.leased new.database new.gathered) left found last rest
    → Finds limit old start found last rest)
gathered_on limit old session new start kept left reply frame is frame_is whole acts before =
    let act = gathers limit session frame reply new is acts in
    let same : new ≡ gathering limit new.leased new.database new.gathered =
    subst (λ (s : Session). s ≡ gathering limit s.leased s.database s.gathered) (sym act.1) refl in (
      same,
      λ found last rest finds. before found last rest (
          finds_later limit session.leased session.database session.gathered kept left frame found
          last rest frame_is act.0
          whole
          (subst (λ (s : Session). Finds limit s left found last rest) (sym same ∙ act.1) finds)
          ),
    )

-- a frame takes bytes
pub some_text : (frame : Frame) (kept left : List ℕ) → kept ≡ text frame ++ left
    → length left < length kept
unfolding text
some_text frame kept left whole =
    omega (arith, ap length whole, length-append (text frame) left)

-- the frame that a cutter of this limit handed out
pub frame_at : (limit at : ℕ) (found : Option Frame) (frame : Frame) (kept left : List ℕ)
    → at ≡ limit → found ≡ Some frame
    → IfSome found (λ f. IsFrame at f × (kept ≡ text f ++ left))
    → IsFrame limit frame × (kept ≡ text frame ++ left)
frame_at limit at found frame kept left same is has =
    let came : IsFrame at frame × (kept ≡ text frame ++ left) =
    subst (λ (o : Option Frame). IfSome o (λ f. IsFrame at f × (kept ≡ text f ++ left))) is has in
    (subst (λ (n : ℕ). IsFrame n frame) same came.0, came.1)

-- all that was read is one request
pub finds_whole : (limit : ℕ) (old new : Session) (kept request left : List ℕ)
    → old ≡ gathering limit old.leased old.database old.gathered → old.gathered ≡ []
    → IsRequest limit kept → request ≡ kept → left ≡ []
    → new ≡ record old { leased = true; outstanding = 1 }
    → Finds limit old kept (Request request) new left
finds_whole limit old new kept request left is none asked same nothing new_is =
    let parts = asked.0 in
    let last = asked.1 in (
      parts,
      last,
      record {
        whole = asked.3 ∙ ap (λ xs. texts parts ++ xs)
            (sym (ap (λ xs. text last ++ xs) nothing ∙ append-nil (text last)));
        gathered = subst (λ (xs : List ℕ). AreGathered limit xs parts) (sym none)
            asked.2.gathered;
        is_frame = asked.2.is_frame;
        means = ap (λ xs. client_message limit (length (xs ++ texts parts)) last) none
            ∙ asked.2.means;
      },
      same ∙ asked.3 ∙ ap (λ xs. (xs ++ texts parts) ++ text last) (sym none),
      new_is ∙ ap (λ (s : Session). record s { leased = true; outstanding = 1 }) is
          ∙ ap (λ xs. record (asking limit old.database) { gathered = xs }) none,
    )
