-- The next request of a client, or how it leaves.
use Rattle.std.proofs.Common.{◌≡◌, inl, inr, ℕ, Bool, List, [], ◌∷◌, ◌++◌, length, None, Some, Ok, Err, refl, sym, ap, ◌∙◌, subst, append_assoc, append-nil}
use Rattle.pg_frames.proofs.CutLemmas.{texts-append}
use Rattle.peer_forward.specs.Calls.{Call, Effect, Makes}
use Rattle.pg_frames.specs.declared.frame.Frame.{Frame}
use Rattle.pg_frames.specs.declared.error.FrameError.{FrameError}
use Rattle.pg_frames.specs.declared.error.FrameError.TheVariants.{BadLength, TooLong, BadType, Memory}
use Rattle.pg_frames.specs.FrameText.{text, texts, BeginsNoFrame, fault_at, HasFault}
use Rattle.client_state.specs.Session.{Session}
use Rattle.client_state.specs.ClientMessage.{client_message}
use Rattle.client_state.specs.declared.client_message.ClientMessage.{ClientMessage}
use Rattle.client_state.specs.declared.client_message.ClientMessage.TheVariants as message
use Rattle.session_io.specs.declared.session.requests.Found.{Found}
use Rattle.session_io.specs.declared.session.requests.Found.TheVariants.{More, Request, End}
use Rattle.session_io.specs.StreamCalls.{SomeCalls, Read, ReadToEnd, IsFailedRead}
use Rattle.client_state.specs.Request.{AreGathered, Asks, request_of}
use Rattle.client_state.proofs.RequestLemmas.{gathered-append}
use Rattle.session_io.specs.Asking.{Says, Faulty, Silent, NoMemory}
use Rattle.session_io.specs.Progress.{asking}
use Rattle.session_io.specs.Finding.{gathering, Comes, Finds, Quits, IsRefusal, AsksNext}
use Rattle.pg_frames.specs.Pending.{Pending, with_piece}
use Rattle.peer_forward.proofs.CallLemmas.{Makes-append}
use Rattle.session_io.proofs.CallLists.{Read-append, Read-nothing, ReadToEnd-append, ReadToEnd-failed}
use Rattle.session_io.proofs.FaultLemmas.{fault_here}

-- a fault that stands ends the session
pub quits_faulty : (limit : ℕ) (kept : List ℕ) (error : FrameError) (reply : List ℕ)
    → BeginsNoFrame limit kept
    → HasFault limit kept (Some error) → IsRefusal error reply → Quits limit kept [] reply kept
quits_faulty limit kept BadLength reply none has wrong =
    inl (BadLength, refl, fault_here limit kept (Some BadLength) none has, refl, wrong)
quits_faulty limit kept TooLong reply none has wrong =
    inl (TooLong, refl, fault_here limit kept (Some TooLong) none has, refl, wrong)
quits_faulty limit kept BadType reply none has wrong =
    inl (BadType, refl, fault_here limit kept (Some BadType) none has, refl, wrong)
quits_faulty limit kept Memory reply none has wrong = inr (inr ([], Read-nothing, wrong))

-- nothing more comes of the client
pub quits_at_end : (limit : ℕ) (kept : List ℕ) (call : Call) (reply left : List ℕ)
    → IsFailedRead call → fault_at limit kept ≡ None → left ≡ kept → reply ≡ []
    → Quits limit kept (call ∷ []) reply left
quits_at_end limit kept call reply left failed none same wrong =
    inr (inl (ReadToEnd-failed call failed, none, same, wrong))

-- so far this was read of the client, and these messages gathered
pub record Awaiting {T : Type 0} (limit : ℕ) (wrote gave : Effect T) (old : T) (leased : Bool)
    (database : ℕ) (kept : List ℕ)
    (session : Session) (rest : List ℕ) (new : T) : Type 0 where
  pub calls : List Call
  pub made : Makes wrote gave old calls new
  pub bytes : List ℕ
  pub read : Read bytes calls
  pub parts : List Frame
  pub gathered : AreGathered limit [] parts
  pub whole : kept ++ bytes ≡ texts parts ++ rest
  pub session_is : session ≡ gathering limit leased database (texts parts)

pub awaiting_start : {T : Type 0} (limit : ℕ) (wrote gave : Effect T) (old : T) (leased : Bool)
    (database : ℕ)
    (kept : List ℕ) (session : Session) → session ≡ gathering limit leased database []
    → Awaiting limit wrote gave old leased database kept session kept old
awaiting_start limit wrote gave old leased database kept session is = record {
  calls = [];
  made = refl;
  bytes = [];
  read = Read-nothing;
  parts = [];
  gathered = tt;
  whole = append-nil kept;
  session_is = is;
}

-- what was found, as found from the session that is known
finds_at : {T : Type 0} (limit : ℕ) (wrote gave : Effect T) (old new : T) (leased : Bool)
    (database : ℕ) (kept : List ℕ)
    (session : Session) (rest : List ℕ) (found : Found) (session' : Session) (left : List ℕ)
    (so_far : Awaiting limit wrote gave old leased database kept session rest new)
    → Finds limit session rest found session' left
    → Finds limit (gathering limit leased database (texts so_far.parts)) rest found session' left
finds_at limit wrote gave old new leased database kept session rest found session' left so_far
    finds =
    subst (λ (s : Session). Finds limit s rest found session' left) so_far.session_is finds

-- messages more were gathered, but none made a request whole
pub awaiting_more : {T : Type 0} (limit : ℕ) (wrote gave : Effect T) (old new : T) (leased : Bool)
    (database : ℕ)
    (kept : List ℕ) (session session' : Session) (rest left : List ℕ)
    → Awaiting limit wrote gave old leased database kept session rest new
    → Finds limit session rest More session' left
    → Awaiting limit wrote gave old leased database kept session' left new
    × BeginsNoFrame limit left
awaiting_more limit wrote gave old new leased database kept session session' rest left so_far finds
    =
    let more = finds_at limit wrote gave old new leased database kept session rest More session'
    left so_far
    finds in
    let joined = texts-append so_far.parts more.0 in (
      record {
        calls = so_far.calls;
        made = so_far.made;
        bytes = so_far.bytes;
        read = so_far.read;
        parts = so_far.parts ++ more.0;
        gathered = gathered-append limit [] so_far.parts more.0 so_far.gathered more.2;
        whole = so_far.whole ∙ ap (λ xs. texts so_far.parts ++ xs) more.1
            ∙ sym (append_assoc (texts so_far.parts) (texts more.0) left)
            ∙ ap (λ xs. xs ++ left) (sym joined);
        session_is = more.4 ∙ ap (λ xs. gathering limit leased database xs) (sym joined);
      },
      more.3,
    )

-- more was read
pub awaiting_read : {T : Type 0} (limit : ℕ) (wrote gave : Effect T) (old new new' : T)
    (leased : Bool) (database : ℕ)
    (kept : List ℕ) (session session' : Session) (rest rest' : List ℕ)
    → Awaiting limit wrote gave old leased database kept session rest new
    → SomeCalls wrote gave new new'
    (λ calls. (bytes : List ℕ) × Read bytes calls × (rest' ≡ rest ++ bytes))
    → session' ≡ session → Awaiting limit wrote gave old leased database kept session' rest' new'
awaiting_read limit wrote gave old new new' leased database kept session session' rest rest' so_far
    more is =
    let bytes = more.2.0 in
    record {
      calls = so_far.calls ++ more.0;
      made = Makes-append wrote gave old new new' so_far.calls more.0 so_far.made more.1;
      bytes = so_far.bytes ++ bytes;
      read = Read-append so_far.bytes bytes so_far.calls more.0 so_far.read more.2.1;
      parts = so_far.parts;
      gathered = so_far.gathered;
      whole = sym (append_assoc kept so_far.bytes bytes) ∙ ap (λ xs. xs ++ bytes) so_far.whole
          ∙ append_assoc (texts so_far.parts) rest bytes
          ∙ ap (λ xs. texts so_far.parts ++ xs) (sym more.2.2);
      session_is = is ∙ so_far.session_is;
    }

-- the messages up to the one that came
came : (limit : ℕ) (kept bytes rest left : List ℕ) (leased : Bool) (database : ℕ)
    (parts more : List Frame) (last : Frame)
    (says : ClientMessage) → AreGathered limit [] parts → kept ++ bytes ≡ texts parts ++ rest
    → Comes limit (gathering limit leased database (texts parts)) rest more last says left
    → Asks limit (parts ++ more) last says
    × (kept ++ bytes ≡ request_of (parts ++ more) last ++ left)
came limit kept bytes rest left leased database parts more last says gathered whole comes =
    let joined = texts-append parts more in (
      record {
        gathered = gathered-append limit [] parts more gathered comes.gathered;
        is_frame = comes.is_frame;
        means = ap (λ xs. client_message limit (length xs) last) joined ∙ comes.means;
      },
      whole ∙ ap (λ xs. texts parts ++ xs) comes.whole
          ∙ sym (append_assoc (texts parts) (texts more) (text last ++ left))
          ∙ ap (λ xs. xs ++ (text last ++ left)) (sym joined)
          ∙ sym (append_assoc (texts (parts ++ more)) (text last) left),
    )

-- a request was found
pub asks_request : {T : Type 0} (limit : ℕ) (wrote gave : Effect T) (old new : T) (leased : Bool)
    (database : ℕ)
    (kept : List ℕ) (session session' : Session) (rest left request : List ℕ)
    → Awaiting limit wrote gave old leased database kept session rest new
    → Finds limit session rest (Request request) session' left
    → SomeCalls wrote gave old new (λ calls. AsksNext limit kept calls (Ok request) left)
    × (session' ≡ asking limit database)
asks_request limit wrote gave old new leased database kept session session' rest left request
    so_far finds =
    let found = finds_at limit wrote gave old new leased database kept session rest (Request
    request) session'
    left so_far finds in
    let is = came limit kept so_far.bytes rest left leased database so_far.parts found.0 found.1
    message.Request so_far.gathered so_far.whole found.2 in (
      (
        so_far.calls,
        so_far.made,
        (
          so_far.bytes,
          so_far.parts ++ found.0,
          found.1,
          so_far.read,
          is.1,
          is.0,
          found.3 ∙ ap (λ xs. xs ++ text found.1) (sym (texts-append so_far.parts found.0)),
        ),
      ),
      found.4,
    )

-- the client leaves with a message, or memory was refused
pub asks_end : {T : Type 0} (limit : ℕ) (wrote gave : Effect T) (old new : T) (leased : Bool)
    (database : ℕ)
    (kept : List ℕ) (session session' : Session) (rest left reply : List ℕ)
    → Awaiting limit wrote gave old leased database kept session rest new
    → Finds limit session rest (End reply) session' left
    → SomeCalls wrote gave old new (λ calls. AsksNext limit kept calls (Err reply) left)
asks_end limit wrote gave old new leased database kept session session' rest left reply so_far
    finds = (
      so_far.calls,
      so_far.made,
      elim (finds_at limit wrote gave old new leased database kept session rest
          (End reply) session' left so_far
          finds) [
            | inl says ↦
                let is = came limit kept so_far.bytes rest left leased database so_far.parts says.0
                says.1 says.2
                so_far.gathered so_far.whole says.3 in (
                  Says (so_far.parts ++ says.0) says.1,
                  (so_far.bytes, says.2, so_far.read, is.1, is.0, says.4),
                )
            | inr memory ↦ (
              NoMemory (so_far.parts ++ memory.0) memory.1,
              (
                so_far.bytes,
                so_far.read,
                so_far.whole ∙ ap (λ xs. texts so_far.parts ++ xs) memory.2
                    ∙ sym (append_assoc (texts so_far.parts) (texts memory.0) memory.1)
                    ∙ ap (λ xs. xs ++ memory.1) (sym (texts-append so_far.parts memory.0)),
                gathered-append limit [] so_far.parts memory.0 so_far.gathered memory.3,
                memory.4,
              ),
            )
          ],
    )

-- the client leaves without a whole message
pub asks_quit : {T : Type 0} (limit : ℕ) (wrote gave : Effect T) (old new new' : T) (leased : Bool)
    (database : ℕ)
    (kept : List ℕ) (session : Session) (rest left reply : List ℕ)
    → Awaiting limit wrote gave old leased database kept session rest new → BeginsNoFrame limit rest
    → SomeCalls wrote gave new new' (λ calls. Quits limit rest calls reply left)
    → SomeCalls wrote gave old new' (λ calls. AsksNext limit kept calls (Err reply) left)
asks_quit limit wrote gave old new new' leased database kept session rest left reply so_far none
    quits = (
      so_far.calls ++ quits.0,
      Makes-append wrote gave old new new' so_far.calls quits.0 so_far.made quits.1,
      elim quits.2 [
        | inl faulty ↦ (
          Faulty so_far.parts faulty.0,
          (
            so_far.bytes,
            subst (λ calls. Read so_far.bytes calls)
                (sym (ap (λ xs. so_far.calls ++ xs) faulty.1 ∙ append-nil so_far.calls))
                so_far.read,
            so_far.whole ∙ ap (λ xs. texts so_far.parts ++ xs) (sym faulty.3),
            so_far.gathered,
            subst (BeginsNoFrame limit) (sym faulty.3) none,
            ap (fault_at limit) faulty.3 ∙ faulty.2,
            faulty.4,
          ),
        )
        | inr other ↦ elim other [
          | inl silent ↦ (
            Silent so_far.parts,
            (
              so_far.bytes,
              subst (λ xs. ReadToEnd xs (so_far.calls ++ quits.0))
                  (append-nil so_far.bytes)
                  (ReadToEnd-append so_far.bytes [] so_far.calls quits.0 so_far.read
                  silent.0),
              so_far.whole ∙ ap (λ xs. texts so_far.parts ++ xs) (sym silent.2),
              so_far.gathered,
              subst (BeginsNoFrame limit) (sym silent.2) none,
              ap (fault_at limit) silent.2 ∙ silent.1,
              silent.3,
            ),
          )
          | inr memory ↦ (
            NoMemory so_far.parts (rest ++ memory.0),
            (
              so_far.bytes ++ memory.0,
              Read-append so_far.bytes memory.0 so_far.calls quits.0 so_far.read memory.1,
              sym (append_assoc kept so_far.bytes memory.0)
                  ∙ ap (λ xs. xs ++ memory.0) so_far.whole
                  ∙ append_assoc (texts so_far.parts) rest memory.0,
              so_far.gathered,
              memory.2,
            ),
          )
        ]
      ],
    )

-- what was found by a session of this limit
pub finds_of : (limit : ℕ) (session : Session) (kept : List ℕ) (found : Found) (session' : Session)
    (left : List ℕ) → session.limit ≡ limit
    → Finds session.limit session kept found session' left
    → Finds limit session kept found session' left
finds_of limit session kept found session' left is finds =
    subst (λ (n : ℕ). Finds n session kept found session' left) is finds

-- the same of an end
pub quits_of : {T : Type 0} (limit at : ℕ) (wrote gave : Effect T) (old new : T) (kept : List ℕ)
    (reply left : List ℕ) → at ≡ limit
    → SomeCalls wrote gave old new (λ calls. Quits at kept calls reply left)
    → SomeCalls wrote gave old new (λ calls. Quits limit kept calls reply left)
quits_of limit at wrote gave old new kept reply left is quits =
    subst (λ (n : ℕ). SomeCalls wrote gave old new
    (λ calls. Quits n kept calls reply left)) is quits

-- the bytes that a cutter was fed
pub read_of : {T : Type 0} (wrote gave : Effect T) (old new : T) (pending pending' : Pending)
    → SomeCalls wrote gave old new
    (λ calls. (bytes : List ℕ) × Read bytes calls × (pending' ≡ with_piece pending bytes))
    → SomeCalls wrote gave old new
    (λ calls. (bytes : List ℕ) × Read bytes calls × (pending'.bytes ≡ pending.bytes ++ bytes))
read_of wrote gave old new pending pending' more =
    (more.0, more.1, (more.2.0, more.2.1, ap (λ p. p.bytes) more.2.2))
