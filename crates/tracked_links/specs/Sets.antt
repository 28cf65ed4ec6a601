-- A query of the pooler's own on a link (own; PostgreSQL manual, "Message
-- Flow": Simple Query). `SetsLink`: it is a stay of a session on the link, whose client is a sink.
use Rattle.std.specs.Prelude.{ℕ, ◌≡◌, Bool, false, List, [], ◌++◌, length, Result, Ok}
use Rattle.std.specs.declared.io.Error.{Error}
use Rattle.peer_forward.specs.Calls.{Call, taken}
use Rattle.pg_frames.specs.Passage.{Passage, start}
use Rattle.link_state.specs.FirstError.{IsFirstError}
use Rattle.session_io.specs.Stay.{Stay}
use Rattle.session_io.specs.declared.session.outcome.Stayed.{Stayed}
use Rattle.session_io.specs.declared.session.outcome.Stayed.TheVariants.{Release}
use Rattle.tracked_links.specs.declared.sets.SetEnd.{SetEnd}
use Rattle.tracked_links.specs.declared.sets.SetEnd.TheVariants.{Set, Refused, Lost}

-- what is kept of what was written to a sink, and whether more was written
pub record SinkView : Type 0 where
  pub kept : List ℕ
  pub is_over : Bool

-- it took this text: what it kept is its beginning, and all of it unless more was written
pub record HasTaken (sink : SinkView) (text : List ℕ) : Type 0 where
  pub rest : List ℕ
  pub begins : text ≡ sink.kept ++ rest
  pub whole : sink.is_over ≡ false → rest ≡ []

-- a write takes all, and a read gives nothing
pub record Takes (old : SinkView) (bytes : List ℕ) (result : Result ℕ Error) (new : SinkView) : Type 0
  where
    pub all : result ≡ Ok (length bytes)
    pub took : (text : List ℕ) → HasTaken old text → HasTaken new (text ++ bytes)

pub record GivesNothing (old : SinkView) (buffer : List ℕ) (result : Result ℕ Error) (new : SinkView)
    : Type 0 where
  pub none : result ≡ Ok 0
  pub same : new ≡ old

-- the end by what was answered: none of its messages is an error, or this is the first that is one.
-- Then the link is as at its start
abbrev pub IsEnd : ℕ → SetEnd → List ℕ → Stayed → Passage → Type 0
IsEnd limit Set answer outcome flow = (outcome ≡ Release) × (flow ≡ start limit)
    × ((error : List ℕ) → IsFirstError answer error → ⊥)
IsEnd limit (Refused error) answer outcome flow = (outcome ≡ Release) × (flow ≡ start limit)
    × IsFirstError answer error.items
IsEnd limit Lost answer outcome flow = Unit {0}

-- the calls on the link are those of a stay with this query in hand, from the start of the link, with
-- some client that sends nothing, and to which the whole answer is written
pub record SetsLink (limit : ℕ) (query : List ℕ) (on_link : List Call) (end : SetEnd)
    (flow : Passage) : Type 0 where
  pub on_sink : List Call
  pub outcome : Stayed
  pub left : List ℕ
  pub stays : Stay limit query [] [] on_link on_sink outcome left
  pub ends : IsEnd limit end (taken on_sink) outcome flow

-- the end by what a sink took (internal)
abbrev pub HasAnswered : SinkView → Stayed → SetEnd → Type 0
HasAnswered sink outcome Set = (outcome ≡ Release) × (sink.is_over ≡ false)
    × ((error : List ℕ) → IsFirstError sink.kept error → ⊥)
HasAnswered sink outcome (Refused error) = (outcome ≡ Release) × IsFirstError sink.kept error.items
HasAnswered sink outcome Lost = Unit {0}

-- the end where this error was found (internal)
abbrev pub IsRefusal : List ℕ → SetEnd → Type 0
IsRefusal error Set = ⊥
IsRefusal error (Refused copy) = copy.items ≡ error
IsRefusal error Lost = Unit {0}

-- the end where none was found (internal)
abbrev pub IsSet : Bool → SetEnd → Type 0
IsSet is_over Set = is_over ≡ false
IsSet is_over (Refused error) = ⊥
IsSet is_over Lost = Unit {0}
