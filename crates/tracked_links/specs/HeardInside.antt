-- What is heard, in the fields that hold it (internal).
use Rattle.std.specs.Prelude.{ℕ, ◌≡◌, ◌⊎◌, ◌+◌, ◌<◌, ◌≤◌, Bool, false, List, [], ◌∷◌, ◌++◌, length, take, drop, slice_index}
use Rattle.std.specs.Arc.{arc_value}
use Rattle.std.specs.List.{AllByRecursion}
use Rattle.startup.specs.StartupMessage.{HasNoZero}
use Rattle.link_state.specs.declared.incoming.Incoming.{Incoming}
use Rattle.tracked_parameters.specs.Server.{ServerState}
use Rattle.tracked_parameters.specs.Values.{Fit}
use Rattle.tracked_links.specs.Heard.{HearingState}
use Rattle.tracked_links.specs.declared.hearing.Hearing.TheInside.{Inside}

-- that many bytes of a body are enough for this name, a value that is too long, and two zero bytes
abbrev pub Suffices : ℕ → List ℕ → Type 0
Suffices most name = length name + 10003 ≤ most

-- what stands before the first zero byte, all if there is none
pub record IsBeforeZero (bytes text : List ℕ) : Type 0 where
  pub no_zero : HasNoZero text
  pub rest : List ℕ
  pub whole : bytes ≡ text ++ rest
  pub ended : (rest ≡ []) ⊎ ((after : List ℕ) × (rest ≡ 0 ∷ after))

-- these are the first bytes of a message of this type with this body
pub record IsKept (front : List ℕ) (most kind : ℕ) (body : List ℕ) : Type 0 where
  pub kind_is : kind ≡ slice_index front 0
  pub body_is : drop 5 front ≡ take most body

-- what is heard, with these parts
abbrev pub state_of : List (List ℕ) → ServerState → Incoming → Bool → HearingState
state_of names server incoming stopped = record {
  names = names;
  server = server;
  front = incoming.front.items;
  limit = incoming.limit;
  left = incoming.left;
  in_body = incoming.in_body;
  stopped = stopped;
}

abbrev pub state_inside : Inside → HearingState
state_inside h = state_of (arc_value h.names) h.server h.incoming h.stopped

-- there is a place for each name, so much of a message is kept that each parameter's can be read, and
-- some is to come
pub record IsReady (h : Inside) : Type 0 where
  pub fit : Fit (arc_value h.names) h.server.current
  pub enough : AllByRecursion (Suffices h.most) (arc_value h.names)
  pub limit_is : h.incoming.limit ≡ 5 + h.most
  pub awaits : h.stopped ≡ false → 0 < h.incoming.left
