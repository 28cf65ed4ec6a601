-- How the code keeps what it watches (internal).
use Rattle.std.specs.Prelude.{ℕ, ◌≡◌, ◌≢◌, ◌+◌, ◌≤◌, Bool, false, ◌==◌, List, length, take, drop, slice_index, map, if◌then◌else◌, Some, None, IfSome, Contains}
use Rattle.std.specs.Option.{option_map}
use Rattle.std.specs.Option.{option_or}
use Rattle.std.specs.String.{string_bytes}
use Rattle.startup.specs.Replies.{Report}
use Rattle.link_state.specs.declared.difference.Difference.{Difference}
use Rattle.link_state.specs.declared.watched.Watched.{Watched}
use Rattle.link_state.specs.declared.incoming.Incoming.{Incoming}
use Rattle.link_state.specs.declared.incoming.Progress.{Progress}
use Rattle.link_state.specs.declared.incoming.Progress.TheVariants.{More, Broken, Whole}
use Rattle.link_state.specs.HeadLength.{length_in, AreBytes}
use Rattle.link_state.specs.Watch.{WatchedValue, value_in, shown, IsComing, WatchState, IsBroken}

-- a parameter that is watched
abbrev pub seen : Watched → WatchedValue
seen one = record {
  name = string_bytes one.name;
  told = string_bytes one.told;
  last = if one.reported then Some one.last.items else None;
}

-- one of which nothing was reported yet
abbrev pub fresh : Report → WatchedValue
fresh report = record { name = report.name; told = report.value; last = None }

-- the same after a ParameterStatus with this body
abbrev pub judged : List ℕ → WatchedValue → WatchedValue
judged body one = record {
  name = one.name;
  told = one.told;
  last = option_or (option_map (take (shown one.told)) (value_in one.name body)) one.last;
}

-- all that is watched, and the same after a message with this type and this body
abbrev pub all_seen : List Watched → List WatchedValue
all_seen all = map seen all

-- the same after a message that begins so
abbrev pub noted : List ℕ → List WatchedValue → List WatchedValue
noted front all = if slice_index front 0 == 83 then map (judged (drop 5 front)) all else all

-- that many bytes of a message are enough to judge it
abbrev pub Suffices : ℕ → WatchedValue → Type 0
Suffices limit one = 6 + length one.name + shown one.told ≤ limit

-- nothing else was reported of it than clients get
abbrev pub IsSame : WatchedValue → Type 0
IsSame one = IfSome one.last (λ last. last ≡ one.told)

-- the change of one of these
pub record IsChangeOf (all : List WatchedValue) (change : Difference) : Type 0 where
  pub one : WatchedValue
  pub among : Contains all one
  pub name_is : change.name.now ≡ one.name
  pub told_is : change.told.now ≡ one.told
  pub last : one.last ≡ Some change.reported.now
  pub other : change.reported.now ≢ change.told.now

-- the message that is coming has begun so
abbrev pub Comes : Incoming → List ℕ → Type 0
Comes incoming rest =
    IsComing incoming.limit incoming.left incoming.in_body incoming.front.items rest

-- a whole message, of which the first bytes are kept
pub record IsWhole (limit : ℕ) (front rest : List ℕ) : Type 0 where
  pub front_is : front ≡ take limit rest
  pub bytes : AreBytes rest
  pub head : 5 ≤ length rest
  pub low : 4 ≤ length_in rest
  pub measured : length rest ≡ 1 + length_in rest

-- nothing of a message has come, and that many bytes at the front are a whole one that is no
-- ParameterStatus
pub record IsOther (left : ℕ) (in_body : Bool) (count : ℕ) (bytes : List ℕ) : Type 0 where
  pub outside : in_body ≡ false
  pub begins : left ≡ 5
  pub kind : slice_index bytes 0 ≢ 83
  pub head : 5 ≤ length bytes
  pub low : 4 ≤ length_in bytes
  pub measured : count ≡ 1 + length_in bytes

-- how far a message has come
abbrev pub ComesTo : Progress → Incoming → List ℕ → Type 0
ComesTo More incoming rest = Comes incoming rest
ComesTo Broken incoming rest = IsBroken rest
ComesTo Whole incoming rest = IsWhole incoming.limit incoming.front.items rest

-- a watch with these parts
abbrev pub state_of : List WatchedValue → Incoming → Bool → WatchState
state_of watched incoming stopped = record {
  watched = watched;
  front = incoming.front.items;
  limit = incoming.limit;
  left = incoming.left;
  in_body = incoming.in_body;
  stopped = stopped;
}
