-- The events of a script, by their names and the words behind them (own grammar).
use Rattle.std.specs.Prelude.{ℕ, if◌then◌else◌, List, [], ◌∷◌, codes, Option, Some, None}
use Rattle.std.specs.Map.{lookup}
use Rattle.std.specs.Option.{option_map}
use Rattle.std.specs.Str.{bytes_eq}
use Rattle.pg_ids.specs.declared.any_key.Kind.{Kind}
use Rattle.pg_ids.specs.declared.any_key.Kind.TheVariants.{Short, Long}
use Rattle.world.specs.declared.event.Event.{Event}
use Rattle.world.specs.declared.event.Event.TheVariants as event
use Rattle.world_script.specs.Words.{◌>>=◌, number_of, key_of, bytes_of}

-- the events of one number, which is that of a client, a server process, a flight, a cancel
-- connection, or a node that starts with its next boot
abbrev pub numbered_events : List (List ℕ × (ℕ → Event))
numbered_events =
    (codes "acquire", event.Acquire)
    ∷ (codes "upfail", event.UpFailed)
    ∷ (codes "send", event.Send)
    ∷ (codes "take", event.Take)
    ∷ (codes "finish", event.Finish)
    ∷ (codes "ready", event.Ready)
    ∷ (codes "release", event.Release)
    ∷ (codes "close", event.Close)
    ∷ (codes "leave", event.Leave)
    ∷ (codes "fend", event.ForwardEnded)
    ∷ (codes "ftold", event.ForwardTold)
    ∷ (codes "fbroken", event.ForwardBroken)
    ∷ (codes "act", event.Act)
    ∷ (codes "end", event.End)
    ∷ (codes "told", event.Told)
    ∷ (codes "broken", event.Broken)
    ∷ (codes "restart", λ node. event.Restart node None) ∷ []

-- the event of this name, with a number
unfoldable pub numbered_event : List ℕ → ℕ → Option Event
numbered_event name n = option_map (λ make. make n) (lookup (bytes_eq name) numbered_events)

-- with a number behind its name
abbrev pub numbered_by : List ℕ → List ℕ → Option Event
numbered_by name word = number_of word >>= numbered_event name

-- the event of this name, with one word behind it: bytes or a number
unfoldable pub one_word_event : List ℕ → List ℕ → Option Event
one_word_event name word =
    if bytes_eq name (codes "put") then option_map event.Put (bytes_of word)
    else numbered_by name word

-- a client's new link with its server's key
unfoldable pub up_event : List ℕ → List ℕ → Option Event
up_event first second = do
  label ← number_of first
  key ← key_of second
  Some (event.Up label key)

-- a node that starts with a boot
unfoldable pub restart_event : List ℕ → List ℕ → Option Event
restart_event first second = do
  node ← number_of first
  boot ← number_of second
  Some (event.Restart node (Some boot))

-- a flight that comes to a node
unfoldable pub flight_event : (ℕ → ℕ → Event) → List ℕ → List ℕ → Option Event
flight_event make first second = do
  flight ← number_of first
  node ← number_of second
  Some (make flight node)

-- the events with two words behind their names
abbrev pub two_word_events : List (List ℕ × (List ℕ → List ℕ → Option Event))
two_word_events =
    (codes "up", up_event)
    ∷ (codes "deliver", flight_event event.Deliver)
    ∷ (codes "accept", flight_event event.Accept)
    ∷ (codes "restart", restart_event) ∷ []

-- the event of this name, with two words behind it
unfoldable pub two_word_event : List ℕ → List ℕ → List ℕ → Option Event
two_word_event name first second = lookup (bytes_eq name) two_word_events
    >>= λ read. read first second

-- the logins, by the kind of the key that each asks for
abbrev pub logins : List (List ℕ × Kind)
logins = (codes "login", Short) ∷ (codes "login32", Long) ∷ []

-- the kind that the login of this name asks for
unfoldable pub login_kind : List ℕ → Option Kind
login_kind name = lookup (bytes_eq name) logins

-- a login, with three words behind its name: a node, a client and a secret; its database is the
-- node's first
unfoldable pub login_event : List ℕ → List ℕ → List ℕ → List ℕ → Option Event
login_event name first second third = do
  kind ← login_kind name
  node ← number_of first
  label ← number_of second
  secret ← number_of third
  Some (event.Login node label 0 secret kind)
