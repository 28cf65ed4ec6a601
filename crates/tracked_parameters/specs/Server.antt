-- What a server connection has reported of the tracked parameters (PostgreSQL manual, "Asynchronous
-- Operations", and "Message Formats": ParameterStatus; when a value isn't kept is own).
use Rattle.std.specs.Prelude.{ℕ, ◌≡◌, ◌&&◌, ◌||◌, Bool, true, false, not, List, [], ◌∷◌, length, replicate, slice_set, nat_lt, is_some, Option, Some, None, if◌then◌else◌}
use Rattle.startup.specs.Replies.{Report}
use Rattle.tracked_parameters.specs.Values.{no_values, place_of}

-- of each tracked parameter, in the order of the names: whether the server has reported it, its value
-- at the end of the login, and its last one; and whether the login has ended
pub record ServerState : Type 0 where
  pub reported : List Bool
  pub login : List (Option (List ℕ))
  pub current : List (Option (List ℕ))
  pub logged_in : Bool

-- the three have as many places
pub record HasPlaces (server : ServerState) : Type 0 where
  pub reported : length server.reported ≡ length server.current
  pub login : length server.login ≡ length server.current

-- a server connection of which nothing was read
abbrev pub new_server : List (List ℕ) → ServerState
new_server names = record {
  reported = replicate (length names) false;
  login = no_values names;
  current = no_values names;
  logged_in = false;
}

-- the connection once the parameter at this place was reported, with the value that is known of it
-- then; as it was where there is no place
abbrev pub reported_at : Option ℕ → Option (List ℕ) → ServerState → ServerState
reported_at None value server = server
reported_at (Some place) value server = record {
  reported = slice_set server.reported place true;
  login = server.login;
  current = slice_set server.current place value;
  logged_in = server.logged_in;
}

-- the longest value that is kept: no value of a StartupMessage is longer
abbrev pub longest_value : ℕ
longest_value = 10000

-- the report is about a tracked parameter, and its value is longer
abbrev pub is_too_long : List (List ℕ) → Report → Bool
is_too_long names report =
    is_some (place_of names report.name) && nat_lt longest_value (length report.value)

-- the connection after a report: its value takes the place of the old one, and nothing else changes;
-- a parameter that isn't tracked changes nothing
abbrev pub after_report : List (List ℕ) → Report → ServerState → ServerState
after_report names report server =
    reported_at (place_of names report.name) (Some report.value) server

-- the connection after a report of this parameter whose value wasn't kept: no value of it is known
abbrev pub after_lost_report : List (List ℕ) → List ℕ → ServerState → ServerState
after_lost_report names name server = reported_at (place_of names name) None server

-- the connection at the end of its login: the values so far are those of the login. A login ends once
abbrev pub after_login : ServerState → ServerState
after_login server =
    if server.logged_in then server else record {
      reported = server.reported;
      login = server.current;
      current = server.current;
      logged_in = true;
    }

-- of each parameter that was reported a value is known
abbrev pub are_known : List Bool → List (Option (List ℕ)) → Bool
are_known [] values = true
are_known (reported ∷ more) [] = not reported && are_known more []
are_known (reported ∷ more) (value ∷ values) =
    (not reported || is_some value) && are_known more values

-- the login has ended, and of each parameter that the server has reported both values are known
abbrev pub is_known : ServerState → Bool
is_known server =
    server.logged_in && (are_known server.reported server.login && are_known server.reported server.current)
