-- The values of a client, and what it wants at a server connection (PostgreSQL manual, SET and
-- "Asynchronous Operations"; that each client has its own values is own).
use Rattle.std.specs.Prelude.{ℕ, List, [], ◌∷◌, ◌++◌, take, drop, Option, Some, None}
use Rattle.startup.specs.Replies.{Report}
use Rattle.tracked_parameters.specs.Values.{Agree}
use Rattle.tracked_parameters.specs.Settings.{differing}
use Rattle.tracked_parameters.specs.Server.{ServerState}

-- a value, with another in its place where the other is known
abbrev pub updated_one : Option (List ℕ) → Option (List ℕ) → Option (List ℕ)
updated_one value None = value
updated_one value (Some other) = Some other

-- values, with others in their place where the others are known
abbrev pub updated : List (Option (List ℕ)) → List (Option (List ℕ)) → List (Option (List ℕ))
updated [] others = []
updated (value ∷ values) [] = value ∷ values
updated (value ∷ values) (other ∷ others) = updated_one value other ∷ updated values others

-- the same for the first so many of them
abbrev pub updated_first : ℕ → List (Option (List ℕ)) → List (Option (List ℕ)) → List (Option (List ℕ))
updated_first count values others = take count (updated values others) ++ drop count values

-- the values with which a client begins: those that it asks for, else those of the server's login
abbrev pub first_values : List (Option (List ℕ)) → ServerState → List (Option (List ℕ))
first_values asked server = updated server.login asked

-- the values of a client after a transaction: those that the server reports, else its own
abbrev pub after_transaction : List (Option (List ℕ)) → ServerState → List (Option (List ℕ))
after_transaction own server = updated own server.current

-- the value that a client wants of a parameter: its own, else the one of the connection's login; none
-- where the server doesn't report the parameter
abbrev pub wanted_one : Option (List ℕ) → Option (List ℕ) → Option (List ℕ) → Option (List ℕ)
wanted_one own login None = None
wanted_one own login (Some there) = updated_one login own

-- the values that a client wants at a server connection whose login reported these, and which has
-- these last
abbrev pub wanted_values : List (Option (List ℕ)) → List (Option (List ℕ)) → List (Option (List ℕ)) → List (Option (List ℕ))
wanted_values [] login current = []
wanted_values (own ∷ owns) [] current = []
wanted_values (own ∷ owns) (login ∷ logins) [] = []
wanted_values (own ∷ owns) (login ∷ logins) (there ∷ current) =
    wanted_one own login there ∷ wanted_values owns logins current

-- the values that a client wants at a server connection
abbrev pub wanted_at : List (Option (List ℕ)) → ServerState → List (Option (List ℕ))
wanted_at own server = wanted_values own server.login server.current

-- each parameter that the server reports has the value that the client wants
abbrev pub HasValuesOf : ServerState → List (Option (List ℕ)) → Type 0
HasValuesOf server own = Agree (wanted_at own server) server.current

-- the settings of the parameters that the server reports with another value than the client wants
abbrev pub settings_for : List (List ℕ) → List (Option (List ℕ)) → ServerState → List Report
settings_for names own server = differing names (wanted_at own server) server.current
