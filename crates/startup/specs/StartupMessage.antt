-- The body of a StartupMessage (PostgreSQL manual, "Message Formats"): names and values, each ended
-- by a zero byte, and one more zero byte. Which names a client may send is own.
use Rattle.std.specs.Prelude.{ℕ, ◌≡◌, ◌≢◌, ◌||◌, Bool, false, List, [], ◌∷◌, ◌++◌, codes, bytes_eq, nat_eq, flat_map, if◌then◌else◌}
use Rattle.std.specs.List.{AllByRecursion, starts_with}
use Rattle.std.specs.Str.{IsUtf8}
use Rattle.pg_ids.specs.declared.any_key.Kind.TheVariants.{Short}
use Rattle.startup.specs.Packet.{startup_message}

-- a parameter that a client sets for its session
pub record Parameter : Type 0 where
  pub name : List ℕ
  pub value : List ℕ

-- no byte is zero
abbrev pub HasNoZero : List ℕ → Type 0
HasNoZero bytes = AllByRecursion (λ byte. byte ≢ 0) bytes

-- a text, without the zero byte that ends it
pub record IsText (text : List ℕ) : Type 0 where
  pub utf8 : IsUtf8 text
  pub no_zero : HasNoZero text

-- two texts; the name isn't empty, since a zero byte where a name is due ends the parameters
pub record IsParameter (p : Parameter) : Type 0 where
  pub named : p.name ≢ []
  pub name : IsText p.name
  pub value : IsText p.value

-- a name that no client may set here: a protocol option, or the replication mode (own)
abbrev pub is_reserved : List ℕ → Bool
is_reserved name = starts_with nat_eq name (codes "_pq_.") || bytes_eq name (codes "replication")

-- no name is given twice (own)
abbrev pub AreGivenOnce : List Parameter → Type 0
AreGivenOnce [] = Unit {0}
AreGivenOnce (p ∷ ps) = AllByRecursion (λ q. q.name ≢ p.name) ps × AreGivenOnce ps

-- parameters that a client may send
pub record AreParameters (ps : List Parameter) : Type 0 where
  pub formed : AllByRecursion IsParameter ps
  pub once : AreGivenOnce ps
  pub allowed : AllByRecursion (λ p. is_reserved p.name ≡ false) ps

-- a parameter as bytes: name and value, each ended by a zero byte
abbrev pub parameter : Parameter → List ℕ
parameter p = (p.name ++ 0 ∷ []) ++ (p.value ++ 0 ∷ [])

-- the body: the parameters, and the zero byte that ends them
abbrev pub body_of : List Parameter → List ℕ
body_of ps = flat_map parameter ps ++ 0 ∷ []

-- the value given under a name, empty where none is
abbrev pub given : List ℕ → List Parameter → List ℕ
given name [] = []
given name (p ∷ ps) = if bytes_eq name p.name then p.value else given name ps

-- a text, or another where it is empty
abbrev pub unless_empty : List ℕ → List ℕ → List ℕ
unless_empty [] other = other
unless_empty (byte ∷ bytes) other = byte ∷ bytes

-- the user of the session
abbrev pub user_of : List Parameter → List ℕ
user_of ps = given (codes "user") ps

-- the database of the session: the one given, else the one named as the user is
abbrev pub database_of : List Parameter → List ℕ
database_of ps = unless_empty (given (codes "database") ps) (user_of ps)

-- the parameters that a pooler sends to a server
abbrev pub asked_for : List ℕ → List ℕ → List Parameter
asked_for user database =
    record { name = codes "user"; value = user }
    ∷ record { name = codes "database"; value = database } ∷ []

-- the StartupMessage that a pooler sends to a server, of protocol 3.0: user, database, nothing else
abbrev pub startup_request : List ℕ → List ℕ → List ℕ
startup_request user database = startup_message Short (body_of (asked_for user database))
