-- The entries of [databases] and [peers]: pairs NAME=VALUE (own grammar).
use Rattle.std.specs.Prelude.{ℕ, Bool, ◌==◌, if◌then◌else◌, List, [], ◌∷◌, codes, Option, None, Result, Ok, Err, slice_index, unwrap_or}
use Rattle.std.specs.List.{list_any}
use Rattle.std.specs.Str.{bytes_eq}
use Rattle.ini_config.specs.declared.fault.IniCode.{IniCode}
use Rattle.ini_config.specs.declared.fault.IniCode.TheVariants.{UnknownKey, NotInProfile}
use Rattle.ini_config.specs.declared.words.EntryKind.{EntryKind}
use Rattle.ini_config.specs.declared.words.EntryKind.TheVariants as kind
use Rattle.ini_config.specs.declared.words.WordName.{WordName}
use Rattle.ini_config.specs.declared.words.WordName.TheVariants as word
use Rattle.ini_config.specs.Node.{DatabaseSettings, PeerSettings}
use Rattle.ini_config.specs.Reads.{◌>>=◌, once, needed}
use Rattle.ini_config.specs.Text.{words, cut_at_equals, pair_of, number_in}

-- what the words of an entry gave so far
pub record Words : Type 0 where
  pub host : Option (List ℕ)
  pub port : Option ℕ
  pub user : Option (List ℕ)
  pub dbname : Option (List ℕ)
  pub pool_size : Option ℕ

-- before the first word
abbrev pub no_words : Words
no_words = record { host = None; port = None; user = None; dbname = None; pool_size = None }

-- the names of a database's words
unfoldable pub database_word : List ℕ → Result WordName IniCode
database_word text =
    if bytes_eq text (codes "host") then Ok word.Host
    else (if bytes_eq text (codes "port") then Ok word.Port
    else (if bytes_eq text (codes "user") then Ok word.User
    else (if bytes_eq text (codes "dbname") then Ok word.Dbname
    else (if bytes_eq text (codes "pool_size") then Ok word.PoolSize
    else Err UnknownKey))))

-- the names of a peer's words
unfoldable pub peer_word : List ℕ → Result WordName IniCode
peer_word text =
    if bytes_eq text (codes "host") then Ok word.Host
    else (if bytes_eq text (codes "port") then Ok word.Port
    else (if bytes_eq text (codes "pool_size") then Ok word.PoolSize
    else Err UnknownKey))

-- the names of an entry's words
abbrev pub word_name : EntryKind → List ℕ → Result WordName IniCode
word_name kind.Database text = database_word text
word_name kind.Peer text = peer_word text

-- a host, which is no path of a Unix socket
unfoldable pub host_value : List ℕ → Result (List ℕ) IniCode
host_value text = if slice_index text 0 == 47 then Err NotInProfile else Ok text

-- one more word's value: first that its name is new, then the value
unfoldable pub word_given : Words → WordName → List ℕ → Result Words IniCode
word_given w word.Host text = once w.host (host_value text)
    >>= λ given. Ok (record w { host = given })
word_given w word.Port text = once w.port (number_in 1 65535 text)
    >>= λ given. Ok (record w { port = given })
word_given w word.User text = once w.user (Ok text) >>= λ given. Ok (record w { user = given })
word_given w word.Dbname text = once w.dbname (Ok text)
    >>= λ given. Ok (record w { dbname = given })
word_given w word.PoolSize text = once w.pool_size (number_in 1 65535 text)
    >>= λ given. Ok (record w { pool_size = given })

-- one more word: its form, its name, its value
unfoldable pub word_read : EntryKind → Words → List ℕ → Result Words IniCode
word_read k w text = do
  cut ← cut_at_equals text
  pair ← pair_of cut.0 cut.1
  name ← word_name k pair.0
  word_given w name pair.1

-- words from left to right
unfoldable pub words_read : EntryKind → Words → List (List ℕ) → Result Words IniCode
words_read k w [] = Ok w
words_read k w (text ∷ more) = do
  v ← word_read k w text
  words_read k v more

-- `'`
abbrev pub is_quote : ℕ → Bool
is_quote b = b == 39

-- the words of a value, which has no quote
unfoldable pub value_words : EntryKind → List ℕ → Result Words IniCode
value_words k value = if list_any is_quote value
    then Err NotInProfile
    else words_read k no_words (words value)

-- an entry of [databases], before the defaults of the node
pub record DatabaseGiven : Type 0 where
  pub name : List ℕ
  pub host : List ℕ
  pub port : ℕ
  pub user : List ℕ
  pub dbname : Option (List ℕ)
  pub pool_size : Option ℕ

-- what the entry says of the database, with the entry's name and the node's pool size where it says
-- nothing
abbrev pub with_defaults : ℕ → DatabaseGiven → DatabaseSettings
with_defaults pool d = record {
  name = d.name;
  host = d.host;
  port = d.port;
  user = d.user;
  dbname = unwrap_or d.dbname d.name;
  pool_size = unwrap_or d.pool_size pool;
}

-- an entry of [databases]: its words, and those that it has to have
unfoldable pub database_entry : List ℕ → List ℕ → Result DatabaseGiven IniCode
database_entry name value = do
  w ← value_words kind.Database value
  host ← needed w.host
  port ← needed w.port
  user ← needed w.user
  Ok (record {
    name = name;
    host = host;
    port = port;
    user = user;
    dbname = w.dbname;
    pool_size = w.pool_size;
  })

-- an entry of [peers]; its pool size is 1 where it says nothing
unfoldable pub peer_entry : ℕ → List ℕ → Result PeerSettings IniCode
peer_entry number value = do
  w ← value_words kind.Peer value
  host ← needed w.host
  port ← needed w.port
  Ok (record { number = number; host = host; port = port; pool_size = unwrap_or w.pool_size 1 })
