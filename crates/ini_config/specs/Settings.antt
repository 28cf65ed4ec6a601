-- Settings files (own grammar, after PgBouncer's): a list of lines, each of which is a comment,
-- opens a section or gives a key. `settings_of` is the value of a text, or its first error.
use Rattle.std.specs.Prelude.{ℕ, suc, Bool, true, false, ◌&&◌, ◌||◌, ◌==◌, ◌-◌, nat_lt, if◌then◌else◌, List, [], ◌∷◌, ◌++◌, length, map, codes, slice_index, slice_get, take, unwrap_or, Option, Some, None, Result, Ok, Err}
use Rattle.std.specs.List.{list_any, list_all}
use Rattle.std.specs.Option.{ok_or}
use Rattle.std.specs.Str.{bytes_eq}
use Rattle.std.specs.Str.Lines.{lines}
use Rattle.ini_config.specs.declared.fault.IniCode.{IniCode}
use Rattle.ini_config.specs.declared.fault.IniCode.TheVariants.{BadLine, UnknownSection, OutOfRange, Repeated, NotInProfile}
use Rattle.ini_config.specs.declared.fault.IniError.{IniError}
use Rattle.ini_config.specs.declared.section.Section.{Section}
use Rattle.ini_config.specs.declared.section.Section.TheVariants.{Pgbouncer, Databases, Peers}
use Rattle.ini_config.specs.Codes.{fault_at}
use Rattle.ini_config.specs.Text.{trimmed, is_empty, cut_at_equals, pair_of, is_key_byte, number_in}
use Rattle.ini_config.specs.Reads.{◌>>=◌, needed}
use Rattle.ini_config.specs.Node.{PeerSettings, NodeSettings, pool_total}
use Rattle.ini_config.specs.Keys.{Keys, no_keys, key_name, key_given}
use Rattle.ini_config.specs.Entry.{DatabaseGiven, with_defaults, database_entry, peer_entry}

-- what the lines so far gave: the sections in the order of their opening, the keys of [pgbouncer],
-- the entries in order
pub record Given : Type 0 where
  pub opened : List Section
  pub keys : Keys
  pub databases : List DatabaseGiven
  pub peers : List PeerSettings

-- before the first line
abbrev pub nothing : Given
nothing = record { opened = []; keys = no_keys; databases = []; peers = [] }

-- ---- sections

-- the names of the sections
unfoldable pub section_named : List ℕ → Result Section IniCode
section_named text =
    if bytes_eq text (codes "pgbouncer") then Ok Pgbouncer
    else (if bytes_eq text (codes "databases") then Ok Databases
    else (if bytes_eq text (codes "peers") then Ok Peers
    else Err UnknownSection))

-- whether two sections are one
abbrev pub same_section : Section → Section → Bool
same_section Pgbouncer Pgbouncer = true
same_section Databases Databases = true
same_section Peers Peers = true
same_section s t = false

-- the text between a `[` at the front and a `]` at the end
unfoldable pub bracketed : List ℕ → Option (List ℕ)
bracketed [] = None
bracketed (b ∷ bs) = if (b == 91) && (slice_index bs (length bs - 1) == 93)
    then Some (take (length bs - 1) bs)
    else None

-- a section opens once
unfoldable pub section_opened : Given → List ℕ → Result Given IniCode
section_opened g text = do
  s ← section_named text
  if list_any (same_section s) g.opened
      then Err Repeated
      else Ok (record g { opened = g.opened ++ s ∷ [] })

-- the section of a line: the last that was opened
abbrev pub section_of : Given → Result Section IniCode
section_of g = ok_or (slice_get g.opened (length g.opened - 1)) BadLine

-- ---- keys

-- what PgBouncer means by these names of databases isn't in this profile
abbrev pub is_reserved : Section → List ℕ → Bool
is_reserved Databases key = bytes_eq key (codes "*") || bytes_eq key (codes "pgbouncer")
is_reserved s key = false

-- a key of letters and digits of ASCII and `_`
unfoldable pub key_form : Section → List ℕ → Result (List ℕ) IniCode
key_form s key = if is_reserved s key
    then Err NotInProfile
    else (if list_all is_key_byte key then Ok key else Err BadLine)

-- room for one more entry, of at most 64, which wasn't given before
unfoldable pub one_more : Bool → ℕ → Result ℕ IniCode
one_more given count = if given
    then Err Repeated
    else (if nat_lt count 64 then Ok count else Err OutOfRange)

-- a key and its value in their section
unfoldable pub key_in : Given → Section → List ℕ → List ℕ → Result Given IniCode
key_in g Pgbouncer key value = do
  name ← key_name key
  keys ← key_given g.keys name value
  Ok (record g { keys = keys })
key_in g Databases key value = do
  count ← one_more (list_any (λ (d : DatabaseGiven). bytes_eq key d.name) g.databases)
      (length g.databases)
  d ← database_entry key value
  Ok (record g { databases = g.databases ++ d ∷ [] })
key_in g Peers key value = do
  number ← number_in 1 16383 key
  count ← one_more (list_any (λ (p : PeerSettings). number == p.number) g.peers) (length g.peers)
  p ← peer_entry number value
  Ok (record g { peers = g.peers ++ p ∷ [] })

-- a line KEY = VALUE: first its form, the key's too
unfoldable pub key_line : Given → List ℕ → Result Given IniCode
key_line g line = do
  cut ← cut_at_equals line
  pair ← pair_of (trimmed cut.0) (trimmed cut.1)
  s ← section_of g
  key ← key_form s pair.0
  key_in g s key pair.1

-- ---- lines

-- an empty line, or a comment
abbrev pub says_nothing : List ℕ → Bool
says_nothing line = is_empty line || (slice_index line 0 == 59) || (slice_index line 0 == 35)

-- a section line, or KEY = VALUE
abbrev pub content_line : Given → Option (List ℕ) → List ℕ → Result Given IniCode
content_line g (Some name) line = section_opened g name
content_line g None line = key_line g line

-- what one more line gives
unfoldable pub line_given : Given → List ℕ → Result Given IniCode
line_given g line =
    if says_nothing line then Ok g
    else (if slice_index line 0 == 37 then Err NotInProfile
    else (if list_any (λ b. b == 0) line || nat_lt 8000 (length line) then Err BadLine
    else content_line g (bracketed line) line))

-- a fault in a line with this number; 0 is the text as a whole
abbrev pub in_line : {A : Type 0} → ℕ → Result A IniCode → Result A IniError
in_line n (Ok x) = Ok x
in_line n (Err c) = Err (fault_at n c)

-- what the lines give, of which the first has this number: the first fault goes before the others
unfoldable pub lines_given : Given → ℕ → List (List ℕ) → Result Given IniError
lines_given g n [] = Ok g
lines_given g n (line ∷ more) = in_line n (line_given g (trimmed line))
    >>= λ h. lines_given h (suc n) more

-- ---- the whole text

-- the settings of a node that listens at this address, with the defaults
abbrev pub node_given : Given → List ℕ → NodeSettings
node_given g addr = record {
  listen_addr = addr;
  listen_port = unwrap_or g.keys.listen_port 6432;
  peer_id = unwrap_or g.keys.peer_id 0;
  default_pool_size = unwrap_or g.keys.default_pool_size 20;
  max_client_conn = unwrap_or g.keys.max_client_conn 100;
  databases = map (with_defaults (unwrap_or g.keys.default_pool_size 20)) g.databases;
  peers = g.peers;
}

-- the databases have at most 65,535 links together
unfoldable pub in_total : NodeSettings → Result NodeSettings IniCode
in_total s = if nat_lt 65535 (pool_total s) then Err OutOfRange else Ok s

-- the settings that were given, where what has to be given was
unfoldable pub settings_given : Given → Result NodeSettings IniCode
settings_given g = do
  mode ← needed g.keys.pool_mode
  auth ← needed g.keys.auth_type
  addr ← needed g.keys.listen_addr
  in_total (node_given g addr)

-- the settings that a text says, or its first fault
unfoldable pub settings_of : List ℕ → Result NodeSettings IniError
settings_of text = lines_given nothing 1 (lines text) >>= λ g. in_line 0 (settings_given g)
