-- Which texts are scripts, with which nodes and events, and which line of another text is its first
-- error (own grammar).
use Rattle.std.specs.Prelude.{ℕ, ◌≡◌, ◌+◌, ◌<◌, Bool, true, false, ◌||◌, ◌==◌, nat_lt, nat_le, if◌then◌else◌, List, [], ◌∷◌, length, map, flat_map, take, codes, slice_index, slice_index_or, Option, Some, None}
use Rattle.std.specs.Option.{option_map}
use Rattle.std.specs.Str.{bytes_eq}
use Rattle.std.specs.Str.Lines.{lines}
use Rattle.ini_config.specs.Node.{NodeSettings}
use Rattle.ini_config.specs.Text.{trimmed, is_empty}
use Rattle.world.specs.declared.event.Event.{Event}
use Rattle.world_script.specs.Words.{◌>>=◌, words, number_from, node_number}
use Rattle.world_script.specs.EventLine.{one_word_event, two_word_event, login_event}
use Rattle.world_script.specs.Peers.{NodeLine, settings_among}
use Rattle.world_script.specs.declared.statement.Statement.{Statement}
use Rattle.world_script.specs.declared.statement.Statement.TheVariants as says

-- ---- a line

-- an empty line, or a comment, which begins with `#` (35)
abbrev pub says_nothing : List ℕ → Bool
says_nothing line = is_empty line || (slice_index line 0 == 35)

-- a node, with three words behind `node`
unfoldable pub node_line : List ℕ → List ℕ → List ℕ → Option NodeLine
node_line first second third = do
  number ← node_number first
  pool ← number_from 1 65535 second
  clients ← number_from 1 65536 third
  Some (record { number = number; pool = pool; clients = clients })

-- with three words behind its name
unfoldable pub three_words : List ℕ → List ℕ → List ℕ → List ℕ → Option Statement
three_words name first second third = if bytes_eq name (codes "node")
    then option_map says.Node (node_line first second third)
    else option_map says.Event (login_event name first second third)

-- what the words of a line say, if anything
abbrev pub said_by : List (List ℕ) → Option Statement
said_by [] = None
said_by (name ∷ []) = None
said_by (name ∷ a ∷ []) = option_map says.Event (one_word_event name a)
said_by (name ∷ a ∷ b ∷ []) = option_map says.Event (two_word_event name a b)
said_by (name ∷ a ∷ b ∷ c ∷ []) = three_words name a b c
said_by (name ∷ a ∷ b ∷ c ∷ d ∷ more) = None

-- what a line says, without the blanks at its ends, and none where it has no form of the grammar
unfoldable pub statement_of : List ℕ → Option Statement
statement_of line = if says_nothing line then Some says.Nothing else said_by (words line)

-- what each line of a text says
abbrev pub statements : List ℕ → List (Option Statement)
statements text = map (λ line. statement_of (trimmed line)) (lines text)

-- ---- the whole text

-- the node of a line, if it has one
abbrev pub node_in : Option Statement → List NodeLine
node_in (Some (says.Node node)) = node ∷ []
node_in (Some (says.Event event)) = []
node_in (Some says.Nothing) = []
node_in None = []

-- the event of a line, if it has one
abbrev pub event_in : Option Statement → List Event
event_in (Some (says.Event event)) = event ∷ []
event_in (Some (says.Node node)) = []
event_in (Some says.Nothing) = []
event_in None = []

-- the nodes of these lines, and their events, in order
abbrev pub nodes_in : List (Option Statement) → List NodeLine
nodes_in said = flat_map node_in said

abbrev pub events_in : List (Option Statement) → List Event
events_in said = flat_map event_in said

-- whether a line is at fault behind these nodes and events: it has no form of the grammar, or it is
-- a node behind an event, or the 66th node
abbrev pub is_fault : List NodeLine → List Event → Option Statement → Bool
is_fault nodes events None = true
is_fault nodes events (Some (says.Node node)) =
    nat_lt 0 (length events) || nat_le 65 (length nodes)
is_fault nodes events (Some (says.Event event)) = false
is_fault nodes events (Some says.Nothing) = false

-- whether the line at this place, from 0, is at fault; there is none behind the last
abbrev pub fault_at : List (Option Statement) → ℕ → Bool
fault_at said place = is_fault (nodes_in (take place said)) (events_in (take place said))
    (slice_index_or said place (Some says.Nothing))

-- the text is a script of these nodes and events: no line is at fault, and each node has all others
-- as its peers
pub record IsScript (text : List ℕ) (nodes : List NodeSettings) (events : List Event) : Type 0 where
  pub well_formed : (place : ℕ) → fault_at (statements text) place ≡ false
  pub nodes_are : nodes ≡ map (settings_among (nodes_in (statements text)))
      (nodes_in (statements text))
  pub events_are : events ≡ events_in (statements text)

-- the line with this number, from 1, is the first of the text that is at fault
pub record IsFirstFault (text : List ℕ) (line : ℕ) : Type 0 where
  pub place : ℕ
  pub line_is : line ≡ place + 1
  pub faulty : fault_at (statements text) place ≡ true
  pub first : (earlier : ℕ) → earlier < place → fault_at (statements text) earlier ≡ false
