-- The answers of the admin console (own queries and columns; PostgreSQL manual, "Message Formats").
-- `Asks`: which text is which query. `AreRows`: the rows of each query. `Answers`: the messages
-- that answer a text.
use Rattle.std.specs.Prelude.{ℕ, zero, suc, ◌≡◌, ◌==◌, ◌⊎◌, Bool, true, false, not, List, [], ◌∷◌, ◌++◌, length, map, filter, flat_map, take, codes, decimal, slice_get, slice_index, IsPermutation, Option, Some, None}
use Rattle.std.specs.Char.{to_ascii_lowercase}
use Rattle.std.specs.List.Sorted.{IsNonDecreasingBy}
use Rattle.byteorder.specs.Endian.{big_bytes}
use Rattle.pg_frames.specs.declared.frame.Frame.{Frame}
use Rattle.startup.specs.ErrorCode.{code_text, message_text, severity_text}
use Rattle.startup.specs.Replies.{zero_ended, error_fields}
use Rattle.startup.specs.declared.error_code.ErrorCode.TheVariants.{FeatureNotSupported}
use Rattle.startup.specs.declared.error_code.Severity.TheVariants.{Error}
use Rattle.ini_config.specs.Node.{NodeSettings, DatabaseSettings, PeerSettings}
use Rattle.link_pool.specs.declared.place.Place.{Place}
use Rattle.link_pool.specs.declared.place.Place.TheVariants as place
use Rattle.link_pool.specs.declared.place.Link.{Link}
use Rattle.link_pool.specs.declared.place.LinkState.{LinkState}
use Rattle.link_pool.specs.declared.place.LinkState.TheVariants as state
use Rattle.link_pool.specs.declared.place.Claim.{Claim}
use Rattle.link_pool.specs.declared.place.Claim.TheVariants as claim
use Rattle.link_pool.specs.Pool.{PoolView, DatabasePool}
use Rattle.node_core.specs.View.{NodeView, client_at}
use Rattle.node_core.specs.declared.client.Client.{Client}
use Rattle.console.specs.declared.numbered_row.NumberedRow.{NumberedRow}
use Rattle.console.specs.declared.query.Query.{Query}
use Rattle.console.specs.declared.query.Query.TheVariants.{Peers, Links, Clients, Cancels}

-- ---- queries

-- how a query is written
abbrev pub text_of : Query → List ℕ
text_of Peers = codes "SHOW PEERS"
text_of Links = codes "SHOW LINKS"
text_of Clients = codes "SHOW CLIENTS"
text_of Cancels = codes "SHOW CANCELS"

-- both texts are the same, except for the case of their ASCII letters
abbrev pub IsSameInAnyCase : List ℕ → List ℕ → Type 0
IsSameInAnyCase a b = map to_ascii_lowercase a ≡ map to_ascii_lowercase b

-- the text is that of this query, in any case of letters, or that with one `;` behind it
abbrev pub Asks : List ℕ → Query → Type 0
Asks text query = IsSameInAnyCase text (text_of query)
    ⊎ IsSameInAnyCase text (text_of query ++ codes ";")

-- the rows of a query are of the node's state
abbrev pub shows_node : Query → Bool
shows_node Peers = false
shows_node Links = true
shows_node Clients = true
shows_node Cancels = false

-- ---- messages

-- a message of this type
abbrev pub frame : ℕ → List ℕ → Frame
frame kind body = record { kind = kind; body = body }

-- what describes a column besides its name: of no table, and of no column there; of the type
-- `text`, with a length of any size and without a modifier; in text format
abbrev pub text_column : List ℕ
text_column = big_bytes 4 0 ++ big_bytes 2 0 ++ big_bytes 4 25 ++ big_bytes 2 65535
    ++ big_bytes 4 4294967295 ++ big_bytes 2 0

-- the description of a column: its name and a zero byte, and the rest
abbrev pub column : List ℕ → List ℕ
column name = name ++ 0 ∷ text_column

-- RowDescription of columns of these names
abbrev pub row_description : List (List ℕ) → Frame
row_description names = frame 84 (big_bytes 2 (length names) ++ flat_map column names)

-- a value: its length, and its bytes
abbrev pub value : List ℕ → List ℕ
value text = big_bytes 4 (length text) ++ text

-- DataRow of these values
abbrev pub data_row : List (List ℕ) → Frame
data_row texts = frame 68 (big_bytes 2 (length texts) ++ flat_map value texts)

-- CommandComplete of every query
abbrev pub command_complete : Frame
command_complete = frame 67 (zero_ended (codes "SHOW"))

-- ReadyForQuery, idle
abbrev pub ready_for_query : Frame
ready_for_query = frame 90 (73 ∷ [])

-- ErrorResponse to a text that is no query
abbrev pub not_in_profile : Frame
not_in_profile = frame 69 (error_fields (severity_text Error) (code_text FeatureNotSupported)
    (message_text FeatureNotSupported))

-- ---- rows in order

-- these are the rows, each once, by rising number
pub record IsByNumber (rows : List NumberedRow) (frames : List Frame) : Type 0 where
  pub listed : List NumberedRow
  pub each : IsPermutation rows listed
  pub rising : IsNonDecreasingBy (λ row. row.number) listed
  pub frames_are : frames ≡ map (λ row. row.frame) listed

-- the numbers below this one, from 0 on
abbrev pub below : ℕ → List ℕ
below zero = []
below (suc n) = below n ++ n ∷ []

-- ---- PEERS

-- whether a peer is another node
abbrev pub is_other : NodeSettings → PeerSettings → Bool
is_other settings p = not (p.number == settings.peer_id)

-- the peers that the settings list, without the node itself
abbrev pub other_peers : NodeSettings → List PeerSettings
other_peers settings = filter (is_other settings) settings.peers

abbrev pub peer_row : PeerSettings → List (List ℕ)
peer_row p = decimal p.number ∷ p.host ∷ decimal p.port ∷ decimal p.pool_size ∷ []

-- the row of a peer, by its number
abbrev pub numbered_peer : PeerSettings → NumberedRow
numbered_peer p = record { number = p.number; frame = data_row (peer_row p) }

-- ---- what LINKS and CLIENTS show

-- the name of a database
abbrev pub name_of : Option DatabaseSettings → List ℕ
name_of None = []
name_of (Some database) = database.name

-- the name of the database at a place of the settings, and an empty text where there is none
abbrev pub database_name : NodeSettings → ℕ → List ℕ
database_name settings database = name_of (slice_get settings.databases database)

-- ---- LINKS

-- the link at a place
abbrev pub link_at : Place → List Link
link_at place.Free = []
link_at (place.Open permit slot) = []
link_at (place.Link link) = link ∷ []

-- the links of a database, if there is one: the index of a place is below 65,536
abbrev pub links_in : Option DatabasePool → List Link
links_in None = []
links_in (Some pool) = flat_map link_at (take 65536 pool.places)

-- the links of a node: the number of a database is below 256
abbrev pub links_of : PoolView → List Link
links_of links = flat_map (λ pool. links_in (Some pool)) (take 256 links.pools)

abbrev pub place_text : LinkState → List ℕ
place_text state.Idle = codes "idle"
place_text (state.Held slot) = codes "held"
place_text (state.Quarantined giver) = codes "quarantined"

abbrev pub yes_or_no : Bool → List ℕ
yes_or_no true = codes "yes"
yes_or_no false = codes "no"

-- a link by its number: its database, where it is, how many of its tickets are open, and whether it
-- is condemned
abbrev pub link_row : NodeSettings → Link → List (List ℕ)
link_row settings link = decimal link.details.link
    ∷ database_name settings link.details.at.database
    ∷ place_text link.state ∷ decimal link.hold.tickets ∷ yes_or_no link.hold.condemned ∷ []

-- the row of a link, by its number
abbrev pub numbered_link : NodeSettings → Link → NumberedRow
numbered_link settings link = record {
  number = link.details.link;
  frame = data_row (link_row settings link);
}

-- ---- CLIENTS

-- what a client has: a place in a queue, a permit to open a link, or a link
abbrev pub state_text : Option Claim → List ℕ
state_text None = codes "none"
state_text (Some claim.Nothing) = codes "none"
state_text (Some claim.Cancelled) = codes "none"
state_text (Some (claim.Waiting database)) = codes "waiting"
state_text (Some (claim.Open at)) = codes "opening"
state_text (Some (claim.Link at)) = codes "link"
state_text (Some (claim.Gave at)) = codes "none"

-- the row of a slot, if it is live
abbrev pub slot_row : NodeSettings → ℕ → Option Client → Option Claim → List (List (List ℕ))
slot_row settings slot None had = []
slot_row settings slot (Some client) had =
    (decimal slot ∷ database_name settings client.database ∷ state_text had ∷ []) ∷ []

-- the rows of the live slots, by rising number
abbrev pub client_rows : NodeSettings → List (Option Client) → List Claim → List (List (List ℕ))
client_rows settings clients claims = flat_map
    (λ slot. slot_row settings slot (client_at (slice_get clients slot)) (slice_get claims slot))
    (below (length clients))

-- ---- CANCELS

-- a kind of cancel request, and how many there were
abbrev pub cancel_row : List ℕ → ℕ → List (List ℕ)
cancel_row kind count = kind ∷ decimal count ∷ []

-- the eight counts, in the order of the node's words
abbrev pub cancel_rows : List ℕ → List (List (List ℕ))
cancel_rows words = cancel_row (codes "spent") (slice_index words 0)
    ∷ cancel_row (codes "unknown") (slice_index words 1)
    ∷ cancel_row (codes "no_peer") (slice_index words 2)
    ∷ cancel_row (codes "no_link") (slice_index words 3)
    ∷ cancel_row (codes "forwarded") (slice_index words 4)
    ∷ cancel_row (codes "sent") (slice_index words 5)
    ∷ cancel_row (codes "ended") (slice_index words 6)
    ∷ cancel_row (codes "failed") (slice_index words 7) ∷ []

-- ---- answers

-- the names of a query's columns
abbrev pub columns_of : Query → List (List ℕ)
columns_of Peers = codes "peer_id" ∷ codes "host" ∷ codes "port" ∷ codes "pool_size" ∷ []
columns_of Links = codes "link" ∷ codes "database" ∷ codes "place" ∷ codes "tickets"
    ∷ codes "condemned" ∷ []
columns_of Clients = codes "slot" ∷ codes "database" ∷ codes "state" ∷ []
columns_of Cancels = codes "kind" ∷ codes "count" ∷ []

-- these are the messages of a query's rows
abbrev pub AreRows : Query → NodeView → List ℕ → NodeSettings → List Frame → Type 0
AreRows Peers view words settings rows =
    IsByNumber (map numbered_peer (other_peers settings)) rows
AreRows Links view words settings rows =
    IsByNumber (map (numbered_link settings) (links_of view.links)) rows
AreRows Clients view words settings rows =
    rows ≡ map data_row (client_rows settings view.clients view.links.claims)
AreRows Cancels view words settings rows = rows ≡ map data_row (cancel_rows words)

-- the messages that answer a query which has these rows
abbrev pub frames_of : Query → List Frame → List Frame
frames_of query rows =
    row_description (columns_of query) ∷ (rows ++ command_complete ∷ ready_for_query ∷ [])

-- These messages are the reply to a text, by a node's view, the eight words of its board and its
-- settings: the rows of a query, or, where the text is no query, that it isn't in this profile.
abbrev pub Answers : List ℕ → NodeView → List ℕ → NodeSettings → List Frame → Type 0
Answers text view words settings frames =
    ((query : Query) × (rows : List Frame) × Asks text query
    × AreRows query view words settings rows × (frames ≡ frames_of query rows))
    ⊎ (((query : Query) → Asks text query → ⊥)
    × (frames ≡ not_in_profile ∷ ready_for_query ∷ []))
