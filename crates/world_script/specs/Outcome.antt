-- The text of an outcome (own): a line for each event, one for each interruption, and a line of
-- counts.
use Rattle.std.specs.Prelude.{ℕ, suc, Bool, true, false, List, [], ◌∷◌, ◌++◌, length, map, flat_map, count_by, codes, decimal}
use Rattle.hex.specs.Hex.{encode_lower}
use Rattle.pg_ids.specs.AnyKey.{any_key_bytes}
use Rattle.node_core.specs.Refusals.{join_number, cancel_number}
use Rattle.world.specs.declared.reply.Reply.{Reply}
use Rattle.world.specs.declared.reply.Reply.TheVariants as reply
use Rattle.world.specs.declared.reply.Took.{Took}
use Rattle.world.specs.declared.reply.Took.TheVariants as took
use Rattle.world.specs.declared.request.Interrupt.{Interrupt}

-- a word, and numbers behind it
abbrev pub phrase : List ℕ → List ℕ → List ℕ
phrase word numbers = word ++ flat_map (λ n. codes " " ++ decimal n) numbers

-- what is written of a reply
abbrev pub reply_text : Reply → List ℕ
reply_text (reply.Key key) = codes "key " ++ encode_lower (any_key_bytes key)
reply_text (reply.JoinRefused refusal) = phrase (codes "refused") (join_number refusal ∷ [])
reply_text (reply.Got backend) = phrase (codes "got") (backend ∷ [])
reply_text reply.Open = codes "open"
reply_text reply.Waiting = codes "waiting"
reply_text reply.Cancelled = codes "cancelled"
reply_text (reply.Lease backend) = phrase (codes "lease") (backend ∷ [])
reply_text reply.Freed = codes "freed"
reply_text reply.Idle = codes "idle"
reply_text reply.Quarantined = codes "quarantined"
reply_text reply.Closed = codes "closed"
reply_text reply.Left = codes "left"
reply_text (reply.Flight flight) = phrase (codes "flight") (flight ∷ [])
reply_text (reply.Serve arrival connection) = phrase (codes "serve") (arrival ∷ connection ∷ [])
reply_text (reply.Forward arrival flight) = phrase (codes "forward") (arrival ∷ flight ∷ [])
reply_text (reply.Unwait arrival) = phrase (codes "unwait") (arrival ∷ [])
reply_text (reply.CancelRefused arrival refusal) =
    phrase (codes "refused") (arrival ∷ cancel_number refusal ∷ [])
reply_text reply.NoCancel = codes "no-cancel"
reply_text (reply.Struck backend label) = phrase (codes "struck") (backend ∷ label ∷ [])
reply_text reply.Nothing = codes "nothing"
reply_text reply.Counted = codes "counted"
reply_text reply.Condemned = codes "condemned"
reply_text reply.Stale = codes "stale"
reply_text reply.Exhausted = phrase (codes "refused") (33 ∷ [])
reply_text reply.Done = codes "ok"

-- what is written of an event
abbrev pub took_text : Took → List ℕ
took_text (took.Done reply) = reply_text reply
took_text took.Skipped = codes "skipped"

-- the line of the event with this number
abbrev pub event_line : ℕ → Took → List ℕ
event_line n event = decimal n ++ codes " " ++ took_text event

-- the lines of these events, of which the first has this number
abbrev pub event_lines : ℕ → List Took → List (List ℕ)
event_lines n [] = []
event_lines n (event ∷ more) = event_line n event ∷ event_lines (suc n) more

-- the line of an interrupt: the server process, the client and the arrival
abbrev pub interrupt_line : Interrupt → List ℕ
interrupt_line i = phrase (codes "interrupt") (i.backend ∷ i.label ∷ i.arrival ∷ [])

abbrev pub is_skipped : Took → Bool
is_skipped took.Skipped = true
is_skipped (took.Done reply) = false

-- how many events there were, how many of them were skipped, and how many interrupts there were
abbrev pub count_line : List Took → List Interrupt → List ℕ
count_line events interrupts = codes "events " ++ decimal (length events)
    ++ codes " skipped " ++ decimal (count_by is_skipped events)
    ++ codes " interrupts " ++ decimal (length interrupts)

-- the lines of an outcome
abbrev pub outcome_lines : List Took → List Interrupt → List (List ℕ)
outcome_lines events interrupts = event_lines 1 events ++ map interrupt_line interrupts
    ++ count_line events interrupts ∷ []

-- these lines, each ended by a line feed
abbrev pub ended : List (List ℕ) → List ℕ
ended lines = flat_map (λ line. line ++ codes "\n") lines

-- the whole text
abbrev pub outcome : List Took → List Interrupt → List ℕ
outcome events interrupts = ended (outcome_lines events interrupts)
