-- What a reader of scripts returns if memory runs out (internal).
use Rattle.std.specs.Prelude.{ℕ, ◌+◌, ◌≡◌, List, Result, Ok, Err, Option, Some, None, ⊤, false, true, ◌++◌, codes}
use Rattle.world_script.specs.Script.{is_fault, node_in, event_in}
use Rattle.world_script.specs.declared.fault.LineFault.{LineFault}
use Rattle.world_script.specs.declared.fault.LineFault.TheVariants.{Form, Memory}
use Rattle.world_script.specs.declared.fault.ScriptError.{ScriptError}
use Rattle.world_script.specs.declared.fault.ScriptError.TheVariants as script
use Rattle.ini_config.specs.Node.{NodeSettings}
use Rattle.world.specs.declared.event.Event.{Event}
use Rattle.world_script.specs.declared.script.Script.{Script}
use Rattle.world_script.specs.declared.draft.Draft.{Draft}
use Rattle.world_script.specs.declared.statement.Statement.{Statement}

-- a fault of form by its number among all refusals, and by its name (own)
abbrev pub bad_script : ℕ
bad_script = 80

abbrev pub bad_script_name : List ℕ
bad_script_name = codes "BadScript"

-- the number of a refusal; out of memory has none
abbrev pub script_number : ScriptError → Option ℕ
script_number (script.Bad line) = Some bad_script
script_number script.Memory = None

-- a reader returned what is said, or a fault of form where nothing is said; or memory ran out
abbrev pub Finds : {X : Type 0} → Result X LineFault → Option X → Type 0
Finds (Ok found) said = said ≡ Some found
Finds (Err Form) said = said ≡ None
Finds (Err Memory) said = ⊤

-- one line more was taken, or it is at fault behind the others; or memory ran out
abbrev pub Takes : Draft → Draft → Option Statement → Result ⊤ LineFault → Type 0
Takes old new said (Ok done) = (is_fault old.nodes.items old.events.items said ≡ false)
    × (new.nodes.items ≡ old.nodes.items ++ node_in said)
    × (new.events.items ≡ old.events.items ++ event_in said)
Takes old new said (Err Form) = is_fault old.nodes.items old.events.items said ≡ true
Takes old new said (Err Memory) = ⊤

-- the fault of the line at this place, from 0
abbrev pub in_line : ℕ → LineFault → ScriptError
in_line place Form = script.Bad (place + 1)
in_line place Memory = script.Memory

-- a fault of form is in a line of which this is true
abbrev pub Refuses : {X : Type 0} → Result X ScriptError → (ℕ → Type 0) → Type 0
Refuses (Ok x) At = ⊤
Refuses (Err (script.Bad line)) At = At line
Refuses (Err script.Memory) At = ⊤

-- the script of these nodes and events was read, unless memory ran out
abbrev pub ReadsOnly : Result Script ScriptError → List NodeSettings → List Event → Type 0
ReadsOnly (Ok found) nodes events = (found.nodes.items ≡ nodes) × (found.events.items ≡ events)
ReadsOnly (Err (script.Bad line)) nodes events = ⊥
ReadsOnly (Err script.Memory) nodes events = ⊤

-- this line was refused, unless memory ran out
abbrev pub RefusesOnly : {X : Type 0} → Result X ScriptError → ℕ → Type 0
RefusesOnly (Ok x) line = ⊥
RefusesOnly (Err (script.Bad found)) line = found ≡ line
RefusesOnly (Err script.Memory) line = ⊤
