-- The outcome of a script's file if its opener tells what it contains, and why a file has none
-- (own).
use Rattle.std.specs.Prelude.{ℕ, ◌≡◌, ◌⊎◌, List, Option, string_bytes, ⊤}
use Rattle.ini_config.specs.declared.fault.GroupError.{GroupError}
use Rattle.ini_config.specs.declared.fault.GroupError.TheVariants as group
use Rattle.ini_config.specs.Group.{IsGroup}
use Rattle.ini_config.specs.Node.{NodeSettings}
use Rattle.world.specs.SafeCancellation.{IsSafe}
use Rattle.world.specs.World.{World}
use Rattle.world.specs.WorldRun.{WorldRun}
use Rattle.world.specs.declared.event.Event.{Event}
use Rattle.world.specs.declared.reply.Took.{Took}
use Rattle.world_script.specs.Script.{IsScript, IsFirstFault}
use Rattle.world_script.specs.Outcome.{outcome}
use Rattle.answer.specs.declared.fault.Fault.{Fault}
use Rattle.answer.specs.declared.fault.Fault.TheVariants as fault
use Rattle.answer.specs.Files.{Folder, Holds, IsGroupFault}

-- the file's text is a script of these nodes and events
pub record SaysScript (known : Option (List ℕ)) (nodes : List NodeSettings) (events : List Event)
    : Type 0 where
  pub text : List ℕ
  pub held : Holds known text
  pub script : IsScript text nodes events

-- the text is the outcome of a run of these events in this group, whose world is safe: each
-- interrupt of it struck a query of the client that the key was given to
pub record RunsTo (nodes : List NodeSettings) (events : List Event) (text : List ℕ) : Type 0 where
  pub took : List Took
  pub world : World
  pub run : WorldRun nodes events took world
  pub safe : IsSafe world
  pub text_is : text ≡ outcome took world.interrupts

-- the file says a script whose nodes are a group, and the text is the outcome of its run
pub record HasOutcome (known : Option (List ℕ)) (text : List ℕ) : Type 0 where
  pub nodes : List NodeSettings
  pub events : List Event
  pub said : SaysScript known nodes events
  pub group : IsGroup nodes
  pub runs : RunsTo nodes events text

-- this line is the first fault of the file's text
pub record HasBadLine (known : Option (List ℕ)) (line : ℕ) : Type 0 where
  pub text : List ℕ
  pub held : Holds known text
  pub refused : IsFirstFault text line

-- the file says a script, and its nodes are no group
pub record SaysNoGroup (known : Option (List ℕ)) (error : GroupError) : Type 0 where
  pub nodes : List NodeSettings
  pub events : List Event
  pub said : SaysScript known nodes events
  pub fault : IsGroupFault nodes error

-- Why the file with this name says no script: its first fault, or that it can't be read; or memory
-- ran out.
abbrev pub IsScriptFault : Folder → List ℕ → Fault → Type 0
IsScriptFault folder name (fault.InScript file line) = (string_bytes file ≡ name)
    × HasBadLine (folder.holds name) line
IsScriptFault folder name (fault.Unread file reason) = (string_bytes file ≡ name)
    × folder.unreadable name
IsScriptFault folder name fault.Memory = ⊤
IsScriptFault folder name _ = ⊥

-- why the file with this name has no outcome: it says no script, or its nodes are no group; or
-- memory ran out
abbrev pub IsWorldFault : Folder → List ℕ → Fault → Type 0
IsWorldFault folder name (fault.OfGroup error) = (error ≡ group.Memory)
    ⊎ SaysNoGroup (folder.holds name) error
IsWorldFault folder name fault = IsScriptFault folder name fault
