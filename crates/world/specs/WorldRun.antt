-- What each event does in a world, and what a list of events brings about (own).
use Rattle.std.specs.List.{AllZip}
use Rattle.std.specs.Prelude.{◌≡◌, true, List, [], ◌∷◌, Some}
use Rattle.ini_config.specs.Node.{NodeSettings}
use Rattle.node_core.specs.View.{NodeView, IsFresh}
use Rattle.world.specs.declared.event.Event.{Event}
use Rattle.world.specs.declared.reply.{Reply.Reply, Took.Took}
use Rattle.world.specs.Admissible.{Admissible}
use Rattle.world.specs.Settled.{SettledStays}
use Rattle.world.specs.World.{World, Report, nothing_yet}
use Rattle.world.specs.LinkEvents.{LogsIn, Asks, Opens, Fails, Sends, Takes, Finishes, GetsReady, GivesBack, Closes, Goes}
use Rattle.world.specs.CancelEvents.{Puts, Comes, Accepts, Forwards, Acts, Ends, Tells, Breaks, Restarts}

-- what an event does, with its reply
abbrev pub Does : Event → Reply → World → World → Type 0
Does (Event.Login node label database secret kind) said old new =
    LogsIn node label database secret kind said old new
Does (Event.Acquire label) said old new = Asks label said old new
Does (Event.Up label key) said old new = Opens label key said old new
Does (Event.UpFailed label) said old new = Fails label said old new
Does (Event.Send label) said old new = Sends label old new × (said ≡ Reply.Done)
Does (Event.Take at) said old new = Takes at old new × (said ≡ Reply.Done)
Does (Event.Finish at) said old new = Finishes at old new × (said ≡ Reply.Done)
Does (Event.Ready label) said old new = GetsReady label old new × (said ≡ Reply.Done)
Does (Event.Release label) said old new = GivesBack label said old new
Does (Event.Close label) said old new = Closes label said old new
Does (Event.Leave label) said old new = Goes label said old new
Does (Event.Put bytes) said old new = Puts bytes said old new
Does (Event.Deliver flight node) said old new = Comes flight node said old new
Does (Event.Accept flight node) said old new = Accepts flight node said old new
Does (Event.ForwardEnded flight) said old new =
    Forwards flight (λ forward. record forward { ended = true }) old new × (said ≡ Reply.Done)
Does (Event.ForwardTold flight) said old new =
    Forwards flight (λ forward. record forward { report = Some Report.Clean }) old new
    × (said ≡ Reply.Done)
Does (Event.ForwardBroken flight) said old new =
    Forwards flight (λ forward. record forward { report = Some Report.Fault }) old new
    × (said ≡ Reply.Done)
Does (Event.Act place) said old new = Acts place said old new
Does (Event.End place) said old new = Ends place old new × (said ≡ Reply.Done)
Does (Event.Told place) said old new = Tells place said old new
Does (Event.Broken place) said old new = Breaks place said old new
Does (Event.Restart node asked) said old new = Restarts node asked said old new

-- one event in a world: it takes place exactly where it is admissible; otherwise nothing changes
abbrev pub WorldStep : Event → Took → World → World → Type 0
WorldStep event (Took.Done said) old new = Admissible old event × Does event said old new
WorldStep event Took.Skipped old new = (Admissible old event → ⊥) × (new ≡ old)

-- events one after another, with what each did
pub data Runs : World → List Event → List Took → World → Type 0 where
  Over : (w : World) → Runs w [] [] w
  Then : (event : Event) (did : Took) (events : List Event) (more : List Took)
      (old between new : World)
      → WorldStep event did old between → Runs between events more new
      → Runs old (event ∷ events) (did ∷ more) new

-- Events one after another, where from each world of the list on, to the list's end, what is
-- settled stays so, and no interruption comes for it or for what came of it.
pub data RunsSettled : World → List Event → List Took → World → Type 0 where
  Over : (w : World) → RunsSettled w [] [] w
  Then : (event : Event) (did : Took) (events : List Event) (more : List Took)
      (old between new : World)
      → WorldStep event did old between → RunsSettled between events more new
      → SettledStays old new → RunsSettled old (event ∷ events) (did ∷ more) new

-- the nodes of a group that were just made, with boot 0
abbrev pub AreFresh : List NodeSettings → List NodeView → Type 0
AreFresh group nodes = AllZip (λ (settings : NodeSettings). IsFresh settings 0) group nodes

-- a world of a group after these events: the nodes are new, and nothing had happened
pub record WorldRun (group : List NodeSettings) (events : List Event) (did : List Took)
    (w : World) : Type 0 where
  pub nodes : List NodeView
  pub fresh : AreFresh group nodes
  pub runs : Runs (nothing_yet group nodes) events did w

-- such a world, where what was settled at any place of the list is settled for good
pub record SettledRun (group : List NodeSettings) (events : List Event) (did : List Took)
    (w : World) : Type 0 where
  pub nodes : List NodeView
  pub fresh : AreFresh group nodes
  pub runs : RunsSettled (nothing_yet group nodes) events did w

-- the world of a group in which nothing has happened: its nodes were just made
abbrev pub IsNew : List NodeSettings → World → Type 0
IsNew group w = (nodes : List NodeView) × AreFresh group nodes × (w ≡ nothing_yet group nodes)
