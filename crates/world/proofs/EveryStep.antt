-- Each event keeps what is true of a world, and what is settled.
use Rattle.std.proofs.Common.{sym, subst}
use Rattle.world.specs.declared.event.Event.{Event}
use Rattle.world.specs.declared.reply.{Reply.Reply, Took.Took}
use Rattle.world.specs.World.{World}
use Rattle.world.specs.Admissible.{Admissible}
use Rattle.world.specs.WorldRun.{Does, WorldStep}
use Rattle.world.specs.Facts.{IsEvent, AreWhole, Facts}
use Rattle.world.proofs.Loads.{take_kept, finish_kept, send_kept, ready_kept}
use Rattle.world.proofs.Acting.{act_kept, end_kept}
use Rattle.world.proofs.Forwarding.{forward_ended_kept, forward_told_kept, forward_broken_kept, put_kept}
use Rattle.world.proofs.Asking.{acquire_kept}
use Rattle.world.proofs.GoingUp.{up_kept}
use Rattle.world.proofs.Opening.{up_failed_kept}
use Rattle.world.proofs.GivingBack.{release_kept, close_kept}
use Rattle.world.proofs.Leaving.{leave_kept}
use Rattle.world.proofs.Logins.{login_event_kept}
use Rattle.world.proofs.Delivering.{deliver_kept}
use Rattle.world.proofs.Accepting.{accept_kept}
use Rattle.world.proofs.Telling.{told_kept, broken_kept}
use Rattle.world.proofs.Restarting.{restart_kept}

-- an admissible event keeps what is true of a world
pub event_kept : (event : Event) (said : Reply) (old new : World) → IsEvent event → AreWhole old.nodes
    → Admissible old event → Does event said old new → Facts old → Facts new
event_kept (Event.Login node label database secret kind) said old new is whole may does f =
    login_event_kept old new node label database secret kind said whole is may does f
event_kept (Event.Acquire label) said old new is whole may does f =
    acquire_kept old new label said whole may does f
event_kept (Event.Up label key) said old new is whole may does f =
    up_kept old new label key said whole may does f
event_kept (Event.UpFailed label) said old new is whole may does f =
    up_failed_kept old new label said whole does f
event_kept (Event.Send label) said old new is whole may does f =
    send_kept old new label whole does.0 f
event_kept (Event.Take at) said old new is whole may does f = take_kept old new at may does.0 f
event_kept (Event.Finish at) said old new is whole may does f = finish_kept old new at may does.0 f
event_kept (Event.Ready label) said old new is whole may does f =
    ready_kept old new label may does.0 f
event_kept (Event.Release label) said old new is whole may does f =
    release_kept old new label said whole does f
event_kept (Event.Close label) said old new is whole may does f =
    close_kept old new label said whole does f
event_kept (Event.Leave label) said old new is whole may does f =
    leave_kept old new label said whole may does f
event_kept (Event.Put bytes) said old new is whole may does f = put_kept old new bytes said does f
event_kept (Event.Deliver flight node) said old new is whole may does f =
    deliver_kept old new flight node said whole does f
event_kept (Event.Accept flight node) said old new is whole may does f =
    accept_kept old new flight node said whole may.0 does f
event_kept (Event.ForwardEnded flight) said old new is whole may does f =
    forward_ended_kept old new flight may does.0 f
event_kept (Event.ForwardTold flight) said old new is whole may does f =
    forward_told_kept old new flight may.0 may.1 may.2 may.3 does.0 f
event_kept (Event.ForwardBroken flight) said old new is whole may does f =
    forward_broken_kept old new flight does.0 f
event_kept (Event.Act place) said old new is whole may does f =
    act_kept old new place said may does f
event_kept (Event.End place) said old new is whole may does f = end_kept old new place may does.0 f
event_kept (Event.Told place) said old new is whole may does f =
    told_kept old new place said may.0 whole may.1 may.2 does f
event_kept (Event.Broken place) said old new is whole may does f =
    broken_kept old new place said may.0 whole may.1 does f
event_kept (Event.Restart node asked) said old new is whole may does f =
    restart_kept old new node asked said does f

-- so does each step
pub step_kept : (event : Event) (did : Took) (old new : World) → IsEvent event → AreWhole old.nodes
    → WorldStep event did old new → Facts old → Facts new
step_kept event (Took.Done said) old new is whole step f =
    event_kept event said old new is whole step.0 step.1 f
step_kept event Took.Skipped old new is whole step f = subst Facts (sym step.1) f
