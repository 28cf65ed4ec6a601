-- A step of a world, whether memory is refused or not, and steps one after another.
use Rattle.std.proofs.Common.{◌≡◌, ℕ, ◌+◌, ◌≤◌, List, [], ◌∷◌, ◌++◌, Some, Result, Ok, Err, length, take, add-one, sym, subst}
use Rattle.std.specs.List.{slice_get}
use Rattle.std.proofs.Math.Seq.{take-suc}
use Rattle.std.proofs.lemmas.List.{take_all}
use Rattle.std.proofs.lemmas.Option.{get_or_from_slice_get}
use Rattle.std.specs.Result.{IfOk, OnErr}
use Rattle.world.specs.declared.event.Event.{Event}
use Rattle.world.specs.declared.reply.Took.{Took}
use Rattle.world.specs.World.{World}
use Rattle.world.specs.WorldRun.{WorldStep, Runs, RunsSettled}
use Rattle.world.specs.Settled.{SettledStays}
use Rattle.world.specs.Facts.{IsEvent, AreWhole, Facts}
use Rattle.world.proofs.Lists.{before_end}
use Rattle.world.proofs.EveryStep.{step_kept}
use Rattle.world.proofs.Finality.{Passes, step_passes, passes_not, passes_twice}

-- what is true of a world stays so
pub still_true : {E : Type 0} (event : Event) (r : Result Took E) (old new : World) → IsEvent event → AreWhole old.nodes
    → Facts old → IfOk r (λ (took : Took). WorldStep event took old new) → OnErr r (new ≡ old) → Facts new
still_true event (Ok took) old new is whole f step err = step_kept event took old new is whole step f
still_true event (Err e) old new is whole f step err = subst Facts (sym err) f

-- what is settled stays so
pub still_settled : {E : Type 0} (event : Event) (r : Result Took E) (old new : World)
    → Facts old → IfOk r (λ (took : Took). WorldStep event took old new) → OnErr r (new ≡ old)
    → SettledStays old new
still_settled event (Ok took) old new f step err = (step_passes event took old new step f).stays
still_settled event (Err e) old new f step err = subst (SettledStays old) (sym err) (passes_not old).stays

-- what is true in any case is true where a function fails
pub on_err : {X E P : Type 0} (r : Result X E) → P → OnErr r P
on_err (Ok x) p = tt
on_err (Err e) p = p

-- events one after another, each of whose worlds passes to the last
pub data Along : World → List Event → List Took → World → Type 0 where
  Over : (w : World) → Along w [] [] w
  Then : (event : Event) (did : Took) (events : List Event) (more : List Took) (old between new : World)
      → WorldStep event did old between → Along between events more new → Passes old new
      → Along old (event ∷ events) (did ∷ more) new

-- they are a run
pub along_runs : (events : List Event) (did : List Took) (old new : World) → Along old events did new → Runs old events did new
along_runs events did old new (Along.Over w) = Runs.Over w
along_runs events did old new (Along.Then e d es ds from between to first rest passes) =
    Runs.Then e d es ds from between to first (along_runs es ds between to rest)

-- and what is settled in one of its worlds is settled for good
pub along_settled : (events : List Event) (did : List Took) (old new : World) → Along old events did new → RunsSettled old events did new
along_settled events did old new (Along.Over w) = RunsSettled.Over w
along_settled events did old new (Along.Then e d es ds from between to first rest passes) =
    RunsSettled.Then e d es ds from between to first (along_settled es ds between to rest) passes.stays

-- one more step
along_on : (events : List Event) (did : List Took) (event : Event) (took : Took) (old mid new : World)
    → Along old events did mid → Facts mid → Facts new → WorldStep event took mid new
    → Along old (events ++ event ∷ []) (did ++ took ∷ []) new
along_on events did event took old mid new (Along.Over w) at_mid at_new step =
    Along.Then event took [] [] w new new step (Along.Over new) (step_passes event took w new step at_mid)
along_on events did event took old mid new (Along.Then e d es ds from between to first rest passes) at_mid at_new step =
    Along.Then e d (es ++ event ∷ []) (ds ++ took ∷ []) from between new first
    (along_on es ds event took between to new rest at_mid at_new step)
    (passes_twice from to new at_mid at_new passes (step_passes event took to new step at_mid))

-- the first events, and one more
pub along_first : (events : List Event) (i : ℕ) (event : Event) (did more : List Took) (took : Took) (old mid new : World)
    → slice_get events i ≡ Some event → Along old (take i events) did mid → Facts mid → Facts new
    → WorldStep event took mid new → more ≡ did ++ took ∷ [] → Along old (take (i + 1) events) more new
along_first events i event did more took old mid new at along at_mid at_new step e =
    rw (e, add-one, take-suc events i event (before_end events i event at), get_or_from_slice_get events i event event at)
    (along_on (take i events) did event took old mid new along at_mid at_new step)

-- all of them
pub along_all : (events : List Event) (i : ℕ) (did : List Took) (old new : World) → length events ≤ i
    → Along old (take i events) did new → Along old events did new
along_all events i did old new past along =
    subst (λ (es : List Event). Along old es did new) (take_all i events past) along
