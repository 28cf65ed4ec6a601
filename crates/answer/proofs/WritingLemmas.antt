-- What several writes took, one after the other, and what is written of a fault.
use Rattle.std.proofs.Common.{◌≡◌, ℕ, ◌+◌, List, ◌++◌, Option, Some, None, take, drop, sym, ap, ◌∙◌, subst, refl, inl, inr}
use Rattle.std.proofs.Math.Seq.{take-add}
use Rattle.std.proofs.lemmas.List.{take-append-drop}
use Rattle.std.proofs.KnownBytes.{Appends-trans}
use Rattle.std.specs.Io.KnownBytes.{Appends}
use Rattle.answer.specs.declared.fault.Fault.{Fault}
use Rattle.answer.specs.declared.fault.Fault.TheVariants.{Memory}
use Rattle.answer.specs.Answer.{IsAnswer, IsFault, WritesFault}
use Rattle.answer.specs.Printing.{AppendsPart, Change}
use Rattle.command_line.specs.Arguments.{Text}
use Rattle.answer.specs.Files.{Folder}
use Rattle.command_line.specs.Request.{Asked, Key, Decide, Check, CheckAll, World, Help, HelpOnHelp, Version, asked}

-- one write more took the first of what was left
pub takes_more : (a b c : Option (List ℕ)) (bytes rest : List ℕ) (taken count : ℕ)
    → rest ≡ drop taken bytes → Appends a b (take taken bytes) → Appends b c (take count rest)
    → Appends a c (take (taken + count) bytes)
takes_more a b c bytes rest taken count is first more =
    subst (Appends a c) (ap (λ l. take taken bytes ++ take count l) is
    ∙ sym (take-add taken count bytes))
    (Appends-trans a b c (take taken bytes) (take count rest) first more)

-- a beginning was taken
pub part_taken : (a b : Option (List ℕ)) (bytes : List ℕ) (taken : ℕ)
    → Appends a b (take taken bytes) → AppendsPart a b bytes
part_taken a b bytes taken appends =
    record {
      part = take taken bytes;
      rest = drop taken bytes;
      text_is = sym (take-append-drop taken bytes);
      appends = appends;
    }

-- memory may run out whatever is asked
memory_may_run_out : (folder : Folder) (request : Option Asked) → IsFault folder request Memory
memory_may_run_out folder None = tt
memory_may_run_out folder (Some (Key bytes)) = refl
memory_may_run_out folder (Some (Decide given)) = tt
memory_may_run_out folder (Some (Check files)) = tt
memory_may_run_out folder (Some (CheckAll files)) = tt
memory_may_run_out folder (Some (World file)) = tt
memory_may_run_out folder (Some (Help topic)) = refl
memory_may_run_out folder (Some HelpOnHelp) = refl
memory_may_run_out folder (Some Version) = refl

-- a fault was written, or that memory ran out
pub answers_fault : {W E : Type 0} (folder : Folder) (arguments : List Text) (out : Change W)
    (err : Change E) (fault : Fault) (result : ℕ) → IsFault folder (asked arguments) fault
    → WritesFault fault err result → out.new ≡ out.old → IsAnswer folder arguments out err result
answers_fault folder arguments out err fault result is (inl written) keeps =
    inr (fault, is, written, keeps)
answers_fault folder arguments out err fault result is (inr written) keeps =
    inr (Memory, memory_may_run_out folder (asked arguments), written, keeps)
