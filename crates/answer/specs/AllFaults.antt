-- What `check --all` tells of (own): every fault of every file, in order, or that of the group where
-- no file has one.
use Rattle.std.specs.Prelude.{ℕ, ◌≡◌, ◌⊎◌, ◌<◌, List, [], Option, Contains, String, length, string_bytes, ⊤}
use Rattle.std.specs.Str.Lines.{lines}
use Rattle.ini_config.specs.Codes.{IsMemory}
use Rattle.ini_config.specs.Faults.{LineFault, AreFaults}
use Rattle.ini_config.specs.declared.faults.WholeFault.{WholeFault}
use Rattle.ini_config.specs.declared.fault.GroupError.{GroupError}
use Rattle.answer.specs.declared.fault.Fault.{Fault}
use Rattle.answer.specs.declared.fault.Fault.TheVariants as fault
use Rattle.answer.specs.Explained.{IsTold, TellsEach, TellsFile, group_fault_text}
use Rattle.answer.specs.Files.{Folder, Holds, IsGroupFault, MakeNoGroup}
use Rattle.ini_config.specs.Node.{NodeSettings}
use Rattle.std.specs.declared.alloc.Global.{Global}

-- the text tells of all faults of the file's text
pub record TellsFaults (known : Option (List ℕ)) (file told : List ℕ) : Type 0 where
  pub text : List ℕ
  pub held : Holds known text
  pub in_lines : List LineFault
  pub whole : List WholeFault
  pub faults : AreFaults [] (lines text) in_lines whole
  pub tells : TellsFile file in_lines whole told

-- the text tells of all faults of each file, in the order of the files
abbrev pub TellsAll : (List ℕ → Option (List ℕ)) → List (List ℕ) → List ℕ → Type 0
TellsAll holds files told = TellsEach (λ file. TellsFaults (holds file) file) files told

-- memory ran out for the file with this name
abbrev pub IsMemoryOf : List ℕ → Fault → Type 0
IsMemoryOf name (fault.InFile file error) = (string_bytes file ≡ name) × IsMemory error
IsMemoryOf name fault.Memory = ⊤
IsMemoryOf name _ = ⊥

-- the file with this name can't be read, or memory ran out for it
abbrev pub IsUnreadFile : Folder → List ℕ → Fault → Type 0
IsUnreadFile folder name (fault.Unread file reason) = (string_bytes file ≡ name)
    × folder.unreadable name
IsUnreadFile folder name why = IsMemoryOf name why

-- the same of one of the files
pub record IsUnread (folder : Folder) (files : List (List ℕ)) (why : Fault) : Type 0 where
  pub name : List ℕ
  pub one : Contains files name
  pub unread : IsUnreadFile folder name why

-- the fault tells why nodes are no group
pub record TellsNoGroup (nodes : List NodeSettings) (why : Fault) : Type 0 where
  pub error : GroupError
  pub refused : IsGroupFault nodes error
  pub text : String Global
  pub tells : IsTold (group_fault_text error) (string_bytes text)
  pub why_is : why ≡ fault.Explained text

-- the text tells why files without faults make no group
pub record TellsGroup (folder : Folder) (files : List (List ℕ)) (told : List ℕ) : Type 0 where
  pub error : GroupError
  pub fault : MakeNoGroup folder files error
  pub tells : IsTold (group_fault_text error) told

-- Why files make no group, told whole: all faults of the files, of which there are some, or that of
-- the group; or a file can't be read; or memory ran out.
abbrev pub IsWholeFault : Folder → List (List ℕ) → Fault → Type 0
IsWholeFault folder files (fault.Explained text) =
    (TellsAll folder.holds files (string_bytes text) × (0 < length (string_bytes text)))
    ⊎ TellsGroup folder files (string_bytes text)
IsWholeFault folder files fault.Memory = ⊤
IsWholeFault folder files why = IsUnread folder files why
