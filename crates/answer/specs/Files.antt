-- What settings files say if their opener tells what they contain, and which error is the first
-- (own).
use Rattle.std.specs.Prelude.{ℕ, ◌≡◌, ◌⊎◌, List, ◌∷◌, ◌++◌, Option, Result, IfSome, Ok, Err, length, string_bytes, ⊤}
use Rattle.std.specs.List.{AllZip}
use Rattle.std.specs.Str.{IsUtf8}
use Rattle.std.specs.declared.io.Error.{Error}
use Rattle.ini_config.specs.declared.fault.IniError.{IniError}
use Rattle.ini_config.specs.declared.fault.GroupError.{GroupError}
use Rattle.ini_config.specs.declared.fault.GroupError.TheVariants.{SamePeer, MissingPeer, NoPeering, Memory}
use Rattle.ini_config.specs.Codes.{IsMemory}
use Rattle.ini_config.specs.Group.{AllPeer, PeersDiffer, AllListed, IsGroup}
use Rattle.ini_config.specs.Node.{NodeSettings}
use Rattle.ini_config.specs.Settings.{settings_of}
use Rattle.answer.specs.declared.fault.Fault.{Fault}
use Rattle.answer.specs.declared.fault.Fault.TheVariants as fault
use Rattle.answer.specs.Reading.{Unreadable}
use Rattle.answer.specs.Texts.{group_text}

-- Files by their names: what each holds, where that is known, and what there is to show where one
-- can't be read.
pub record Folder : Type 1 where
  pub holds : List ℕ → Option (List ℕ)
  pub unreadable : List ℕ → Type 0

-- the files of an opener, by what it is known to hold, what may come of opening one, and what a
-- read makes of what was opened
abbrev pub folder_of : {R : Type 0} → (List ℕ → Option (List ℕ))
    → (List ℕ → Result R Error → Type 0) → (R → List ℕ → Result ℕ Error → R → Type 0) → Folder
folder_of holds opens gave = record {
  holds = holds;
  unreadable = λ name. Unreadable (opens name) gave;
}

-- the text, which is UTF-8, is what the file holds, where that is known
pub record Holds (known : Option (List ℕ)) (text : List ℕ) : Type 0 where
  pub same : IfSome known (λ bytes. text ≡ bytes)
  pub utf8 : IsUtf8 text

-- the node is what the file's text says
pub record Says (known : Option (List ℕ)) (node : NodeSettings) : Type 0 where
  pub text : List ℕ
  pub held : Holds known text
  pub said : settings_of text ≡ Ok node

-- the nodes are what the files say, one for each file, in order
abbrev pub SayInOrder : (List ℕ → Option (List ℕ)) → List (List ℕ) → List NodeSettings → Type 0
SayInOrder holds files nodes = AllZip (λ file node. Says (holds file) node) files nodes

-- the file's text has this fault, its first
pub record HasFault (known : Option (List ℕ)) (error : IniError) : Type 0 where
  pub text : List ℕ
  pub held : Holds known text
  pub refused : settings_of text ≡ Err error

-- this file has this fault, and each file before it says what a node is
pub record IsFirstFault (folder : Folder) (files : List (List ℕ)) (file : List ℕ)
    (error : IniError) : Type 0 where
  pub before : List (List ℕ)
  pub after : List (List ℕ)
  pub place : files ≡ before ++ file ∷ after
  pub nodes : List NodeSettings
  pub said : SayInOrder folder.holds before nodes
  pub fault : HasFault (folder.holds file) error

-- why the nodes are no group: the first of these that applies
abbrev pub IsGroupFault : List NodeSettings → GroupError → Type 0
IsGroupFault nodes NoPeering = ¬ AllPeer nodes
IsGroupFault nodes SamePeer = AllPeer nodes × ¬ PeersDiffer nodes
IsGroupFault nodes MissingPeer = AllPeer nodes × PeersDiffer nodes × ¬ AllListed nodes
IsGroupFault nodes Memory = ⊥

-- each file says what a node is, and the nodes are no group
pub record MakeNoGroup (folder : Folder) (files : List (List ℕ)) (error : GroupError) : Type 0 where
  pub nodes : List NodeSettings
  pub said : SayInOrder folder.holds files nodes
  pub fault : IsGroupFault nodes error

-- this is one of the files, and each file before it says what a node is
pub record IsReached (folder : Folder) (files : List (List ℕ)) (file : List ℕ) : Type 0 where
  pub before : List (List ℕ)
  pub after : List (List ℕ)
  pub place : files ≡ before ++ file ∷ after
  pub nodes : List NodeSettings
  pub said : SayInOrder folder.holds before nodes

-- Why files make no group: the first fault of a file, that it can't be read, or else why they are
-- no group; or memory ran out.
abbrev pub IsCheckFault : Folder → List (List ℕ) → Fault → Type 0
IsCheckFault folder files (fault.InFile file error) =
    (IsMemory error × IsReached folder files (string_bytes file))
    ⊎ IsFirstFault folder files (string_bytes file) error
IsCheckFault folder files (fault.OfGroup error) = (error ≡ Memory) ⊎ MakeNoGroup folder files error
IsCheckFault folder files (fault.Unread file reason) =
    IsReached folder files (string_bytes file) × folder.unreadable (string_bytes file)
IsCheckFault folder files fault.Memory = ⊤
IsCheckFault folder files _ = ⊥

-- The fault is one of the file with this name: its own first, or that it can't be read, or that
-- memory ran out.
abbrev pub IsFileFault : Folder → List ℕ → Fault → Type 0
IsFileFault folder name (fault.InFile file error) = (string_bytes file ≡ name)
    × (IsMemory error ⊎ HasFault (folder.holds name) error)
IsFileFault folder name (fault.Unread file reason) = (string_bytes file ≡ name)
    × folder.unreadable name
IsFileFault folder name fault.Memory = ⊤
IsFileFault folder name _ = ⊥

-- the line names how many nodes the files' group has, whose settings the files say, in order
pub record IsGroupLine (holds : List ℕ → Option (List ℕ)) (files : List (List ℕ)) (line : List ℕ)
    : Type 0 where
  pub nodes : List NodeSettings
  pub said : SayInOrder holds files nodes
  pub group : IsGroup nodes
  pub text : line ≡ group_text (length nodes)
