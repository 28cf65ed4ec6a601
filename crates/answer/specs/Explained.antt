-- What `check --all` writes of each fault: the line of the fault and a sentence, and behind it
-- lines of free words on its cause (own).
use Rattle.std.specs.Prelude.{ℕ, ◌≡◌, List, ◌++◌, codes, flat_map}
use Rattle.std.specs.Fmt.{decimal}
use Rattle.std.specs.List.{AllZip}
use Rattle.std.specs.Str.Lines.{lines}
use Rattle.ini_config.specs.Codes.{ini_number, ini_name, group_number, group_name}
use Rattle.ini_config.specs.Faults.{Subject, Line, SectionNamed, KeyNamed, EntryNamed, LineFault}
use Rattle.ini_config.specs.declared.fault.IniCode.{IniCode}
use Rattle.ini_config.specs.declared.fault.IniCode.TheVariants as ini
use Rattle.ini_config.specs.declared.fault.GroupError.{GroupError}
use Rattle.ini_config.specs.declared.fault.GroupError.TheVariants as group
use Rattle.ini_config.specs.declared.faults.WholeFault.{WholeFault}
use Rattle.ini_config.specs.declared.faults.WholeFault.TheVariants as whole

-- what is wrong with a line, a section or a key of [pgbouncer]
abbrev pub line_words : IniCode → List ℕ
line_words ini.BadLine = codes "does not have the form KEY = VALUE in a section"
line_words ini.UnknownSection = codes "is not in this profile"
line_words ini.UnknownKey = codes "is not in this profile"
line_words ini.BadNumber = codes "is not a decimal number without leading zeros"
line_words ini.OutOfRange = codes "is outside its range"
line_words ini.Repeated = codes "is there for the second time"
line_words ini.Missing = codes "is required"
line_words ini.NotInProfile = codes "asks for what is not in this profile"
line_words ini.Memory = codes "is not read, since memory ran out"

-- what is wrong with an entry of [databases] or [peers]
abbrev pub entry_words : IniCode → List ℕ
entry_words ini.BadLine = codes "does not have the form NAME = KEY=VALUE KEY=VALUE .."
entry_words ini.UnknownSection = codes "is not in this profile"
entry_words ini.UnknownKey = codes "has a pair that is not in this profile"
entry_words ini.BadNumber = codes "has no decimal number where one belongs"
entry_words ini.OutOfRange = codes "has a number outside its range, or is the 65th entry"
entry_words ini.Repeated = codes "is there for the second time, or has a pair twice"
entry_words ini.Missing = codes "lacks a required pair"
entry_words ini.NotInProfile = codes "asks for what is not in this profile"
entry_words ini.Memory = codes "is not read, since memory ran out"

-- the name of what is at fault, and what is wrong with it
abbrev pub sentence : IniCode → Subject → List ℕ
sentence code Line = codes "the line " ++ line_words code
sentence code (SectionNamed name) = codes "[" ++ name ++ codes "] " ++ line_words code
sentence code (KeyNamed name) = name ++ codes " " ++ line_words code
sentence code (EntryNamed name) = name ++ codes " " ++ entry_words code

-- what is wrong with a file as a whole, by its kind and in a sentence
abbrev pub whole_code : WholeFault → IniCode
whole_code whole.PoolMode = ini.Missing
whole_code whole.AuthType = ini.Missing
whole_code whole.ListenAddr = ini.Missing
whole_code whole.Links = ini.OutOfRange

abbrev pub whole_sentence : WholeFault → List ℕ
whole_sentence whole.PoolMode = codes "pool_mode is required"
whole_sentence whole.AuthType = codes "auth_type is required"
whole_sentence whole.ListenAddr = codes "listen_addr is required"
whole_sentence whole.Links = codes "the databases have more than 65535 server connections"

abbrev pub group_sentence : GroupError → List ℕ
group_sentence group.SamePeer = codes "two files have the same peer_id"
group_sentence group.MissingPeer = codes "a file does not list the peer_id of another in [peers]"
group_sentence group.NoPeering = codes "one of several files has no peer_id, or 0"
group_sentence group.Memory = codes "memory ran out"

-- a fault of a file in a line, which is 0 for the file as a whole
abbrev pub explained : List ℕ → ℕ → IniCode → List ℕ → List ℕ
explained file line code words = file ++ codes ":" ++ decimal line ++ codes ": "
    ++ decimal (ini_number code) ++ codes " " ++ ini_name code ++ codes ": " ++ words ++ codes "\n"

abbrev pub line_text : List ℕ → LineFault → List ℕ
line_text file fault = explained file fault.line fault.code (sentence fault.code fault.subject)

abbrev pub whole_text : List ℕ → WholeFault → List ℕ
whole_text file fault = explained file 0 (whole_code fault) (whole_sentence fault)

-- a fault of a group
abbrev pub group_fault_text : GroupError → List ℕ
group_fault_text error = decimal (group_number error) ++ codes " " ++ group_name error
    ++ codes ": " ++ group_sentence error ++ codes "\n"

-- ---- with words on causes

-- a line of words, behind two spaces
abbrev pub note_text : List ℕ → List ℕ
note_text line = codes "  " ++ line ++ codes "\n"

-- all lines of words
abbrev pub notes_text : List ℕ → List ℕ
notes_text words = flat_map note_text (lines words)

-- a fault's line, and words on its cause
abbrev pub told_text : List ℕ → List ℕ → List ℕ
told_text line words = line ++ notes_text words

-- the text tells of a fault: it is the fault's line, and some words on its cause, or none
pub record IsTold (line told : List ℕ) : Type 0 where
  pub words : List ℕ
  pub told_is : told ≡ told_text line words

-- the text tells of each of these, in order
pub record TellsEach {B : Type 0} (tells : B → List ℕ → Type 0) (items : List B) (told : List ℕ)
    : Type 0 where
  pub parts : List (List ℕ)
  pub each : AllZip tells items parts
  pub told_is : told ≡ flat_map (λ part. part) parts

-- the text tells of all faults of a file: those of its lines, and those of the whole
pub record TellsFile (file : List ℕ) (faults : List LineFault) (whole : List WholeFault)
    (told : List ℕ) : Type 0 where
  pub in_lines : List ℕ
  pub lines_told : TellsEach (λ fault. IsTold (line_text file fault)) faults in_lines
  pub in_whole : List ℕ
  pub whole_told : TellsEach (λ fault. IsTold (whole_text file fault)) whole in_whole
  pub told_is : told ≡ in_lines ++ in_whole

-- a text grew by one that tells this
abbrev pub GrowsBy : (List ℕ → Type 0) → List ℕ → List ℕ → Type 0
GrowsBy Tells old new = (part : List ℕ) × Tells part × (new ≡ old ++ part)
