-- Numbers and names of the errors in settings files, 20 to 28, and of groups, 40 to 43 (own).
use Rattle.std.specs.Prelude.{ℕ, ◌≡◌, List, codes}
use Rattle.ini_config.specs.declared.fault.IniCode.{IniCode}
use Rattle.ini_config.specs.declared.fault.IniCode.TheVariants.{BadLine, UnknownSection, UnknownKey, BadNumber, OutOfRange, Repeated, Missing, NotInProfile, Memory}
use Rattle.ini_config.specs.declared.fault.IniError.{IniError}
use Rattle.ini_config.specs.declared.fault.GroupError.{GroupError}
use Rattle.ini_config.specs.declared.fault.GroupError.TheVariants as group

-- the number of a refusal of a settings file
abbrev pub ini_number : IniCode → ℕ
ini_number BadLine = 20
ini_number UnknownSection = 21
ini_number UnknownKey = 22
ini_number BadNumber = 23
ini_number OutOfRange = 24
ini_number Repeated = 25
ini_number Missing = 26
ini_number NotInProfile = 27
ini_number Memory = 28

-- its name
abbrev pub ini_name : IniCode → List ℕ
ini_name BadLine = codes "BadLine"
ini_name UnknownSection = codes "UnknownSection"
ini_name UnknownKey = codes "UnknownKey"
ini_name BadNumber = codes "BadNumber"
ini_name OutOfRange = codes "OutOfRange"
ini_name Repeated = codes "Repeated"
ini_name Missing = codes "Missing"
ini_name NotInProfile = codes "NotInProfile"
ini_name Memory = codes "Memory"

-- a fault in a line; out of memory has line 0
abbrev pub fault_at : ℕ → IniCode → IniError
fault_at line Memory = record { line = 0; code = Memory }
fault_at line code = record { line = line; code = code }

-- memory ran out
abbrev pub IsMemory : IniError → Type 0
IsMemory fault = fault ≡ record { line = 0; code = Memory }

-- the number of a refusal of a group
abbrev pub group_number : GroupError → ℕ
group_number group.SamePeer = 40
group_number group.MissingPeer = 41
group_number group.NoPeering = 42
group_number group.Memory = 43

-- its name
abbrev pub group_name : GroupError → List ℕ
group_name group.SamePeer = codes "SamePeer"
group_name group.MissingPeer = codes "MissingPeer"
group_name group.NoPeering = codes "NoPeering"
group_name group.Memory = codes "Memory"
