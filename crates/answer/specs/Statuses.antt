-- The exit status for each fault (own).
use Rattle.std.specs.Prelude.{ℕ}
use Rattle.ini_config.specs.declared.fault.IniCode.{IniCode}
use Rattle.ini_config.specs.declared.fault.IniCode.TheVariants as ini
use Rattle.ini_config.specs.declared.fault.GroupError.{GroupError}
use Rattle.ini_config.specs.declared.fault.GroupError.TheVariants as group
use Rattle.answer.specs.declared.fault.Fault.{Fault}
use Rattle.answer.specs.declared.fault.Fault.TheVariants.{Usage, InFile, InScript, Explained, OfGroup, Unread, Packet, NotACancel, Unexpected, Memory}

-- running out of memory is a fault in running, what is refused in a file isn't
abbrev pub file_status : IniCode → ℕ
file_status ini.Memory = 1
file_status code = 2

-- the same of a group
abbrev pub group_status : GroupError → ℕ
group_status group.Memory = 1
group_status error = 2

-- 2 for arguments that ask for nothing and for what is refused in settings or a script, 1 for a
-- fault in running
abbrev pub status_of : Fault → ℕ
status_of (Usage text) = 2
status_of (InFile file error) = file_status error.code
status_of (InScript file line) = 2
status_of (Explained text) = 2
status_of (OfGroup error) = group_status error
status_of (Unread file reason) = 1
status_of (Packet number) = 1
status_of NotACancel = 1
status_of (Unexpected reply) = 1
status_of Memory = 1
