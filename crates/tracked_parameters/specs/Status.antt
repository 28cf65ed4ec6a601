-- The body of a ParameterStatus (PostgreSQL manual, "Message Formats"): the name of a parameter and
-- its value, each ended by a zero byte.
use Rattle.std.specs.Prelude.{ℕ, ◌≡◌, List, ◌++◌}
use Rattle.startup.specs.StartupMessage.{HasNoZero}
use Rattle.startup.specs.Replies.{Report, zero_ended}
use Rattle.tracked_parameters.specs.declared.setting.Setting.{Setting}

-- a parameter and its value, wherever they lie in memory
abbrev pub told : Setting → Report
told setting = record { name = setting.name.now; value = setting.value.now }

-- the bytes report this value of this parameter
pub record IsStatus (body : List ℕ) (report : Report) : Type 0 where
  pub spelled : body ≡ zero_ended report.name ++ zero_ended report.value
  pub name : HasNoZero report.name
  pub value : HasNoZero report.value
