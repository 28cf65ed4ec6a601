-- A parameter as it stands in the bytes of a packet (internal).
use Rattle.startup.specs.StartupMessage.{Parameter}
use Rattle.startup.specs.declared.parameter.Parameter.{Parameter as Read}

-- name and value
abbrev pub sent : Read → Parameter
sent p = record { name = p.name.now; value = p.value.now }
