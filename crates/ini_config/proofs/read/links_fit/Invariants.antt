use Rattle.std.proofs.Common.{◌≡◌, ◌+◌, ◌≤◌}
use Rattle.indexmap.specs.IndexMap.{values}
use Rattle.ini_config.specs.View.{links_of}
use Rattle.ini_config.proofs.read.links_fit.Given as goal

abbrev pub invariant-loop-database : goal.invariant-loop-database
invariant-loop-database l = record { within : l.total ≤ 65535; counted : l.total + links_of l.pool l.database-iterator ≡ links_of l.pool (values l.databases) }
